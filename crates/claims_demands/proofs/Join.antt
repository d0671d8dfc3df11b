-- Accepted values with commas between them are a value, with the URIs of all.
use Prim.Native.Nat.{ℕ, ◌≤◌}
use mathlib.Core.Path.{◌≡◌, sym, subst}
use mathlib.Core.List.{List, [], ◌∷◌, ◌++◌, append_assoc, append-nil}
use lib.ListN.{length}
use Rattle.base_numbers.specs.Numbers.{most_entries, most_value_bytes}
use Rattle.value_reader.specs.Value.{refusal_of, uris_of}
use Rattle.value_reader.specs.Grammar.{White, Value}
use Rattle.value_reader.specs.Grammar as G
use Rattle.value_reader.proofs.Agree.{refused-exactly, accepted-list, unique}
use Rattle.claims_demands.specs.Feeding.{all_uris, joined, AllAccepted}

-- two values
joins : {v w : List ℕ} {us ws : List (List ℕ)} → Value White v us → Value White w ws → Value White (v ++ (44 ∷ w)) (us ++ ws)
joins {w = l} {ws = ws} (G.last {w = w} {e = e} {x = x} {u = u} a b c) k =
    let q : (w ++ (e ++ x)) ++ (44 ∷ l) ≡ w ++ (e ++ (x ++ (44 ∷ l))) = simp append_assoc in
    subst (λ (s : List ℕ). Value White s (u ∷ ws)) (sym q) (G.comma a b c k)
joins {w = l} {ws = ws} (G.comma {w = w} {e = e} {x = x} {u = u} {v = v} {us = us} a b c d) k =
    let q : (w ++ (e ++ (x ++ (44 ∷ v)))) ++ (44 ∷ l) ≡ w ++ (e ++ (x ++ (44 ∷ (v ++ (44 ∷ l))))) = simp append_assoc in
    subst (λ (s : List ℕ). Value White s (u ∷ (us ++ ws))) (sym q) (G.comma a b c (joins d k))

-- any number of them
join-value : (v : List ℕ) (vs : List (List ℕ)) → AllAccepted (v ∷ vs) → Value White (joined v vs) (all_uris (v ∷ vs))
join-value v [] (z, a) = subst (Value White v) (sym (append-nil (uris_of v))) (accepted-list v z)
join-value v (w ∷ vs) (z, a) = joins (accepted-list v z) (join-value w vs a)

-- within the limits they are accepted, with the URIs of all
pub joined-read : (v : List ℕ) (vs : List (List ℕ)) → AllAccepted (v ∷ vs) → length (joined v vs) ≤ most_value_bytes → length (all_uris (v ∷ vs)) ≤ most_entries
    → (refusal_of (joined v vs) ≡ 0) × (uris_of (joined v vs) ≡ all_uris (v ∷ vs))
joined-read v vs a short few =
    let s = joined v vs in
    let k = join-value v vs a in
    let z = (refused-exactly s 0).1 (short, all_uris (v ∷ vs), k, few) in
    (z, unique s (uris_of s) (all_uris (v ∷ vs)) (accepted-list s z) k)
