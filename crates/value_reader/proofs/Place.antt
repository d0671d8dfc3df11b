-- Entries lie where the grammar has them, and only there.
-- Assumes nothing.
use mathlib.Core.Path.{◌≡◌, refl, sym, ap, ◌∙◌}
use mathlib.Core.List.{List, [], ◌∷◌, ◌++◌, append_assoc}
use Prim.Native.Nat.{ℕ, suc, ◌+◌, ◌≤◌}
use native.Mathlib.Omega.{arith}
use lib.Dec.{eqb}
use lib.ListN.{length, get_or, drop, length-append}
use Rattle.value_cursor.specs.Bytes.{is_blank, is_uri}
use Rattle.value_cursor.specs.Walk.{run_at}
use Rattle.value_cursor.specs.Parts.{white_at, ending_at, span_to, found, closed_uri, entry_at}
use Rattle.value_cursor.specs.Reading.{Reading, unfit, spans, add, reading_from}
use Rattle.value_cursor.specs.Pass.{nowhere}
use Rattle.value_cursor.specs.declared.alert_param.Span.{Span}
use Rattle.value_cursor.specs.declared.alert_param.Ending.{Ending}
use Rattle.value_cursor.specs.declared.alert_param.Ending.TheVariants.{ValueEnd, NextEntry}
use Rattle.value_cursor.specs.declared.alert_param.Found.{Found}
use Rattle.value_cursor.specs.declared.alert_param.Found.TheVariants.{Last, More}
use Rattle.value_cursor.proofs.RunLaws.{by-test}
use Rattle.value_cursor.proofs.ReadingLaws.{reading-last, reading-more, reading-none}
use Rattle.value_reader.specs.Grammar.{White, Before}
use Rattle.value_reader.specs.Grammar as G
use Rattle.value_reader.proofs.Complete.{front-in, white-past, between, placed, entry-to}
use Rattle.std.specs.Prelude.{Option, Some, None}

-- the URI that is found begins right after the white space and its bracket
abbrev StartsAt : ℕ → Option Found → Type 0
StartsAt n (Some (Last p)) = p.start ≡ n
StartsAt n (Some (More p c)) = p.start ≡ n
StartsAt n None = Unit

found-starts : (a e : ℕ) (t : Option Ending) → StartsAt a (found (span_to a e) t)
found-starts a e (Some ValueEnd) = refl
found-starts a e (Some (NextEntry c)) = refl
found-starts a e None = tt

entry-starts : (s : List ℕ) (at : ℕ) → StartsAt (white_at s at + 1) (entry_at s at)
unfolding entry_at
entry-starts s at =
    let a = white_at s at + 1 in
    let e = run_at is_uri s a in
    by-test (StartsAt a) (eqb (get_or s (white_at s at) 0) 60) (closed_uri s a e) None
    (λ _. by-test (StartsAt a) (eqb a e) None _ (λ _. tt)
    (λ _. by-test (StartsAt a) (eqb (get_or s e 0) 62) (found (span_to a e) (ending_at s (e + 1))) None
    (λ _. found-starts a e (ending_at s (e + 1))) (λ _. tt)))
    (λ _. tt)

-- one part before the others that are read
added : (r x : Reading) (p : Span) (ps : List Span) → r ≡ spans ps → r ≡ add p x
    → (qs : List Span) × (x ≡ spans qs) × (ps ≡ p ∷ qs)
added r unfit p ps e f = absurd (let z : ◌≡◌ {A = Reading} unfit (spans ps) = sym f ∙ e in
    let y : ◌≡◌ {A = ℕ} 0 1 = cc in omega arith)
added r (spans qs) p ps e f = (qs, refl, cc)

next_start : (p : Span) (ps qs : List Span) (k n m : ℕ) → ps ≡ p ∷ qs → (get_or qs k nowhere).start ≡ n → n ≡ m
    → (get_or ps (suc k) nowhere).start ≡ m
next_start p ps qs k n m e f g = ap (λ (l : List Span). (get_or l (suc k) nowhere).start) e ∙ f ∙ g

module _ (s : List ℕ) where
  -- the first part that is read from a position begins where the entry there has it
  first-starts : (at n : ℕ) (ps : List Span) → reading_from s at ≡ spans ps → (f : Option Found) → f ≡ entry_at s at
      → StartsAt n f → (get_or ps 0 nowhere).start ≡ n
  first-starts at n ps e (Some (Last p)) q h =
      let r = reading-last s at (Some (Last p)) q p refl in
      let z : ps ≡ p ∷ [] = same (reading_from s at) ps (p ∷ []) e r.0 in
      ap (λ (l : List Span). (get_or l 0 nowhere).start) z ∙ h
    where
      same : (r : Reading) (ps qs : List Span) → r ≡ spans ps → r ≡ spans qs → ps ≡ qs
      same r ps qs i j = cc
  first-starts at n ps e (Some (More p c)) q h =
      let r = reading-more s at (Some (More p c)) q p c refl in
      let a = added (reading_from s at) (reading_from s c.at) p ps e r.0 in
      ap (λ (l : List Span). (get_or l 0 nowhere).start) a.2 ∙ h
  first-starts at n ps e None q h =
      absurd (never (reading_from s at) e (reading-none s at None q refl))
    where
      never : (r : Reading) → r ≡ spans ps → r ≡ unfit → ⊥
      never r i j = let z : ◌≡◌ {A = ℕ} 0 1 = cc in omega arith

  -- what stands before entry k is as long as its place says
  pub starts-after : {a : List ℕ} {k : ℕ} → Before White k a → (at : ℕ) → at ≤ length s → (b : List ℕ) → drop at s ≡ a ++ b
      → (ps : List Span) → reading_from s at ≡ spans ps → (get_or ps k nowhere).start ≡ at + length a
  unfolding is_blank
  starts-after (G.bracket {w = w} ww) at h b e ps q =
      let f : drop at s ≡ w ++ (60 ∷ b) = e ∙ append_assoc w (60 ∷ []) b in
      let i = white-past s at w (60 ∷ b) f ww refl in
      let l = front-in s (white_at s at) 60 b i in
      let d = between s at (white_at s at) w (60 ∷ b) f i h (omega arith) in
      let n : white_at s at + 1 ≡ at + length (w ++ (60 ∷ [])) = omega (arith, length-append w (60 ∷ [])) in
      first-starts at (white_at s at + 1) ps q (entry_at s at) refl (entry-starts s at) ∙ n
  starts-after (G.entries {w = w} {e = n} {x = x} {u = u} {b = a} {k = k} ww ke wx before) at h b e ps q =
      let f : drop at s ≡ w ++ (n ++ (x ++ (44 ∷ (a ++ b)))) = e ∙ simp append_assoc in
      let i = entry-to s ke at w x (44 ∷ (a ++ b)) ww wx refl h f in
      let c = i.0.0 in
      let g = reading-more s at (entry_at s at) refl (placed at w u) c i.0.1 in
      let m = added (reading_from s at) (reading_from s c.at) (placed at w u) ps q g.0 in
      let r = starts-after before c.at g.2 b i.0.2 m.0 m.1 in
      let j : drop at s ≡ (w ++ (n ++ (x ++ (44 ∷ [])))) ++ (a ++ b) = f ∙ simp append_assoc in
      let t = between s at c.at (w ++ (n ++ (x ++ (44 ∷ [])))) (a ++ b) j i.0.2 h g.2 in
      let z : c.at + length a ≡ at + length (w ++ (n ++ (x ++ (44 ∷ a)))) = omega (
        arith,
        length-append w (n ++ (x ++ (44 ∷ []))),
        length-append n (x ++ (44 ∷ [])),
        length-append x (44 ∷ []),
        length-append w (n ++ (x ++ (44 ∷ a))),
        length-append n (x ++ (44 ∷ a)),
        length-append x (44 ∷ a),
      ) in
      next_start (placed at w u) ps m.0 k (c.at + length a) (at + length (w ++ (n ++ (x ++ (44 ∷ a))))) m.2 r z
