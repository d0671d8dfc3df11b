-- The claims of specs/Values.antt, proved.
use Prim.Native.Nat.{ℕ, ◌≤◌, ◌<◌}
use mathlib.Core.Path.{◌≡◌, refl, ap, subst, ◌∙◌}
use mathlib.Core.Bool.{true}
use mathlib.Core.Option.{Option}
use mathlib.Core.List.Memᴰ
use mathlib.Core.List.{List, [], ◌∷◌, map, Memᴰ}
use lib.ListN.{length, length-map}
use native.Mathlib.Omega.{arith}
use Rattle.base_numbers.specs.Numbers.{most_value_bytes}
use Rattle.theory_resolution.specs.Table.{Urn}
use Rattle.theory_resolution.specs.Nodes.{nodes, is_node}
use Rattle.theory_resolution.specs.Direct.{used_of}
use Rattle.theory_resolution.proofs.Numbers.{number-node}
use Rattle.value_reader.specs.Grammar.{White, Value}
use Rattle.value_reader.specs.Value.{refusal_of, uris_of}
use Rattle.value_reader.proofs.Agree.{refused-exactly, accepted-list, unique}
use Rattle.table_decode.specs.Tables.{table_refusal, table_of, category_names}
use Rattle.sample_library.specs.Sample.{node_uri, value_of}
use Rattle.sample_library.proofs.ValueLaws.{Good, bare-value, good-node}
use Rattle.resolve_library.specs.Resolve.{taken_as}
use Rattle.claims_kept.specs.Marks.{used_in, shown_urns}
use Rattle.claims_kept.specs.Values.{uri_in, EveryShown}
use Rattle.claims_kept.proofs.Marks.{ShownList, shown-list}
use Rattle.claims_kept.proofs.Uris.{node-used}
use Rattle.claims_kept.proofs.Bytes.{bytes_of, table-bytes, node-bytes, bytes-rise, value-bytes}

-- nodes' URNs are used as the nodes
all-used : (t : List ℕ) → table_refusal t ≡ 0 → (us : List Urn) → ((u : Urn) → Memᴰ u us → is_node (nodes (table_of t)) u.cat u.path ≡ true)
    → used_of (taken_as t (map (uri_in t) us)) ≡ us
all-used t e [] h = refl
all-used t e (u ∷ us) h =
    ap (λ (o : Option Urn). used_of (o ∷ taken_as t (map (uri_in t) us))) (node-used t e u (h u (Memᴰ.head refl)))
    ∙ ap (λ (l : List Urn). u ∷ l) (all-used t e us (λ v m. h v (Memᴰ.tail m)))

-- and may stand in entries
good-uri : (t : List ℕ) → table_refusal t ≡ 0 → (u : Urn) → is_node (nodes (table_of t)) u.cat u.path ≡ true → Good (uri_in t u)
unfolding node_uri
good-uri t e u n =
    let w = number-node (nodes (table_of t)) u.cat u.path n in
    subst (λ (x : Urn). Good (uri_in t x)) w.3 (good-node t e 0 w.0 w.1)

good-uris : (t : List ℕ) → table_refusal t ≡ 0 → (us : List Urn) → ((u : Urn) → Memᴰ u us → is_node (nodes (table_of t)) u.cat u.path ≡ true)
    → (v : List ℕ) → Memᴰ v (map (uri_in t) us) → Good v
good-uris t e us h v m = let w = Memᴰ.of_map (uri_in t) us m in subst Good w.2 (good-uri t e w.0 (h w.0 w.1))

-- a list of nodes as a value
record Reads (t : List ℕ) (us : List Urn) : Type 0 where
  grammar : Value White (value_of (map (uri_in t) us)) (map (uri_in t) us)
  accepted : refusal_of (value_of (map (uri_in t) us)) ≡ 0
  used : used_in t (value_of (map (uri_in t) us)) ≡ us

reads : (t : List ℕ) → table_refusal t ≡ 0 → (us : List Urn) → 0 < length us → length us ≤ 32 → length (value_of (map (uri_in t) us)) ≤ most_value_bytes
    → ((u : Urn) → Memᴰ u us → is_node (nodes (table_of t)) u.cat u.path ≡ true) → Reads t us
reads t e [] has few short h = absurd (omega arith)
reads t e (u ∷ us) has few short h =
    record {
      grammar = k;
      accepted = ok;
      used =
          ap (λ (x : List (List ℕ)). used_of (taken_as t x)) (unique v (uris_of v) (uri_in t u ∷ map (uri_in t) us) (accepted-list v ok) k)
          ∙ all-used t e (u ∷ us) h;
    }
  where
    v : List ℕ
    v = value_of (uri_in t u ∷ map (uri_in t) us)

    g : (w : List ℕ) → Memᴰ w (uri_in t u ∷ map (uri_in t) us) → Good w
    g = good-uris t e (u ∷ us) h

    k : Value White (value_of (uri_in t u ∷ map (uri_in t) us)) (uri_in t u ∷ map (uri_in t) us)
    k = bare-value (uri_in t u) (map (uri_in t) us) g

    ok : refusal_of (value_of (uri_in t u ∷ map (uri_in t) us)) ≡ 0
    ok = (refused-exactly v 0).1 (omega (arith, short), uri_in t u ∷ map (uri_in t) us, k, omega (arith, few, length-map us (uri_in t)))

some-urn : (us : List Urn) (u : Urn) → Memᴰ u us → 0 < length us
some-urn [] u m = absurd (Memᴰ.not-nil m)
some-urn (x ∷ us) u m = omega arith

pub every-shown : EveryShown
every-shown t set d e k = record { grammar = r.grammar; short = short; accepted = r.accepted; used = r.used }
  where
    s : ShownList t set d
    s = shown-list t set d e k

    -- 3,826 bytes at the most
    short : length (value_of (map (uri_in t) (shown_urns t set d))) ≤ most_value_bytes
    short =
        omega (
          arith,
          value-bytes t (shown_urns t set d),
          s.few,
          s.bounded (bytes_of (category_names t)) 255 (bytes-rise (category_names t)) (node-bytes t s.formed),
          table-bytes t s.formed,
        )

    r : Reads t (shown_urns t set d)
    r = reads t s.formed (shown_urns t set d) (some-urn (shown_urns t set d) s.lost.given.by s.lost.given.listed) s.few short s.of-nodes
