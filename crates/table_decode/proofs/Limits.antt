-- The limits of a well-formed table are kept by all and reached by the example tables.
use Prim.Native.Nat.{ℕ, ◌≤◌}
use mathlib.Core.Path.{◌≡◌, refl, ap, subst}
use mathlib.Core.Logic.{◌⊎◌, inl, inr}
use mathlib.Core.List.Memᴰ
use mathlib.Core.List.{List, [], ◌∷◌, Memᴰ}
use native.Mathlib.Omega.{arith}
use lib.Dec.{ltb}
use lib.ListN.{length, get_or}
use borrow.Author.Tests.{ltb-false}
use Rattle.base_lists.proofs.Tests.{all-mem}
use Rattle.base_lists.proofs.Bools.{by_test}
use Rattle.base_lists.specs.Cuts.{past, up_to}
use Rattle.theory_resolution.specs.Names.{Name, Parts}
use Rattle.theory_resolution.specs.Table.{Urn}
use Rattle.theory_resolution.specs.Nodes.{nodes}
use Rattle.base_text.specs.Text.{fields, on_first, after_colons, text_of}
use Rattle.urn_names.specs.Names.{name_ok}
use Rattle.urn_names.proofs.Labels.{label-length, name-labels}
use Rattle.table_sections.specs.Stored.{and_then, byte_in, counted, stored, stored_from, text, times}
use Rattle.table_sections.proofs.FaultLaws.{Few, stored-lengths}
use Rattle.table_decode.specs.Tables.{category_names, judged_read, names_read, table_of, table_read, table_refusal}
use Rattle.table_decode.specs.Limits.{Limits, PathOf, signals_read, StoredSignal, NameOf, UrnOf, LabelOf}
use Rattle.table_decode.specs.Examples.{least, fullest, label, name, long_urns, longest}
use Rattle.table_decode.proofs.Accepting.{accepted, fields-parts, judged-zero, refusal-zero, formed-urn}
use Rattle.table_decode.proofs.Examples.{least-formed, fullest-formed, longest-formed, over-refused}

-- a silent signal and one with a URN are two
two : (l : List (List Urn)) (sig : List Urn) (u : Urn) → get_or l 0 [] ≡ [] → Memᴰ sig l → Memᴰ u sig → 2 ≤ length l
two [] sig u e m k = absurd (Memᴰ.not-nil m)
two (x ∷ []) sig u e m k = go (Memᴰ.cases_cons m)
  where
    go : (sig ≡ x) ⊎ Memᴰ sig [] → 2 ≤ 1
    go (inl f) = absurd (Memᴰ.not-nil (rw e at (rw f at k)))
    go (inr n) = absurd (Memᴰ.not-nil n)
two (x ∷ y ∷ l) sig u e m k = omega arith

not-empty : (p : Parts) → (p ≡ [] → ⊥) → 1 ≤ length p
not-empty [] n = absurd (n refl)
not-empty (x ∷ p) n = omega arith

-- what the example tables have
least-counts : (table_of least).cats ∷ length (table_of least).signals ∷ [] ≡ 1 ∷ 2 ∷ []
unfolding fields on_first past up_to and_then byte_in counted stored stored_from text times table_of table_read
least-counts = refl

most-counts : (table_of fullest).cats ∷ length (table_of fullest).signals ∷ length (nodes (table_of fullest)) ∷ [] ≡ 8 ∷ 32 ∷ 64 ∷ []
unfolding fields on_first past up_to and_then byte_in counted stored stored_from text times table_of table_read nodes
most-counts = refl

shortest : PathOf least 1
unfolding fields on_first past up_to and_then byte_in counted stored stored_from text times table_of table_read
shortest = (_, Memᴰ.tail (Memᴰ.head refl), _, Memᴰ.head refl, refl)

deepest : PathOf fullest 8
unfolding fields on_first past up_to and_then byte_in counted stored stored_from text times table_of table_read
deepest = (_, Memᴰ.tail (Memᴰ.head refl), _, Memᴰ.head refl, refl)

long-bytes : length longest ≡ 8192
unfolding after_colons text_of
long-bytes = refl

long-name : NameOf longest 55
unfolding and_then byte_in counted stored stored_from text times category_names names_read after_colons text_of
long-name = (
  name,
  Memᴰ.tail (Memᴰ.tail (Memᴰ.tail (Memᴰ.tail (Memᴰ.tail (Memᴰ.tail (Memᴰ.tail (Memᴰ.head refl))))))),
  refl,
)

many-urns : StoredSignal longest long_urns
unfolding and_then byte_in counted stored stored_from text times after_colons text_of
many-urns = Memᴰ.tail (Memᴰ.head refl)

long-urn : UrnOf longest 255
unfolding after_colons text_of
long-urn = (long_urns, many-urns, _, Memᴰ.head refl, refl)

long-label : LabelOf longest 27
unfolding after_colons text_of fields on_first
long-label = (long_urns, many-urns, _, Memᴰ.head refl, name, Memᴰ.tail (Memᴰ.head refl), label 27, Memᴰ.head refl, refl)

-- what is stored in a well-formed table
module _ (t : List ℕ) (e : table_refusal t ≡ 0) where
  few_bytes : length t ≤ 8192
  unfolding table_refusal judged_read
  few_bytes = by_test (ltb 8192 (length t)) (λ b. let q : ◌≡◌ {A = ℕ} 4 0 = rw b at e in absurd (omega arith)) (λ b. ltb-false 8192 (length t) b)

  short-name : (x : Name) → Memᴰ x (category_names t) → length x ≤ 55
  unfolding category_names names_read
  short-name x m =
      let a = refusal-zero t e in
      (stored-lengths t a.0 a.1 a.2).0 x (subst (λ (l : List Name). Memᴰ x l) (ap names_read a.2) m)

  stored-few : (sig : List (List ℕ)) → StoredSignal t sig → Few sig
  stored-few sig m =
      let a = refusal-zero t e in
      (stored-lengths t a.0 a.1 a.2).1 sig (subst (λ (l : List (List (List ℕ))). Memᴰ sig l) (ap signals_read a.2) m)

  stored-label : (sig : List (List ℕ)) → StoredSignal t sig → (u : List ℕ) → Memᴰ u sig → (x : Name) → Memᴰ x (fields 58 u)
      → (l : List ℕ) → Memᴰ l (fields 64 x) → length l ≤ 27
  stored-label sig m u k x f l g =
      let a = refusal-zero t e in
      let o = formed-urn t a.0 a.1 a.2 (judged-zero a.0 a.3) sig (subst (λ (r : List (List (List ℕ))). Memᴰ sig r)
      (ap signals_read a.2) m) u k in
      (label-length l (name-labels x (all-mem name_ok (fields 58 u) x (fields-parts u o).2 f) l g)).1

-- the number at place i of two equal lists
at : (i : ℕ) (l m : List ℕ) → l ≡ m → get_or l i 0 ≡ get_or m i 0
at i l m e = ap (λ (x : List ℕ). get_or x i 0) e

pub limits : Limits
limits =
    record {
      least-categories = ((λ t e k h. omega (arith, h, (accepted t e).some-category)), (least, least-formed, at 0 _ _ least-counts));
      most-categories = ((λ t e k h. omega (arith, h, (accepted t e).few-categories)), (fullest, fullest-formed, at 0 _ _ most-counts));
      least-signals = ((λ t e k h. omega (arith, h, some-signals t e)), (least, least-formed, at 1 _ _ least-counts));
      most-signals = ((λ t e k h. omega (arith, h, (accepted t e).few-signals)), (fullest, fullest-formed, at 1 _ _ most-counts));
      most-nodes = ((λ t e k h. omega (arith, h, (accepted t e).few-nodes)), (fullest, fullest-formed, at 2 _ _ most-counts));
      least-parts = (
        (λ t e k p. omega (arith, p.4, not-empty p.2.path ((accepted t e).some-part p.0 p.1 p.2 p.3))),
        (least, least-formed, shortest),
      );
      most-parts = (
        (λ t e k p. omega (arith, p.4, (accepted t e).few-parts p.0 p.1 p.2 p.3)),
        (fullest, fullest-formed, deepest),
      );
      most_bytes = ((λ t e k h. omega (arith, h, few_bytes t e)), (longest, longest-formed, long-bytes));
      most-in-name = ((λ t e k p. omega (arith, p.2, short-name t e p.0 p.1)), (longest, longest-formed, long-name));
      most-urns = ((λ t e k p. omega (arith, p.2, (stored-few t e p.0 p.1).0)), (longest, longest-formed, (long_urns, many-urns, refl)));
      most-in-urn = (
        (λ t e k p. omega (arith, p.4, (stored-few t e p.0 p.1).1 p.2 p.3)),
        (longest, longest-formed, long-urn),
      );
      most-in-label = (
        (λ t e k p. omega (arith, p.8, stored-label t e p.0 p.1 p.2 p.3 p.4 p.5 p.6 p.7)),
        (longest, longest-formed, long-label),
      );
      over = over-refused;
    }
  where
    some-signals : (t : List ℕ) → table_refusal t ≡ 0 → 2 ≤ length (table_of t).signals
    some-signals t e =
        let a = accepted t e in
        let s = a.used 0 a.some-category in
        two (table_of t).signals s.0 s.2 a.well.silent s.1 s.3
