-- The chief laws: there and back, both ways.
use Prim.Native.Nat.{ℕ, ◌-◌, ◌≤◌, ◌<◌}
use mathlib.Core.Path.{◌≡◌, refl, ap, sym, ◌∙◌}
use mathlib.Core.Logic.{◌⊎◌, inl, inr, ◌≢◌}
use mathlib.Core.Bool.{Bool, true, false, cond, and-eq-true_iff}
use mathlib.Core.List.{List}
use native.Mathlib.Nat.{sub-zero}
use native.Mathlib.Omega.{arith}
use native.Mathlib.Decide.{dec_lt}
use lib.ListN.{length, replicate, length-append, length-replicate}
use lib.Seq.{take-append_seam, drop-append_seam}
use lib.Dec.{eqb, leb, ltb}
use borrow.Author.Tests.{le-ltb, le-leb, lt-leb, leb-true, leb-false, eq-eqb}
use Rattle.base_numbers.specs.Numbers.{most_name_bytes, most_nodes, most_signals, most_table_bytes}
use Rattle.base_lists.proofs.Bools.{by_test}
use Rattle.base_lists.specs.Tests.{all, no_two}
use Rattle.theory_resolution.specs.Names.{same_name}
use Rattle.urn_names.specs.Urn.{stored_name, urn_ok}
use Rattle.table_sections.specs.Stored.{Read, fault, got, text, counted, Stored, stored, sections}
use Rattle.table_decode.specs.Tables.{formed, listed, table_in, judged, table_refusal, table_of}
use Rattle.table_sections.proofs.FaultLaws.{Faulty, fault-then, fault-got, fault-some, fault-if, fault-byte, fault-text, fault-counted}
use Rattle.table_decode.proofs.Judging.{refusal-read, table-said}
use Rattle.table_decode.proofs.Accepting.{Passed, judged-zero, refusal-zero}
use Rattle.tree_sections.specs.Tree.{Tree, any_byte, node, signals_from, nodes_from, tree}
use Rattle.tree_forms.specs.Bytes.{tree_bytes, stored_bytes}
use Rattle.tree_forms.specs.Meaning.{table_of_tree, tree_in, stored_in, tree_of, stored_of}
use Rattle.tree_forms.specs.Refusals.{named, grown, short, tree_judged, tree_judged_read, tree_refusal, tree_table_read, tree_table}
use Rattle.tree_forms.specs.Conversion.{tree_form_read, tree_form, old_form_read, old_form, refused, filled, converted, to_tree, from_tree, fits_old, made}
use Rattle.tree_forms.specs.Claims.{OldNewOld, NewOldNew, OldAndBack, NewAndBack, Kept, Cleared}
use Rattle.tree_forms.proofs.Writing.{FitsStored, stored-reads, stored_back, tree-reads, tree-back}
use Rattle.tree_forms.proofs.Texts.{table-again, stored-again}
use Rattle.tree_forms.proofs.Growing.{Grown, grown-is, is-grown, tree_again}
use Rattle.tree_forms.proofs.Sound.{tree-names, tree-sound, stored-fits, tree-says, tree-named, tree-grown, stored-sound, tree-fits}
use Rattle.tree_forms.proofs.Sound.{fits-short, tree-small}

-- a fault of the tree form has a number: 5 or 6
fault-node : (t : List ℕ) (at : ℕ) → Faulty (node t at)
unfolding node
fault-node t at =
    fault-then (any_byte t at) _ (fault-byte 0 255 t at)
    (λ c p. fault-then (any_byte t p) _ (fault-byte 0 255 t p) (λ k q. fault-then (text most_name_bytes t q) _ (fault-text most_name_bytes t q)
    (λ x r. fault-got _ r)))

pub fault-tree : (t : List ℕ) → Faulty (tree t)
unfolding tree nodes_from signals_from
fault-tree t =
    fault-then (counted 1 8 (text most_name_bytes t) t 0) _ (fault-counted 1 8 (text most_name_bytes t) t (fault-text most_name_bytes t) 0)
    (λ ns p. fault-then (counted 1 most_nodes (node t) t p) _ (fault-counted 1 most_nodes (node t) t (fault-node t) p)
    (λ ds q. fault-then (counted 1 most_signals (counted 0 8 (any_byte t) t) t q) _
    (fault-counted 1 most_signals (counted 0 8 (any_byte t) t) t (fault-counted 0 8 (any_byte t) t (fault-byte 0 255 t)) q)
    (λ ss r. fault-if (ltb r (length t)) _ _ (fault-some 5 (omega arith, omega arith)) (fault-got _ r))))

-- the tests of a tree that is not refused
pub record TreePassed (x : Tree) : Type 0 where
  pub names : named x ≡ true
  pub grows : Grown x
  pub shorts : short (stored_of x) ≡ true
  pub old : judged (stored_of x) ≡ 0

pub tree-passed : (x : Tree) → tree_judged x ≡ 0 → TreePassed x
unfolding tree_judged
tree-passed x e = go (named x) (grown x) (short (stored_of x)) refl refl refl e
  where
    go : (a b c : Bool) → named x ≡ a → grown x ≡ b → short (stored_of x) ≡ c
        → ◌≡◌ {A = ℕ} (cond a (cond b (cond c (judged (stored_of x)) 6) 21) 7) 0 → TreePassed x
    go true true true p q r e = record { names = p; grows = grown-is x q; shorts = r; old = e }
    go true true false p q r e = absurd (omega arith)
    go true false c p q r e = absurd (omega arith)
    go false b c p q r e = absurd (omega arith)

pub tree-zero : (t : List ℕ) → tree_refusal t ≡ 0 → (x : Tree) × (p : ℕ) × (tree t ≡ got x p) × (tree_judged x ≡ 0)
unfolding tree_refusal tree_judged_read
tree-zero t e = by_test (ltb most_table_bytes (length t)) (λ b. absurd (omega (arith, rw b at e))) (λ b. go (tree t) refl (rw b at e))
  where
    go : (r : Read Tree) → tree t ≡ r → tree_judged_read r ≡ 0 → (x : Tree) × (p : ℕ) × (tree t ≡ got x p) × (tree_judged x ≡ 0)
    go (fault k) f g = absurd (omega (arith, (fault-tree t k f).0, g))
    go (got x p) f g = (x, p, f, g)

pub tree-refusal : (t : List ℕ) (x : Tree) (p : ℕ) → length t ≤ most_table_bytes → tree t ≡ got x p → tree_refusal t ≡ tree_judged x
unfolding tree_refusal tree_judged_read
tree-refusal t x p h e = rw (le-ltb most_table_bytes (length t) h, e)

tree-table : (t : List ℕ) (x : Tree) (p : ℕ) → tree t ≡ got x p → tree_table t ≡ table_of_tree x
unfolding tree_table tree_table_read
tree-table t x p e = ap tree_table_read e

pub tree-form : (t : List ℕ) (s : Stored) (p : ℕ) → stored t ≡ got s p → tree_form t ≡ tree_bytes (tree_of s)
unfolding tree_form tree_form_read
tree-form t s p e = ap tree_form_read e

pub old-form : (t : List ℕ) (x : Tree) (p : ℕ) → tree t ≡ got x p → old_form t ≡ stored_bytes (stored_of x)
unfolding old_form old_form_read
old-form t x p e = ap old_form_read e

within-size : (t : List ℕ) → length t ≤ most_table_bytes → sections t ≡ stored t
within-size t h = rw (le-ltb most_table_bytes (length t) h)

-- the tree of a stored table that is not refused
module _ (t : List ℕ) (s : Stored) (q : ℕ) (r : stored t ≡ got s q) (g : Passed s) (f : FitsStored s) where
  same-table : table_of_tree (tree_of s) ≡ table_in s
  same-table = tree-says s.names (table_in s) refl (stored-sound t s q r g)

  same-stored : stored_of (tree_of s) ≡ s
  unfolding tree_in
  same-stored = ap (stored_in s.names) same-table ∙ stored-again s g.form g.lists

  names-formed : all stored_name s.names ≡ true
  unfolding formed
  names-formed = ((and-eq-true_iff (all stored_name s.names) (all (all urn_ok) s.signals)).0 g.form).0

  tree-judged : judged s ≡ 0 → tree_judged (tree_of s) ≡ 0
  unfolding tree_judged
  tree-judged j =
      rw (
        tree-named s.names (table_in s) refl (stored-sound t s q r g) names-formed,
        is-grown (tree_of s) (tree-grown s.names (table_in s) refl (stored-sound t s q r g)),
        same-stored,
        fits-short s f,
      ) j

-- a well-formed table's tree form is well-formed, says the same table, and its old form is the table
pub old-new-old : (t : List ℕ) → table_refusal t ≡ 0 → OldNewOld t
old-new-old t e =
    let z = refusal-zero t e in
    go z.0 z.1 z.2 z.3
  where
    go : (s : Stored) (q : ℕ) → stored t ≡ got s q → judged s ≡ 0 → OldNewOld t
    go s q r j =
        let g = judged-zero s j in
        let b = stored_back t s q r in
        let f = tree-fits t s q r g b.0 in
        let n = tree-reads (tree_of s) f in
        let h = tree-small (tree_of s) f in
        let w = tree-form t s q r in
        record {
          accepted = ap tree_refusal w ∙ tree-refusal (tree_bytes (tree_of s)) (tree_of s) n.0 (omega (arith, h)) n.1 ∙ tree-judged t s q r g b.0 j;
          small = omega (arith, h, ap length w);
          says = ap tree_table w ∙ tree-table (tree_bytes (tree_of s)) (tree_of s) n.0 n.1 ∙ same-table t s q r g b.0 ∙ sym (table-said t s q r);
          back = ap old_form w ∙ old-form (tree_bytes (tree_of s)) (tree_of s) n.0 n.1 ∙ ap stored_bytes (same-stored t s q r g b.0) ∙ b.1;
        }

two-names : (s : Stored) → listed s ≡ true → no_two same_name s.names ≡ true
unfolding listed
two-names s e = ((and-eq-true_iff (no_two same_name s.names) _).0 e).0

-- a well-formed tree form's old form, if not too long, is well-formed, says the same table, and its tree form is the first
pub new-old-new : (t : List ℕ) → tree_refusal t ≡ 0 → length (old_form t) ≤ most_table_bytes → NewOldNew t
unfolding stored_in
new-old-new t e h =
    let z = tree-zero t e in
    go z.0 z.1 z.2 (tree-passed z.0 z.3)
  where
    go : (x : Tree) (q : ℕ) → tree t ≡ got x q → TreePassed x → NewOldNew t
    go x q r p =
        let b = tree-back t x q r in
        let n = stored-reads (stored_of x) (stored-fits x b.0 p.names p.grows p.shorts) in
        let w = old-form t x q r in
        let k : table_in (stored_of x) ≡ table_of_tree x = same x p in
        let y : tree_of (stored_of x) ≡ x = again x p k in
        record {
          accepted = ap table_refusal w ∙ refusal-read (stored_bytes (stored_of x)) (stored_of x) n.0
              (within-size (stored_bytes (stored_of x)) (omega (arith, h, ap length w)) ∙ n.1) ∙ p.old;
          says = ap table_of w ∙ table-said (stored_bytes (stored_of x)) (stored_of x) n.0 n.1 ∙ k ∙ sym (tree-table t x q r);
          back = ap tree_form w ∙ tree-form (stored_bytes (stored_of x)) (stored_of x) n.0 n.1 ∙ ap tree_bytes y ∙ b.1;
        }
      where
        same : (x : Tree) → TreePassed x → table_in (stored_of x) ≡ table_of_tree x
        same x p = table-again x.names (table_of_tree x) (tree-names x p.names p.grows).0
            (two-names (stored_of x) (judged-zero (stored_of x) p.old).lists) refl (tree-sound x p.names p.grows)

        again : (x : Tree) → TreePassed x → table_in (stored_of x) ≡ table_of_tree x → tree_of (stored_of x) ≡ x
        again x p k = ap (tree_in x.names) k ∙ tree_again x p.grows

-- an old form that may be written has 8,192 bytes at most and fits the room, and any other does not
module _ (n room : ℕ) where
  pub fits-old : fits_old n room ≡ true → (n ≤ most_table_bytes) × (n ≤ room)
  unfolding fits_old
  fits-old e = let h = leb-true n _ e in (omega arith, omega arith)

  pub fits_not : fits_old n room ≡ false → (most_table_bytes < n) ⊎ (room < n)
  unfolding fits_old
  fits_not e = let h = leb-false n _ e in go (dec_lt room n)
    where
      go : Dec (room < n) → (most_table_bytes < n) ⊎ (room < n)
      go (yes r) = inr r
      go (no r) = let h = leb-false n _ e in inl (omega arith)

  pub old-fits : n ≤ most_table_bytes → leb n room ≡ fits_old n room
  unfolding fits_old
  old-fits h =
      by_test (leb n room)
      (λ e. e ∙ sym (le-leb n _ (let k = leb-true n room e in omega arith)))
      (λ e. e ∙ sym (lt-leb n _ (let k = leb-false n room e in omega arith)))

  pub old-over : most_table_bytes < n → false ≡ fits_old n room
  unfolding fits_old
  old-over h = sym (lt-leb n _ (omega arith))

-- a conversion of what is not refused, unless refused with 22
pub converted-fits : (k : ℕ) (fits : Bool) (bytes : List ℕ) (room : ℕ) → k ≡ 0 → (converted k fits bytes room).refusal ≢ 22
    → (fits ≡ true) × ((converted k fits bytes room).refusal ≡ 0) × (made (converted k fits bytes room) ≡ bytes)
unfolding converted
converted-fits k true bytes room e n = rw (eq-eqb k 0 e) (refl, refl, take-append_seam bytes (replicate (room - length bytes) 0))
converted-fits k false bytes room e n = absurd (n (rw (eq-eqb k 0 e)))

-- a refused conversion leaves zeros
pub converted-cleared : (k : ℕ) (fits : Bool) (bytes : List ℕ) (room : ℕ) → (converted k fits bytes room).refusal ≢ 0
    → Cleared room (converted k fits bytes room)
unfolding converted
converted-cleared k fits bytes room n = go (eqb k 0) fits n
  where
    go : (a b : Bool) → (cond a (cond b (filled bytes room) (refused 22 room)) (refused k room)).refusal ≢ 0
        → Cleared room (cond a (cond b (filled bytes room) (refused 22 room)) (refused k room))
    go true true n = absurd (n refl)
    go true false n = record { none = refl; zeros = refl }
    go false b n = record { none = refl; zeros = refl }

-- every conversion keeps the buffer's length, with zeros after the form
pub converted-kept : (k : ℕ) (fits : Bool) (bytes : List ℕ) (room : ℕ) → (fits ≡ true → length bytes ≤ room) → Kept room (converted k fits bytes room)
unfolding converted
converted-kept k fits bytes room h = go (eqb k 0) fits h
  where
    none_kept : (j : ℕ) → Kept room (refused j room)
    none_kept j = record { long = length-replicate room 0; fits = omega arith; after = ap (λ n. replicate n 0) (sym (sub-zero room)) }

    go : (a b : Bool) → (b ≡ true → length bytes ≤ room) → Kept room (cond a (cond b (filled bytes room) (refused 22 room)) (refused k room))
    go true true h =
        let z : List ℕ = replicate (room - length bytes) 0 in
        let n : length z ≡ room - length bytes = length-replicate (room - length bytes) 0 in
        record { long = omega (arith, length-append bytes z, n, h refl); fits = h refl; after = drop-append_seam bytes z }
    go true false h = none_kept 22
    go false b h = none_kept k

pub to-tree-kept : (t : List ℕ) (room : ℕ) → Kept room (to_tree t room)
unfolding to_tree
to-tree-kept t room = converted-kept (table_refusal t) (leb (length (tree_form t)) room) (tree_form t) room (leb-true (length (tree_form t)) room)

pub from-tree-kept : (t : List ℕ) (room : ℕ) → Kept room (from_tree t room)
unfolding from_tree
from-tree-kept t room =
    converted-kept (tree_refusal t) (fits_old (length (old_form t)) room) (old_form t) room (λ e. (fits-old (length (old_form t)) room e).1)

pub to-tree-cleared : (t : List ℕ) (room : ℕ) → (to_tree t room).refusal ≢ 0 → Cleared room (to_tree t room)
unfolding to_tree
to-tree-cleared t room n = converted-cleared (table_refusal t) (leb (length (tree_form t)) room) (tree_form t) room n

pub from-tree-cleared : (t : List ℕ) (room : ℕ) → (from_tree t room).refusal ≢ 0 → Cleared room (from_tree t room)
unfolding from_tree
from-tree-cleared t room n = converted-cleared (tree_refusal t) (fits_old (length (old_form t)) room) (old_form t) room n

to-fits : (t : List ℕ) (room : ℕ) → table_refusal t ≡ 0 → (to_tree t room).refusal ≢ 22 → ((to_tree t room).refusal ≡ 0) × (made (to_tree t room) ≡ tree_form t)
unfolding to_tree
to-fits t room e n = let c = converted-fits (table_refusal t) (leb (length (tree_form t)) room) (tree_form t) room e n in (c.1, c.2)

from-fits : (t : List ℕ) (room : ℕ) → tree_refusal t ≡ 0 → (from_tree t room).refusal ≢ 22
    → (length (old_form t) ≤ most_table_bytes) × ((from_tree t room).refusal ≡ 0) × (made (from_tree t room) ≡ old_form t)
unfolding from_tree
from-fits t room e n =
    let c = converted-fits (tree_refusal t) (fits_old (length (old_form t)) room) (old_form t) room e n in
    ((fits-old (length (old_form t)) room c.0).0, c.1, c.2)

-- from the old form to the new one and back: the same bytes
pub old-and-back : (t : List ℕ) (room room₂ : ℕ) → OldAndBack t room room₂
old-and-back t room room₂ e n m =
    let o = old-new-old t e in
    let a = to-fits t room e n in
    let b = from-fits (made (to_tree t room)) room₂ (ap tree_refusal a.1 ∙ o.accepted) m in
    record { first = a.0; second = b.1; same = b.2 ∙ ap old_form a.1 ∙ o.back }

-- and the other way round
pub new-and-back : (t : List ℕ) (room room₂ : ℕ) → NewAndBack t room room₂
new-and-back t room room₂ e n m =
    let a = from-fits t room e n in
    let o = new-old-new t e a.0 in
    let b = to-fits (made (from_tree t room)) room₂ (ap table_refusal a.2 ∙ o.accepted) m in
    record { first = a.1; second = b.0; same = b.1 ∙ ap tree_form a.2 ∙ o.back }
