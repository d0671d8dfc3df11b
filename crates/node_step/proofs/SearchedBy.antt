-- Rows in which signals are searched, by node numbers, and the finder of the theory that searches as they do.
use Prim.Native.Nat.{ℕ, ◌+◌, ◌≤◌, ◌<◌}
use mathlib.Core.Path.{◌≡◌, sym, ap, ◌∙◌}
use mathlib.Core.Option.{Option, some}
use mathlib.Core.List.{List, []}
use lib.Dec.{eqb}
use borrow.Author.Tests.{eqb-true, eq-eqb, lt-ltb}
use lib.ListN.{length, get_or}
use native.Mathlib.Omega.{arith}
use native.Mathlib.Nat.{zero-add}
use Rattle.base_numbers.specs.Numbers.{most_nodes, most_signals}
use Rattle.base_lists.proofs.Bools.{same_test}
use Rattle.theory_resolution.specs.Table.{Table, Row, row_of, same_row, find}
use Rattle.theory_resolution.specs.Nodes.{nodes}
use Rattle.theory_resolution.proofs.Names.{row-exact}
use Rattle.theory_resolution.proofs.Table.{row-length, find-below}
use Rattle.theory_resolution.proofs.Nodes.{row-nodes}
use Rattle.node_step.specs.Step.{row_at, find_row}
use Rattle.node_step.specs.Rows.{pack, numbers_from, Numbers}
use Rattle.node_step.proofs.PackedLaws.{pack-same}
use Rattle.node_step.proofs.NumberLaws.{numbers-length, numbers-bytes, Anchored, numbers-same, found_row, finds}

-- the search for a row of nodes finds what the finder does, and a signal that the finder has at its own places has its row
pub record SearchedBy (rows : List ℕ) (n : ℕ) (t : Table) (finder : Row → Option ℕ) : Type 0 where
  pub own : (s : ℕ) → finder (row_of t s) ≡ some s → row_at rows s ≡ pack (numbers_from (nodes t) 0 (row_of t s))
  pub finds : (r : Row) → Anchored t 0 r → length r ≡ t.cats → finder r ≡ found_row (find_row rows (pack (numbers_from (nodes t) 0 r)) 0 n)

-- rows of nodes are told by their numbers
pub row-test : (t : Table) → length (nodes t) ≤ most_nodes → (r u : Row) → Anchored t 0 r → Anchored t 0 u → length r ≡ length u
    → same_row r u ≡ eqb (pack (numbers_from (nodes t) 0 r)) (pack (numbers_from (nodes t) 0 u))
row-test t few r u a b l =
    same_test (same_row r u) (eqb (pack (numbers_from (nodes t) 0 r)) (pack (numbers_from (nodes t) 0 u)))
    (λ e. eq-eqb _ _ (ap (λ z. pack (numbers_from (nodes t) 0 z)) (row-exact.to r u e)))
    (λ e. rw (numbers-same t 0 r u a b l
    (pack-same (numbers_from (nodes t) 0 r) (numbers_from (nodes t) 0 u) (numbers-length (nodes t) 0 r ∙ l ∙ sym (numbers-length (nodes t) 0 u))
    (numbers-bytes (nodes t) few 0 r) (numbers-bytes (nodes t) few 0 u) (eqb-true _ _ e))) (row-exact.self u))

module _ {rows ps : List ℕ} {n : ℕ} {t : Table} (nu : Numbers rows ps n t) where
  pub rows-own : (s : ℕ) → s < n → row_at rows s ≡ pack (numbers_from (nodes t) 0 (row_of t s))
  rows-own s h = let l = nu.few-signals in rw (lt-ltb s most_signals (omega arith)) (nu.packed s h)

  -- a signal's row is the one looked for
  pub row-agrees : (r : Row) → Anchored t 0 r → length r ≡ t.cats → (k : ℕ) → k < length t.signals
      → same_row (row_of t k) r ≡ eqb (get_or rows (0 + k) 0) (pack (numbers_from (nodes t) 0 r))
  row-agrees r a l k h =
      row-test t nu.few-nodes (row_of t k) r (λ i. rw (zero-add i) (row-nodes t k h i)) a (row-length (get_or t.signals k []) 0 t.cats ∙ sym l)
      ∙ ap (λ z. eqb z (pack (numbers_from (nodes t) 0 r))) (sym (nu.packed k (rw nu.all-signals at h)) ∙ ap (λ z. get_or rows z 0) (sym (zero-add k)))

  -- the table's own rows
  pub table-searched : SearchedBy rows n t (find t)
  table-searched =
      record {
        own = λ s e. rows-own s (omega (arith, find-below t.cats 0 t.signals (row_of t s) s e, nu.all-signals));
        finds = λ r a l.
            finds t.cats r rows (pack (numbers_from (nodes t) 0 r)) 0 t.signals (row-agrees r a l) (let f = nu.few-signals in let m =
            nu.all-signals in omega arith)
            ∙ ap (λ z. found_row (find_row rows (pack (numbers_from (nodes t) 0 r)) 0 z)) nu.all-signals;
      }
