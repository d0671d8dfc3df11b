-- The rows of the available signals are searched as the theory searches among these signals.
use Prim.Native.Nat.{ℕ, zero, suc, ◌+◌, ◌-◌, ◌*◌, ◌≤◌, ◌<◌}
use mathlib.Core.Path.{◌≡◌, refl, sym, ap, ◌∙◌}
use mathlib.Core.Bool.{Bool, true, false, cond, ◌&&◌}
use mathlib.Core.List.{List, [], ◌∷◌}
use lib.Dec.{eqb}
use lib.ListN.{length, get_or, length-set}
use lib.ListN.{set as store}
use borrow.Author.Tests.{lt-ltb, ne_eqb}
use native.Mathlib.Omega.{arith}
use native.Mathlib.Nat.{add-zero}
use native.Mathlib.Numerals.{add-one}
use lib.Seq.{ext_get_or}
use Rattle.base_numbers.specs.Numbers.{most_nodes, most_signals}
use Rattle.base_lists.proofs.Filled.{filled_more}
use Rattle.base_lists.proofs.Tabulated.{tabulate-length, tabulate-at}
use Rattle.base_lists.specs.Lists.{tabulate}
use Rattle.theory_resolution.specs.Table.{Urn, Table, Row, row_from, row_of, same_row}
use Rattle.theory_resolution.specs.Nodes.{nodes}
use Rattle.theory_resolution.specs.Available.{counts, find_available_from, find_available}
use Rattle.theory_resolution.proofs.Numbers.{number-le}
use Rattle.theory_resolution.proofs.Available.{found_in}
use Rattle.node_step.specs.Step.{find_row}
use Rattle.node_step.specs.Rows.{pack, numbers_from, Numbers}
use Rattle.node_step.proofs.NumberLaws.{Anchored, found_row}
use Rattle.node_step.proofs.SearchedBy.{SearchedBy, row-agrees}
use Rattle.resolve_available.specs.Available.{has_bit}
use Rattle.resolve_available.specs.Rows.{no_row, row_if}

-- the first s rows are filled
pub record Filled (set : ℕ) (rows kept : List ℕ) (s : ℕ) : Type 0 where
  pub wide : length kept ≡ most_signals
  pub so_far : (k : ℕ) → k < s → get_or kept k 0 ≡ row_if (has_bit set) rows k

-- one more
pub fill-row : (set : ℕ) (rows kept : List ℕ) (s : ℕ) {row : ℕ} → Filled set rows kept s → s < most_signals
    → row ≡ row_if (has_bit set) rows s → Filled set rows (store kept s row) (s + 1)
fill-row set rows kept s {row} i h e =
    record {
      wide = length-set kept s row ∙ i.wide;
      so_far = filled_more (row_if (has_bit set) rows) kept s row (omega (arith, i.wide)) e i.so_far;
    }

-- all 32 rows are filled
pub filled : (set : ℕ) (rows kept : List ℕ) (s : ℕ) → Filled set rows kept s → most_signals ≤ s → kept ≡ tabulate (row_if (has_bit set) rows) most_signals
filled set rows kept s i h =
    ext_get_or 0 kept (tabulate (row_if (has_bit set) rows) most_signals) (i.wide ∙ sym (tabulate-length (row_if (has_bit set) rows) most_signals))
    (λ k l. let b : k < most_signals = omega (arith, l, i.wide) in i.so_far k (omega arith) ∙ sym (tabulate-at (row_if (has_bit set) rows) most_signals k 0 b))

-- so many digits
abbrev digits : ℕ → ℕ
digits zero = 1
digits (suc n) = 256 * digits n

digits_more : (n k : ℕ) → digits n ≤ digits (k + n)
digits_more n zero = let z : 0 + n ≡ n = omega arith in omega (arith, ap digits z)
digits_more n (suc k) = let z : suc k + n ≡ suc (k + n) = omega arith in omega (arith, ap digits z, digits_more n k)

digits_low : (n : ℕ) → n ≤ 8 → digits n ≤ 18446744073709551616
digits_low n h =
    let e : 8 - n + n ≡ 8 = omega arith in
    let z : digits 8 ≡ 18446744073709551616 = refl in
    omega (arith, digits_more n (8 - n), ap digits e, z)

-- no node has number 255, so no row of nodes is the one that stands for none
module _ (ns : List Urn) (few : length ns ≤ most_nodes) where
  low-row : (c : ℕ) (r : Row) → 2 * pack (numbers_from ns c r) + 1 ≤ digits (length r)
  low-row c [] = omega arith
  low-row c (p ∷ r) = omega (arith, number-le ns c p, low-row (suc c) r)

  pub no-row : (r : Row) → length r ≤ 8 → no_row ≡ pack (numbers_from ns 0 r) → ⊥
  no-row r h e = omega (arith, low-row 0 r, digits_low (length r) h)

module _ (on : ℕ → Bool) where
  -- a search by rows among the available signals, and the search by keys that agree with them
  finds-among : (n : ℕ) (r : Row) (kept : List ℕ) (key : ℕ) (i : ℕ) (sigs : List (List Urn))
      → ((k : ℕ) → k < length sigs → counts on (i + k) && same_row (row_from (get_or sigs k []) 0 n) r ≡ eqb (get_or kept (i + k) 0) key)
      → i + length sigs ≤ most_signals → find_available_from on n i sigs r ≡ found_row (find_row kept key i (length sigs))
  unfolding find_row
  finds-among n r kept key i [] h l = refl
  finds-among n r kept key i (sig ∷ sigs) h l = go (eqb (get_or kept i 0) key) refl (finds-among n r kept key (suc i) sigs more (omega arith))
    where
      more : (k : ℕ) → k < length sigs → counts on (suc i + k) && same_row (row_from (get_or sigs k []) 0 n) r ≡ eqb (get_or kept (suc i + k) 0) key
      more k b = let j : suc i + k ≡ i + suc k = omega arith in rw j (h (suc k) (omega arith))

      first : counts on i && same_row (row_from sig 0 n) r ≡ eqb (get_or kept i 0) key
      first = rw (add-zero i) at (h 0 (omega arith))

      go : (b : Bool) → eqb (get_or kept i 0) key ≡ b → find_available_from on n (suc i) sigs r ≡ found_row (find_row kept key (suc i) (length sigs))
          → find_available_from on n i (sig ∷ sigs) r ≡ found_row (find_row kept key i (suc (length sigs)))
      go true e ih = rw (first, e, lt-ltb i most_signals (omega arith))
      go false e ih = rw (first, e, add-one i) ih

  module _ {rows ps : List ℕ} {n : ℕ} {T : Table} (nu : Numbers rows ps n T) where
    abbrev kept : List ℕ
    kept = tabulate (row_if on rows) most_signals

    abbrev key : Row → ℕ
    key r = pack (numbers_from (nodes T) 0 r)

    agrees : (r : Row) → Anchored T 0 r → length r ≡ T.cats → (k : ℕ) → k < length T.signals
        → counts on (0 + k) && same_row (row_of T k) r ≡ eqb (get_or kept (0 + k) 0) (key r)
    agrees r a l k h =
        go (counts on (0 + k)) refl
        ∙ ap (λ z. eqb z (key r)) (sym (tabulate-at (row_if on rows) most_signals (0 + k) 0 (let f = nu.few-signals in let m = nu.all-signals in omega arith)))
      where
        go : (b : Bool) → counts on (0 + k) ≡ b → counts on (0 + k) && same_row (row_of T k) r ≡ eqb (row_if on rows (0 + k)) (key r)
        go true e = rw e (row-agrees nu r a l k h)
        go false e = rw e (sym (ne_eqb no_row (key r) (no-row (nodes T) nu.few-nodes r (let f = nu.few-cats in omega arith))))

    pub only-searched : SearchedBy kept n T (find_available T on)
    only-searched =
        record {
          own = λ s e.
              let w = (found_in T on (row_of T s) s e).0 in
              let f = nu.few-signals in
              let m = nu.all-signals in
              let h : s < most_signals = omega (arith, w.0) in
              rw (lt-ltb s most_signals h) (tabulate-at (row_if on rows) most_signals s 0 h ∙ ap (λ b. cond b (get_or rows s 0) no_row) w.1
              ∙ nu.packed s (rw m at w.0));
          finds = λ r a l.
              finds-among T.cats r kept (key r) 0 T.signals (agrees r a l) (let f = nu.few-signals in let m = nu.all-signals in omega arith)
              ∙ ap (λ z. found_row (find_row kept (key r) 0 z)) nu.all-signals;
        }
