-- Laws of the classes' bytes as the code writes them.
use Prim.Native.Nat.{ℕ, ◌+◌, ◌-◌, ◌*◌, ◌≤◌, ◌<◌}
use mathlib.Core.Path.{◌≡◌, refl, sym, ap, ◌∙◌}
use mathlib.Core.List.{List, [], ◌++◌}
use lib.ListN.{length, get_or, take, drop, length-take, length-drop}
use native.Mathlib.Numerals.{add-one}
use native.Mathlib.Nat.{mul-le-mul_right}
use native.Mathlib.Omega.{arith}
use Rattle.base_numbers.specs.Numbers.{most_states}
use Rattle.base_lists.proofs.Numbers.{row_fits}
use Rattle.base_lists.proofs.Filled.{Filled, filled_copy}
use Rattle.base_lists.proofs.Over.{over-all, over_none, length_over, over-lend}
use Rattle.base_lists.specs.Lists.{over}
use Rattle.base_lists.proofs.Tabulated.{tabulate-at, tabulate-length}
use Rattle.theory_minimal.specs.Machine.{Machine}
use Rattle.theory_minimal.specs.Proposal.{class_of, first_of, small}
use Rattle.small_image.specs.Small.{small_states}
use Rattle.small_image.proofs.Placed.{states-length}
use Rattle.small_write.specs.Rows.{target_class, row_of}

-- the length of a part
pub part_length : (xs : List ℕ) (a w : ℕ) → a + w ≤ length xs → length (take (a + w - a) (drop a xs)) ≡ w
part_length xs a w h = simp (length-take, length-drop) (omega arith)

module _ (m : Machine) (p : List ℕ) where
  row-length : (f : ℕ) → length (row_of m p f) ≡ 1 + m.symbols
  row-length f = omega (arith, tabulate-length (target_class m p f) m.symbols)

  pub rows-length : (c : ℕ) → length (small_states (small m p) c) ≡ c * (1 + m.symbols)
  rows-length c = states-length (small m p) c ∙ omega arith

  -- the bytes of a row as the code writes them
  abbrev pub row_byte : ℕ → ℕ → ℕ
  row_byte f j = get_or (row_of m p f) j 0

  pub row-byte : (f s x : ℕ) → s < m.symbols → x ≡ m.target f s → class_of p x ≡ row_byte f (s + 1)
  row-byte f s x h e = ap (class_of p) e ∙ sym (tabulate-at (target_class m p f) m.symbols s 0 h) ∙ ap (row_byte f) (sym (add-one s))

  pub row_written : (f s : ℕ) (row : List ℕ) → length row ≡ 1 + m.symbols → m.symbols ≤ s → Filled (row_byte f) row (s + 1) → row ≡ row_of m p f
  row_written f s row l h g = filled_copy (row_of m p f) row (s + 1) (l ∙ sym (row-length f)) (omega (arith, row-length f)) g

  -- one more row, written to a part that was lent
  rows_more : (c : ℕ) (out out₀ y : List ℕ) (a e : ℕ) → out ≡ over (small_states (small m p) c) out₀ → a ≡ c * (1 + m.symbols)
      → e ≡ a + (1 + m.symbols) → y ≡ row_of m p (first_of p c)
      → take a out ++ (y ++ drop (e - a) (drop a out)) ≡ over (small_states (small m p) (c + 1)) out₀
  unfolding small_states
  rows_more c out out₀ y a e i j k d =
      let g : e - a ≡ 1 + m.symbols = omega arith in
      rw (i, g, d, add-one)
      (over-lend (small_states (small m p) c) out₀ a (1 + m.symbols) (row_of m p (first_of p c)) (rows-length c ∙ sym j) (row-length (first_of p c)))

  pub rows_none : (out : List ℕ) → out ≡ over (small_states (small m p) 0) out
  unfolding small_states
  rows_none out = over_none [] out

  over-rows-length : (c count : ℕ) (out out₀ : List ℕ) → c ≤ count → length out₀ ≡ count * (1 + m.symbols)
      → out ≡ over (small_states (small m p) c) out₀ → length out ≡ count * (1 + m.symbols)
  over-rows-length c count out out₀ h l e =
      ap length e ∙ length_over (small_states (small m p) c) out₀ (omega (arith, rows-length c, mul-le-mul_right (1 + m.symbols) h)) ∙ l

  pub rows-done : (c count : ℕ) (out out₀ : List ℕ) → c ≤ count → count ≤ c → length out₀ ≡ count * (1 + m.symbols)
      → out ≡ over (small_states (small m p) c) out₀ → out ≡ small_states (small m p) count
  rows-done c count out out₀ h k l e =
      let i : c ≡ count = omega arith in
      e ∙ ap (λ z. over (small_states (small m p) z) out₀) i ∙ over-all (small_states (small m p) count) out₀ (rows-length count ∙ sym l)

  pub rows_next : (c count : ℕ) (out out₀ y : List ℕ) (a : ℕ) → c < count → length out₀ ≡ count * (1 + m.symbols)
      → out ≡ over (small_states (small m p) c) out₀ → a ≡ c * (1 + m.symbols)
      → y ≡ row_of m p (first_of p c)
      → (length (take a out ++ (y ++ drop (a + (1 + m.symbols) - a) (drop a out))) ≡ count * (1 + m.symbols))
      × (take a out ++ (y ++ drop (a + (1 + m.symbols) - a) (drop a out)) ≡ over (small_states (small m p) (c + 1)) out₀)
  rows_next c count out out₀ y a h l e i d =
      let g = rows_more c out out₀ y a (a + (1 + m.symbols)) e i refl d in
      (over-rows-length (c + 1) count (take a out ++ (y ++ drop (a + (1 + m.symbols) - a) (drop a out))) out₀ (omega arith) l g, g)

  -- where the row of class c ends
  pub small-end : (c count a : ℕ) → c < count → count ≤ most_states → a ≡ c * (1 + m.symbols) → a + (1 + m.symbols) ≤ count * (1 + m.symbols)
  small-end c count a h k i = omega (arith, row_fits c count (1 + m.symbols) h)
