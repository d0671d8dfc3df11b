-- Laws of what is put into rows and slots, one URN further, and of the number that follows.
use Prim.Native.Nat.{ℕ, suc, ◌+◌, ◌-◌, ◌*◌, ◌≤◌, ◌<◌}
use mathlib.Core.Path.{◌≡◌, refl, ap, ap₂, sym, ◌∙◌}
use mathlib.Core.Bool.{Bool, true, false, cond, ◌&&◌}
use mathlib.Core.List.{List, []}
use native.Mathlib.Numerals.{add-one}
use native.Mathlib.Nat.{sub-zero}
use native.Mathlib.Omega.{arith}
use lib.ListN.{get_or, set, replicate}
use lib.Dec.{eqb, ltb, leb}
use borrow.Author.Tests.{lt-ltb, le-ltb, le-leb, lt-leb, eq-eqb, ne_eqb}
use Rattle.base_numbers.specs.Numbers.{most_signals, most_table_urns}
use Rattle.base_lists.specs.Tests.{no_two}
use Rattle.base_lists.specs.Lists.{tabulate}
use Rattle.node_step.specs.Step.{place_in, with_place}
use Rattle.table_places.specs.Slots.{same_places_at}
use Rattle.table_places.specs.Filled.{Filled, stopped, put_row, rows_from, put_slot, slots_from, first_silent, number_by, rows_by, nodes_number}
use Rattle.table_places.specs.Filled.{slots_by, texts_number}

-- rows: the start, and i of m URNs put
pub rows_start : (signal category node : List ℕ) (m : ℕ) (rows : List ℕ) → rows_from signal category node 0 m rows ≡ rows_from signal category node 0 (m - 0) rows
rows_start signal category node m rows = ap (λ k. rows_from signal category node 0 k rows) (sym (sub-zero m))

module _ (signal category node : List ℕ) (m : ℕ) (rows₀ : List ℕ) (i : ℕ) (rows : List ℕ)
    (inv : rows_from signal category node 0 m rows₀ ≡ rows_from signal category node i (m - i) rows) where
  abbrev next : List ℕ → Filled
  next = rows_from signal category node (suc i) (m - suc i)

  rows-one : i < m → (x y : ℕ) → x ≡ get_or signal i 0 → y ≡ get_or category i 0 → rows_from signal category node 0 m rows₀ ≡ put_row next x y (get_or node i 0) rows
  unfolding rows_from
  rows-one h x y e g =
      let k : m - i ≡ suc (m - suc i) = omega arith in
      inv ∙ ap (λ j. rows_from signal category node i j rows) k ∙ ap₂ (λ s c. put_row next s c (get_or node i 0) rows) (sym e) (sym g)

  pub rows-far : i < m → (x y : ℕ) → x ≡ get_or signal i 0 → y ≡ get_or category i 0 → 31 < x → rows_from signal category node 0 m rows₀ ≡ stopped rows
  unfolding put_row
  rows-far h x y e g l = rows-one h x y e g ∙ rw (lt-ltb 31 x l)

  pub rows_taken : i < m → (x y : ℕ) → x ≡ get_or signal i 0 → y ≡ get_or category i 0 → x ≤ 31 → (place_in (get_or rows x 0) y ≡ 0 → ⊥)
      → rows_from signal category node 0 m rows₀ ≡ stopped rows
  unfolding put_row
  rows_taken h x y e g l n = rows-one h x y e g ∙ rw (le-ltb 31 x l, ne_eqb (place_in (get_or rows x 0) y) 0 n)

  pub rows-put : i < m → (x y : ℕ) {q : ℕ} → x ≡ get_or signal i 0 → y ≡ get_or category i 0 → x ≤ 31 → place_in (get_or rows x 0) y ≡ 0
      → q ≡ with_place (get_or rows x 0) y (get_or node i 0) → rows_from signal category node 0 m rows₀
      ≡ rows_from signal category node (i + 1) (m - (i + 1)) (set rows x q)
  unfolding put_row
  rows-put h x y {q} e g l z f =
      rows-one h x y e g ∙ rw (le-ltb 31 x l, eq-eqb (place_in (get_or rows x 0) y) 0 z) (rw add-one (ap (λ r. next (set rows x r)) (sym f)))

  pub rows_all : m ≤ i → rows_from signal category node 0 m rows₀ ≡ record { ok = true; held = rows }
  unfolding rows_from
  rows_all h = let k : m - i ≡ 0 = omega arith in inv ∙ ap (λ j. rows_from signal category node i j rows) k

-- slots
pub slots-start : (signal category : List ℕ) (m : ℕ) (slots : List ℕ) → slots_from signal category 0 m slots ≡ slots_from signal category 0 (m - 0) slots
slots-start signal category m slots = ap (λ k. slots_from signal category 0 k slots) (sym (sub-zero m))

module _ (signal category : List ℕ) (m : ℕ) (slots₀ : List ℕ) (i : ℕ) (slots : List ℕ)
    (inv : slots_from signal category 0 m slots₀ ≡ slots_from signal category i (m - i) slots) where
  abbrev more : List ℕ → Filled
  more = slots_from signal category (suc i) (m - suc i)

  slots-one : i < m → (x y : ℕ) → x ≡ get_or signal i 0 → y ≡ get_or category i 0 → slots_from signal category 0 m slots₀ ≡ put_slot more (8 * x + y) (suc i) slots
  unfolding slots_from
  slots-one h x y e g =
      let k : m - i ≡ suc (m - suc i) = omega arith in
      inv ∙ ap (λ j. slots_from signal category i j slots) k ∙ ap₂ (λ s c. put_slot more (8 * s + c) (suc i) slots) (sym e) (sym g)

  pub slots-far : i < m → (x y : ℕ) → x ≡ get_or signal i 0 → y ≡ get_or category i 0 → 255 < 8 * x + y → slots_from signal category 0 m slots₀ ≡ stopped slots
  unfolding put_slot
  slots-far h x y e g l = slots-one h x y e g ∙ rw (lt-ltb 255 (8 * x + y) l)

  pub slots-taken : i < m → (x y : ℕ) → x ≡ get_or signal i 0 → y ≡ get_or category i 0 → 8 * x + y ≤ 255 → (get_or slots (8 * x + y) 0 ≡ 0 → ⊥)
      → slots_from signal category 0 m slots₀ ≡ stopped slots
  unfolding put_slot
  slots-taken h x y e g l n = slots-one h x y e g ∙ rw (le-ltb 255 (8 * x + y) l, ne_eqb (get_or slots (8 * x + y) 0) 0 n)

  pub slots-put : i < m → (x y : ℕ) {q : ℕ} → x ≡ get_or signal i 0 → y ≡ get_or category i 0 → 8 * x + y ≤ 255 → get_or slots (8 * x + y) 0 ≡ 0
      → q ≡ i + 1 → slots_from signal category 0 m slots₀ ≡ slots_from signal category (i + 1) (m - (i + 1)) (set slots (8 * x + y) q)
  unfolding put_slot
  slots-put h x y {q} e g l z f =
      slots-one h x y e g ∙ rw (
        le-ltb 255 (8 * x + y) l,
        eq-eqb (get_or slots (8 * x + y) 0) 0 z,
      ) (rw add-one (ap (λ r. more (set slots (8 * x + y) r)) (sym (f ∙ add-one i))))

  pub slots-all : m ≤ i → slots_from signal category 0 m slots₀ ≡ record { ok = true; held = slots }
  unfolding slots_from
  slots-all h = let k : m - i ≡ 0 = omega arith in inv ∙ ap (λ j. slots_from signal category i j slots) k

-- the first URN
pub silent-none : (m : ℕ) (signal : List ℕ) {r : Bool} → r ≡ first_silent m signal → m ≡ 0 → r ≡ true
unfolding first_silent
silent-none m signal e z = e ∙ ap (λ b. cond b true (ltb 0 (get_or signal 0 0))) (eq-eqb m 0 z)

pub silent-some : (m : ℕ) (signal : List ℕ) {r : Bool} → r ≡ first_silent m signal → 0 < m → r ≡ ltb 0 (get_or signal 0 0)
unfolding first_silent
silent-some m signal e h = e ∙ ap (λ b. cond b true (ltb 0 (get_or signal 0 0))) (ne_eqb m 0 (λ z. omega arith))

pub silent-from : (m : ℕ) (signal : List ℕ) → 0 < m → ltb 0 (get_or signal 0 0) ≡ first_silent m signal
silent-from m signal h = sym (silent-some m signal refl h)

pub silent-true : (m : ℕ) (signal : List ℕ) → m ≤ 0 → true ≡ first_silent m signal
silent-true m signal h = sym (silent-none m signal refl (omega arith))

-- the number, test by test
pub number-nine : {b : Bool} (s d : Bool) (k : ℕ) → b ≡ false → 9 ≡ number_by b s d k
unfolding number_by
number-nine s d k e = sym (ap (λ b. cond b (cond s (cond d k 11) 10) 9) e)

pub number-ten : {b s : Bool} (d : Bool) (k : ℕ) → b ≡ true → s ≡ false → 10 ≡ number_by b s d k
unfolding number_by
number-ten {b} {s} d k e f = sym (ap (λ b. cond b (cond s (cond d k 11) 10) 9) e ∙ ap (λ s. cond s (cond d k 11) 10) f)

pub number-last : {b s : Bool} (d : Bool) {r : ℕ} (k : ℕ) → b ≡ true → s ≡ true → r ≡ cond d k 11 → r ≡ number_by b s d k
unfolding number_by
number-last {b} {s} d k e f g = g ∙ sym (ap (λ b. cond b (cond s (cond d k 11) 10) 9) e ∙ ap (λ s. cond s (cond d k 11) 10) f)

pub last-first : {d : Bool} (k : ℕ) → d ≡ true → k ≡ cond d k 11
last-first k e = sym (ap (λ d. cond d k 11) e)

pub last-eleven : {d : Bool} (k : ℕ) → d ≡ false → 11 ≡ cond d k 11
last-eleven k e = sym (ap (λ d. cond d k 11) e)

-- by nodes
module _ (n m : ℕ) (signal category node rows : List ℕ) where
  abbrev Numbered : ℕ → List ℕ → Type 0
  Numbered r rows₁ = (r ≡ nodes_number n m signal (rows_by n m signal category node rows)) × (rows₁ ≡ (rows_by n m signal category node rows).held)

  without : rows_by n m signal category node rows ≡ stopped rows → Numbered 9 rows
  unfolding nodes_number
  without e = (
    sym (ap (nodes_number n m signal) e
        ∙ sym (number-nine (first_silent m signal) (no_two eqb (tabulate (λ s. get_or rows s 0) n)) 0 refl)),
    sym (ap (λ (f : Filled). f.held) e),
  )

  pub many-signals : most_signals < n → Numbered 9 rows
  unfolding rows_by
  many-signals h = without (ap (λ b. cond (b && leb m most_table_urns) (rows_from signal category node 0 m rows) (stopped rows)) (lt-leb n most_signals h))

  pub many-urns : n ≤ most_signals → most_table_urns < m → Numbered 9 rows
  unfolding rows_by
  many-urns h k = without (ap₂ (λ a b. cond (a && b) (rows_from signal category node 0 m rows) (stopped rows)) (le-leb n most_signals h)
      (lt-leb m most_table_urns k))

  pub by_rows : {b : Bool} {rows₁ : List ℕ} {r : ℕ} → n ≤ most_signals → m ≤ most_table_urns → rows_from signal category node 0 m rows
      ≡ record { ok = b; held = rows₁ }
      → r ≡ number_by b (first_silent m signal) (no_two eqb (tabulate (λ s. get_or rows₁ s 0) n)) 0 → Numbered r rows₁
  unfolding rows_by nodes_number
  by_rows h k e f =
      let z = ap₂ (λ a b. cond (a && b) (rows_from signal category node 0 m rows) (stopped rows)) (le-leb n most_signals h) (le-leb m most_table_urns k) ∙ e in
      (f ∙ sym (ap (nodes_number n m signal) z), sym (ap (λ (f : Filled). f.held) z))

-- by texts
module _ (t : List ℕ) (n categories m : ℕ) (signal category at len : List ℕ) where
  abbrev said : Filled → ℕ
  said = texts_number t n categories m signal at len

  shut : slots_by n categories m signal category ≡ stopped [] → 9 ≡ said (slots_by n categories m signal category)
  unfolding texts_number
  shut e = sym (ap said e ∙ sym (number-nine (first_silent m signal) (no_two (same_places_at t [] at len categories) (tabulate (λ a. a) n)) 12 refl))

  abbrev tested : Bool → Bool → Bool → Filled
  tested a b c = cond (a && (b && c)) (slots_from signal category 0 m (replicate most_table_urns 0)) (stopped [])

  pub texts-signals : most_signals < n → 9 ≡ said (slots_by n categories m signal category)
  unfolding slots_by
  texts-signals h = shut (ap (λ a. tested a (leb m most_table_urns) (leb categories 8)) (lt-leb n most_signals h))

  pub texts-urns : n ≤ most_signals → most_table_urns < m → 9 ≡ said (slots_by n categories m signal category)
  unfolding slots_by
  texts-urns h k = shut (ap₂ (λ a b. tested a b (leb categories 8)) (le-leb n most_signals h) (lt-leb m most_table_urns k))

  pub texts-categories : n ≤ most_signals → m ≤ most_table_urns → 8 < categories → 9 ≡ said (slots_by n categories m signal category)
  unfolding slots_by
  texts-categories h k l = shut (ap₂ (λ a b. tested a b (leb categories 8)) (le-leb n most_signals h) (le-leb m most_table_urns k)
      ∙ ap (tested true true) (lt-leb categories 8 l))

  pub by_slots : {b : Bool} {slots : List ℕ} {r : ℕ} → n ≤ most_signals → m ≤ most_table_urns → categories ≤ 8
      → slots_from signal category 0 m (replicate most_table_urns 0)
      ≡ record { ok = b; held = slots }
      → r ≡ number_by b (first_silent m signal) (no_two (same_places_at t slots at len categories) (tabulate (λ a. a) n)) 12
      → r ≡ said (slots_by n categories m signal category)
  unfolding slots_by texts_number
  by_slots h k l e f =
      f ∙ sym (ap said (ap₂ (λ a b. tested a b (leb categories 8)) (le-leb n most_signals h) (le-leb m most_table_urns k)
      ∙ ap (tested true true) (le-leb categories 8 l) ∙ e))
