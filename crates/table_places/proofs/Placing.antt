-- From the slots to the rows: 9 to 12, and the places of a table that is not refused.
use Prim.Native.Nat.{ℕ, suc, zero, ◌+◌, ◌*◌, ◌-◌, ◌≤◌, ◌<◌}
use mathlib.Core.Path.{◌≡◌, refl, ap, ap₂, sym, ◌∙◌, subst}
use mathlib.Core.Logic.{◌≢◌}
use mathlib.Core.Bool.{Bool, true, false, cond, ◌&&◌, and-eq-true_iff}
use mathlib.Core.List.{List, [], ◌∷◌}
use native.Mathlib.Omega.{arith}
use native.Mathlib.Nat.{zero-add}
use lib.ListN.{length, get_or, get_or-eq_default}
use lib.Dec.{eqb, ltb}
use borrow.Author.Tests.{eq-eqb, ne_eqb, eqb-true, le-leb, lt-leb, ltb-true, ltb-false}
use Rattle.base_numbers.specs.Numbers.{most_nodes, most_signals}
use Rattle.base_lists.specs.Cuts.{stretch}
use Rattle.base_lists.proofs.Tabulated.{tab-list, tab-shift}
use Rattle.base_lists.proofs.Tests.{all_alike, two-alike}
use Rattle.base_lists.specs.Lists.{tabulate}
use Rattle.base_lists.proofs.Bools.{by_test, same_test}
use Rattle.base_lists.specs.Tests.{all, no_two}
use Rattle.base_text.specs.Text.{fields}
use Rattle.base_text.proofs.Fields.{same-fields, fields-first}
use Rattle.theory_resolution.specs.Names.{Parts, same_parts}
use Rattle.theory_resolution.specs.Table.{Urn, Table, Row, place_in, place, row_from, row_of, same_row}
use Rattle.theory_resolution.specs.Nodes.{nodes, number, RootOrNode}
use Rattle.theory_resolution.proofs.Names.{row-exact}
use Rattle.theory_resolution.proofs.Table.{row-place, row-length}
use Rattle.theory_resolution.proofs.Nodes.{row-nodes}
use Rattle.theory_resolution.proofs.Numbers.{root-number, number-le}
use Rattle.node_step.specs.Rows.{pack, numbers_from}
use Rattle.node_step.proofs.NumberLaws.{numbers-length, numbers-at, numbers-bytes, numbers-same, Anchored}
use Rattle.node_step.proofs.PackedLaws.{pack-same}
use Rattle.table_sections.specs.Held.{Tagged, Padded}
use Rattle.table_places.specs.Verdict.{same_places, single, zero_silent, distinct, few_nodes, verdict}
use Rattle.table_places.specs.Slots.{urn_of, Listing, Numbering, Placed, InRange, key_at, same_key, slot_in, node_in, row_in, Fillable, same_slots}
use Rattle.table_places.specs.Slots.{same_places_at}
use Rattle.table_places.proofs.SlotLaws.{slot-key}
use Rattle.table_places.proofs.RowLaws.{node-none, node-some}
use Rattle.table_places.proofs.Flat.{same_tag, single-tags, plain-tags, tagged-below, first_place, first-place, path_in, slot-place}

-- rows, place by place
pub row-all : (a b : List Urn) (c n : ℕ) → same_row (row_from a c n) (row_from b c n)
    ≡ all (λ i. same_parts (place_in a (c + i)) (place_in b (c + i))) (tabulate (λ i. i) n)
unfolding all tabulate
row-all a b c zero = refl
row-all a b c (suc n) =
    let z : c + 0 ≡ c = omega arith in
    ap₂ ◌&&◌ (ap (λ k. same_parts (place_in a k) (place_in b k)) (sym z))
    (row-all a b (suc c) n
    ∙ all_alike (λ i. same_parts (place_in a (suc c + i)) (place_in b (suc c + i))) (λ i. same_parts (place_in a (c + i)) (place_in b (c + i)))
    (λ i. i) (λ i. suc i) n
    (λ i h. let y : suc c + i ≡ c + suc i = omega arith in ap (λ k. same_parts (place_in a k) (place_in b k)) y))
    ∙ sym (ap (all (λ i. same_parts (place_in a (c + i)) (place_in b (c + i)))) (tab-shift (λ i. i) n))

-- a row of n digits is the list of those that it begins with, and 0 after them
packed-is : (l : List ℕ) (f : ℕ → ℕ) (n : ℕ) → length l ≤ n → ((j : ℕ) → j < n → f j ≡ get_or l j 0) → pack (tabulate f n) ≡ pack l
unfolding tabulate
packed-is [] f zero h e = refl
packed-is [] f (suc n) h e =
    let r = packed-is [] (λ i. f (suc i)) n (omega arith) (λ j k. e (suc j) (omega arith)) in
    ap pack (tab-shift f n) ∙ omega (arith, e 0 (omega arith), r)
packed-is (x ∷ l) f zero h e = absurd (omega arith)
packed-is (x ∷ l) f (suc n) h e =
    let r = packed-is l (λ i. f (suc i)) n (omega arith) (λ j k. e (suc j) (omega arith)) in
    ap pack (tab-shift f n) ∙ omega (arith, e 0 (omega arith), r)

-- 9 and 10
module _ {T : Table} {signal category : List ℕ} {path : ℕ → Parts} {n m : ℕ} (L : Listing T signal category path n m) where
  pub in-range : InRange signal category m
  in-range = (
    λ i h. omega (arith, tagged-below 0 T.signals (urn_of signal category path) m L.urns i h, L.signals, L.few-signals),
    λ i h. omega (arith, L.known i h, L.few-categories),
  )

  -- rows without a place can be filled by the table's URNs
  pub fillable : {node : List ℕ} (rows : List ℕ) → Numbering T category path node m → Padded most_signals 0 rows → Fillable signal category node rows m
  fillable rows N p = (
    in-range,
    λ i h. (N.no-root i h, omega (arith, N.numbers i h, number-le (nodes T) (get_or category i 0) (path i), N.few-nodes)),
    p,
  )

  single-as : {b : Bool} → b ≡ no_two same_key (tabulate (key_at signal category) m) → single T ≡ b
  unfolding single
  single-as e =
      single-tags 0 T.signals ∙ ap (no_two same_tag) (sym L.urns)
      ∙ two-alike same_tag same_key (urn_of signal category path) (key_at signal category) m (λ i j h k. refl) ∙ sym e

  pub is-nine : {b : Bool} → b ≡ no_two same_key (tabulate (key_at signal category) m) → b ≡ false → 9 ≡ verdict T
  unfolding verdict
  is-nine e z = sym (rw (single-as e ∙ z))

  plain-as : {b : Bool} → (m ≡ 0 → b ≡ true) → (0 < m → b ≡ ltb 0 (get_or signal 0 0)) → zero_silent T ≡ b
  unfolding zero_silent
  plain-as f g = sym (plain-tags T.signals (urn_of signal category path) m L.urns f g)

  pub is-ten : {a b : Bool} → a ≡ no_two same_key (tabulate (key_at signal category) m) → a ≡ true
      → (m ≡ 0 → b ≡ true) → (0 < m → b ≡ ltb 0 (get_or signal 0 0)) → b ≡ false → 10 ≡ verdict T
  unfolding verdict
  is-ten e x f g z = sym (rw (single-as e ∙ x, plain-as f g ∙ z))

-- a table that passed them
pub record Passed (T : Table) (signal category : List ℕ) (path : ℕ → Parts) (n m : ℕ) : Type 0 where
  pub listing : Listing T signal category path n m
  pub once : single T ≡ true
  pub silent : zero_silent T ≡ true

pub passed : {T : Table} {signal category : List ℕ} {path : ℕ → Parts} {n m : ℕ} (L : Listing T signal category path n m) {a b : Bool}
    → a ≡ no_two same_key (tabulate (key_at signal category) m) → a ≡ true → (m ≡ 0 → b ≡ true) → (0 < m → b ≡ ltb 0 (get_or signal 0 0))
    → b ≡ true → Passed T signal category path n m
passed L e x f g y = record { listing = L; once = single-as L e ∙ x; silent = plain-as L f g ∙ y }

module _ {T : Table} {signal category : List ℕ} {path : ℕ → Parts} {n m : ℕ} (S : Passed T signal category path n m) where
  abbrev L : Listing T signal category path n m
  L = S.listing

  abbrev tu : ℕ → Tagged Urn
  tu = urn_of signal category path

  abbrev slot : ℕ → ℕ → ℕ
  slot s c = slot_in (key_at signal category) s c m

  once : no_two same_tag (tabulate tu m) ≡ true
  unfolding single
  once = ap (no_two same_tag) L.urns ∙ sym (single-tags 0 T.signals) ∙ S.once

  -- the place of a signal is the path of its slot's URN
  place-slot : (s c : ℕ) → place T s c ≡ path_in tu (slot s c)
  place-slot s c =
      sym (first-place 0 s T.signals c) ∙ ap₂ (λ z (y : List (Tagged Urn)). first_place y z c) (zero-add s) (sym L.urns)
      ∙ slot-place tu s c m once

  -- the URN of a slot is of its signal and category
  of-slot : (s c i : ℕ) → slot s c ≡ suc i → (i < m) × (s ≡ get_or signal i 0) × (c ≡ get_or category i 0)
  of-slot s c i e =
      let r = slot-key (key_at signal category) s c m i e in
      let a = (and-eq-true_iff (eqb s (get_or signal i 0)) (eqb c (get_or category i 0))).0 r.1 in
      (r.0, eqb-true s (get_or signal i 0) a.0, eqb-true c (get_or category i 0) a.1)

  distinct-by : (q : ℕ → ℕ → Bool) → ((i j : ℕ) → i < j → j < n → same_places T.cats (get_or T.signals i []) (get_or T.signals j []) ≡ q i j)
      → distinct T ≡ no_two q (tabulate (λ i. i) n)
  unfolding distinct
  distinct-by q h =
      ap (no_two (same_places T.cats)) (sym (tab-list T.signals []) ∙ ap (tabulate (λ i. get_or T.signals i [])) L.signals)
      ∙ two-alike (same_places T.cats) q (λ i. get_or T.signals i []) (λ i. i) n h

  verdict-11 : distinct T ≡ false → 11 ≡ verdict T
  unfolding verdict
  verdict-11 e = sym (rw (S.once, S.silent, e))

  -- by node numbers
  module _ {node : List ℕ} (N : Numbering T category path node m) where
    abbrev node_at : ℕ → ℕ → ℕ
    node_at s c = node_in (key_at signal category) node s c m

    place_is : (s c : ℕ) (x : ℕ) → slot s c ≡ x → node_at s c ≡ number (nodes T) c (path_in tu x)
    place_is s c zero e = node-none (key_at signal category) node s c m e ∙ sym (root-number T c)
    place_is s c (suc i) e =
        let r = of-slot s c i e in
        node-some (key_at signal category) node s c m i e ∙ N.numbers i r.0 ∙ ap (λ y. number (nodes T) y (path i)) (sym r.2)

    -- no place past the categories, and none past the signals
    blank : (s c : ℕ) (x : ℕ) → slot s c ≡ x → T.cats ≤ c → node_at s c ≡ 0
    blank s c zero e j = node-none (key_at signal category) node s c m e
    blank s c (suc i) e j = let r = of-slot s c i e in absurd (omega (arith, r.2, L.known i r.0))

    absent : (s c : ℕ) (x : ℕ) → slot s c ≡ x → n ≤ s → node_at s c ≡ 0
    absent s c zero e j = node-none (key_at signal category) node s c m e
    absent s c (suc i) e j =
        let r = of-slot s c i e in
        absurd (omega (arith, r.1, tagged-below 0 T.signals tu m L.urns i r.0, L.signals))

    abbrev numbers : ℕ → List ℕ
    numbers s = numbers_from (nodes T) 0 (row_of T s)

    wide : (s : ℕ) → length (numbers s) ≡ T.cats
    wide s = numbers-length (nodes T) 0 (row_of T s) ∙ row-length (get_or T.signals s []) 0 T.cats

    digit : (s c : ℕ) → node_at s c ≡ get_or (numbers s) c 0
    digit s c = by_test (ltb c T.cats)
        (λ b.
        let g = ltb-true c T.cats b in
        let g₂ : c < length (row_of T s) = omega (arith, g, row-length (get_or T.signals s []) 0 T.cats) in
        place_is s c (slot s c) refl ∙ ap (number (nodes T) c) (sym (place-slot s c))
        ∙ sym (numbers-at (nodes T) 0 (row_of T s) c g₂ ∙ ap₂ (number (nodes T)) (zero-add c) (row-place T s c g)))
        (λ b.
        let g = ltb-false c T.cats b in
        blank s c (slot s c) refl g ∙ sym (get_or-eq_default (numbers s) 0 (omega (arith, wide s, g))))

    module _ (rows : List ℕ) (v : (s : ℕ) → s < most_signals → get_or rows s 0 ≡ row_in (key_at signal category) node s m) where
      packed : (s : ℕ) → s < n → get_or rows s 0 ≡ pack (numbers s)
      packed s k = v s (omega (arith, L.few-signals)) ∙ packed-is (numbers s) (node_at s) 8 (omega (arith, wide s, L.few-categories)) (λ j i. digit s j)

      past : length rows ≡ most_signals → Padded most_signals n rows
      past w = (
        w,
        λ s h. by_test (ltb s most_signals)
            (λ b. v s (ltb-true s most_signals b) ∙ packed-is [] (node_at s) 8 (omega arith) (λ j i. absent s j (slot s j) refl h))
            (λ b. get_or-eq_default rows 0 (omega (arith, w, ltb-false s most_signals b))),
      )

      anchored : (s : ℕ) → s < n → Anchored T 0 (row_of T s)
      anchored s k c = subst (λ (z : ℕ). RootOrNode (nodes T) z (get_or (row_of T s) c [])) (sym (zero-add c)) (row-nodes T s (omega (arith, k, L.signals)) c)

      row-test : (i j : ℕ) → i < n → j < n → same_row (row_of T i) (row_of T j) ≡ eqb (get_or rows i 0) (get_or rows j 0)
      row-test i j a b =
          same_test (same_row (row_of T i) (row_of T j)) (eqb (get_or rows i 0) (get_or rows j 0))
          (λ e. eq-eqb _ _ (packed i a ∙ ap (λ (r : Row). pack (numbers_from (nodes T) 0 r)) (row-exact.to (row_of T i) (row_of T j) e) ∙ sym (packed j b)))
          (λ e.
          let w : pack (numbers i) ≡ pack (numbers j) = sym (packed i a) ∙ eqb-true _ _ e ∙ packed j b in
          let s : numbers i ≡ numbers j =
          pack-same (numbers i) (numbers j) (wide i ∙ sym (wide j)) (numbers-bytes (nodes T) N.few-nodes 0 (row_of T i))
          (numbers-bytes (nodes T) N.few-nodes 0 (row_of T j)) w in
          let u : row_of T i ≡ row_of T j =
          numbers-same T 0 (row_of T i) (row_of T j) (anchored i a) (anchored j b) (row-length (get_or T.signals i []) 0 T.cats
          ∙ sym (row-length (get_or T.signals j []) 0 T.cats)) s in
          subst (λ (r : Row). same_row (row_of T i) r ≡ true) u (row-exact.self (row_of T i)))

      by_rows : {b : Bool} → b ≡ no_two eqb (tabulate (λ s. get_or rows s 0) n) → distinct T ≡ b
      by_rows e =
          distinct-by (λ i j. eqb (get_or rows i 0) (get_or rows j 0)) (λ i j h k. row-test i j (omega arith) k)
          ∙ two-alike (λ i j. eqb (get_or rows i 0) (get_or rows j 0)) eqb (λ i. i) (λ s. get_or rows s 0) n (λ i j h k. refl) ∙ sym e

      accepted : {b : Bool} → b ≡ no_two eqb (tabulate (λ s. get_or rows s 0) n) → b ≡ true → 0 ≡ verdict T
      unfolding verdict few_nodes
      accepted e z = sym (rw (S.once, S.silent, by_rows e ∙ z, le-leb (length (nodes T)) most_nodes N.few-nodes))

      pub rows-good : {b : Bool} → b ≡ no_two eqb (tabulate (λ s. get_or rows s 0) n) → b ≡ true → length rows ≡ most_signals → Placed T rows n 0
      rows-good e z w = record { refusal = accepted e z; packed = λ _. packed; past = λ _. past w }

      pub rows-eleven : {b : Bool} → b ≡ no_two eqb (tabulate (λ s. get_or rows s 0) n) → b ≡ false → 11 ≡ verdict T
      rows-eleven e z = verdict-11 (by_rows e ∙ z)

-- a refused table has no places
pub not-placed : {T : Table} {rows : List ℕ} {n : ℕ} (r : ℕ) → r ≢ 0 → r ≡ verdict T → Placed T rows n r
not-placed r z e = record { refusal = e; packed = λ y. absurd (z y); past = λ y. absurd (z y) }

-- by texts
module _ (t at len : List ℕ) {T : Table} {signal category : List ℕ} {n m : ℕ} (S : Passed T signal category (λ i. fields 58 (stretch t at len i)) n m)
    (slots : List ℕ) (w : (s c : ℕ) → c < 8 → get_or slots (8 * s + c) 0 ≡ slot_in (key_at signal category) s c m) where
  abbrev texts : ℕ → Tagged Urn
  texts = urn_of signal category (λ i. fields 58 (stretch t at len i))

  same-slot : (x y : ℕ) → same_parts (path_in texts x) (path_in texts y) ≡ same_slots t at len x y
  unfolding same_slots
  same-slot zero zero = refl
  same-slot zero (suc j) = ap (same_parts []) (fields-first 58 (stretch t at len j)).1 ∙ sym (rw (ne_eqb (suc j) 0 (λ z. omega arith)))
  same-slot (suc i) zero = ap (λ (p : Parts). same_parts p []) (fields-first 58 (stretch t at len i)).1 ∙ sym (rw (ne_eqb (suc i) 0 (λ z. omega arith)))
  same-slot (suc i) (suc j) =
      let x : suc i - 1 ≡ i = omega arith in
      let y : suc j - 1 ≡ j = omega arith in
      same-fields 58 (stretch t at len i) (stretch t at len j) ∙ sym (rw (ne_eqb (suc i) 0 (λ z. omega arith), ne_eqb (suc j) 0 (λ z. omega arith), x, y))

  module _ (k : ℕ) (g : T.cats ≡ k) (few : k ≤ 8) where
    rows-texts : (a b : ℕ) → same_places T.cats (get_or T.signals a []) (get_or T.signals b []) ≡ same_places_at t slots at len k a b
    rows-texts a b =
        ap (λ n. same_places n (get_or T.signals a []) (get_or T.signals b [])) g
        ∙ row-all (get_or T.signals a []) (get_or T.signals b []) 0 k
        ∙ all_alike (λ i. same_parts (place T a (0 + i)) (place T b (0 + i))) (λ c. same_slots t at len (get_or slots (8 * a + c) 0)
        (get_or slots (8 * b + c) 0)) (λ i. i) (λ c. c) k
        (λ c h.
        let l : c < 8 = omega arith in
        ap (λ i. same_parts (place T a i) (place T b i)) (zero-add c) ∙ ap₂ same_parts (place-slot S a c) (place-slot S b c) ∙ same-slot (slot S a c) (slot S b c)
        ∙ sym (ap₂ (same_slots t at len) (w a c l) (w b c l)))

    abbrev test : Bool
    test = no_two (same_places_at t slots at len k) (tabulate (λ a. a) n)

    by-texts : distinct T ≡ test
    by-texts = distinct-by S (same_places_at t slots at len k) (λ i j h l. rows-texts i j)

    twelve : most_nodes < length (nodes T) → test ≡ true → 12 ≡ verdict T
    unfolding verdict few_nodes
    twelve h z = sym (rw (S.once, S.silent, by-texts ∙ z, lt-leb (length (nodes T)) most_nodes h))

    pub crowded-right : {r : ℕ} → most_nodes < length (nodes T) → r ≡ cond test 12 11 → r ≡ verdict T
    crowded-right h e =
        by_test test
        (λ q. e ∙ ap (λ b. cond b 12 11) q ∙ twelve h q)
        (λ q. e ∙ ap (λ b. cond b 12 11) q ∙ verdict-11 S (by-texts ∙ q))
