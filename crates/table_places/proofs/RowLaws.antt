-- Laws of the rows of places, by node numbers and by texts.
use Prim.Native.Nat.{ℕ, zero, suc, ◌+◌, ◌-◌, ◌<◌}
use mathlib.Core.Path.{◌≡◌, refl, ap, ap₂, sym, ◌∙◌}
use mathlib.Core.Bool.{Bool, true, false, ◌&&◌, and-eq-true_iff}
use mathlib.Core.List.{List}
use native.Mathlib.Numerals.{add-one}
use native.Mathlib.Omega.{arith}
use lib.ListN.{length, get_or, set, length-set, get_or-eq_default}
use lib.Seq.{get_or-set_same, get_or-set_other}
use lib.Dec.{eqb, ltb}
use borrow.Author.Tests.{eq-eqb, ne_eqb, eqb-true, eqb-false, ltb-true, ltb-false}
use Rattle.base_numbers.specs.Numbers.{most_signals}
use Rattle.base_lists.specs.Cuts.{stretch}
use Rattle.base_lists.proofs.Tests.{two-fails, two-next}
use Rattle.base_lists.specs.Tests.{no_two}
use Rattle.base_lists.proofs.Tabulated.{tabulate-length, tabulate-at, tabulate-same, tab-list}
use Rattle.base_lists.specs.Lists.{tabulate}
use Rattle.base_lists.proofs.Bools.{by_test, same_test}
use Rattle.theory_resolution.specs.Names.{same_name}
use Rattle.node_step.specs.Step.{digit, put}
use Rattle.node_step.specs.Rows.{pack}
use Rattle.node_step.proofs.PackedLaws.{Bytes, pack-digit, pack-set}
use Rattle.table_sections.specs.Held.{Tagged, tag}
use Rattle.table_places.specs.Slots.{key_at, same_key, slot_in, node_in, row_in, same_slots}
use Rattle.table_places.proofs.SlotLaws.{slot-none, slot-some, slot-key}

module _ (f : ℕ → Tagged ℕ) (node : List ℕ) (s c : ℕ) where
  -- the node of a slot: its URN's, or none
  pub node-none : (n : ℕ) → slot_in f s c n ≡ 0 → node_in f node s c n ≡ 0
  unfolding slot_in node_in
  node-none zero e = refl
  node-none (suc n) e = by_test (same_key (tag s c) (f n))
      (λ b. let z : suc n ≡ 0 = rw b at e in absurd (omega arith))
      (λ b. rw b (node-none n (rw b at e)))

  pub node-some : (n i : ℕ) → slot_in f s c n ≡ suc i → node_in f node s c n ≡ get_or node i 0
  unfolding slot_in node_in
  node-some zero i e = let z : ◌≡◌ {A = ℕ} 0 (suc i) = e in absurd (omega arith)
  node-some (suc n) i e = by_test (same_key (tag s c) (f n))
      (λ b. let z : n ≡ i = omega (arith, rw b at e) in rw b (ap (λ k. get_or node k 0) z))
      (λ b. rw b (node-some n i (rw b at e)))

  -- one URN further
  node-here : (i : ℕ) → same_key (tag s c) (f i) ≡ true → node_in f node s c (i + 1) ≡ get_or node i 0
  unfolding node_in
  node-here i b = rw (add-one, b)

  node-there : (i : ℕ) → same_key (tag s c) (f i) ≡ false → node_in f node s c (i + 1) ≡ node_in f node s c i
  unfolding node_in
  node-there i b = rw (add-one, b)

  -- without a node there is no slot, where each URN has a node
  no_slot : (n : ℕ) → ((j : ℕ) → j < n → 0 < get_or node j 0) → node_in f node s c n ≡ 0 → slot_in f s c n ≡ 0
  no_slot n v z = go (slot_in f s c n) refl
    where
      go : (x : ℕ) → slot_in f s c n ≡ x → slot_in f s c n ≡ 0
      go zero e = e
      go (suc j) e = absurd (omega (arith, v j (slot-key f s c n j e).0, node-some n j e, z))

pub row-start : (f : ℕ → Tagged ℕ) (node : List ℕ) (s : ℕ) → row_in f node s 0 ≡ 0
unfolding node_in tabulate
row-start f node s = refl

pub bytes-start : (f : ℕ → Tagged ℕ) (node : List ℕ) (s c : ℕ) → node_in f node s c 0 < 256
unfolding node_in
bytes-start f node s c = omega arith

-- the i-th URN, of signal x and category y, is put into its row
module _ (signal category node rows : List ℕ) (i x y : ℕ) (e : x ≡ get_or signal i 0) (g : y ≡ get_or category i 0) (h : y < 8)
    (small : (s c : ℕ) → node_in (key_at signal category) node s c i < 256)
    (v : (s : ℕ) → s < most_signals → get_or rows s 0 ≡ row_in (key_at signal category) node s i) (k : x < most_signals) where
  abbrev f : ℕ → Tagged ℕ
  f = key_at signal category

  abbrev list : ℕ → List ℕ
  list s = tabulate (λ c. node_in f node s c i) 8

  list-bytes : (s : ℕ) → Bytes (list s)
  list-bytes s c = by_test (ltb c 8)
      (λ b. omega (arith, tabulate-at (λ c. node_in f node s c i) 8 c 0 (ltb-true c 8 b), small s c))
      (λ b. let z : get_or (list s) c 0 ≡ 0 = get_or-eq_default (list s) 0 (omega (
        arith,
        tabulate-length (λ c. node_in f node s c i) 8,
        ltb-false c 8 b,
      )) in omega (arith, z))

  place_at : digit (get_or rows x 0) y ≡ node_in f node (get_or signal i 0) (get_or category i 0) i
  place_at =
      ap (λ r. digit r y) (v x k) ∙ pack-digit (list x) y (list-bytes x) ∙ tabulate-at (λ c. node_in f node x c i) 8 y 0 h
      ∙ ap₂ (λ s c. node_in f node s c i) e g

  pub row-twice : (m : ℕ) → i < m → (digit (get_or rows x 0) y ≡ 0 → ⊥) → false ≡ no_two same_key (tabulate f m)
  row-twice m l n =
      two-fails same_key f i m l (slot-some f (get_or signal i 0) (get_or category i 0) i
      (λ z. n (place_at ∙ node-none f node (get_or signal i 0) (get_or category i 0) i z)))

  pub row-once : ((j : ℕ) → j < i → 0 < get_or node j 0) → no_two same_key (tabulate f i) ≡ true → digit (get_or rows x 0) y ≡ 0
      → no_two same_key (tabulate f (i + 1)) ≡ true
  row-once u w n =
      two-next same_key f i i w (slot-none f (get_or signal i 0) (get_or category i 0) i (no_slot f node (get_or signal i 0) (get_or category i 0) i
      u (sym place_at ∙ n)))

  is_key : (s c : ℕ) → same_key (tag s c) (f i) ≡ true → (s ≡ x) × (c ≡ y)
  is_key s c b =
      let a = (and-eq-true_iff (eqb s (get_or signal i 0)) (eqb c (get_or category i 0))).0 b in
      (eqb-true s (get_or signal i 0) a.0 ∙ sym e, eqb-true c (get_or category i 0) a.1 ∙ sym g)

  key_here : same_key (tag x y) (f i) ≡ true
  key_here = ap₂ ◌&&◌ (eq-eqb x (get_or signal i 0) e) (eq-eqb y (get_or category i 0) g)

  stays : (s c : ℕ) → ((s ≡ x) × (c ≡ y) → ⊥) → node_in f node s c i ≡ node_in f node s c (i + 1)
  stays s c n = by_test (same_key (tag s c) (f i)) (λ b. absurd (n (is_key s c b))) (λ b. sym (node-there f node s c i b))

  pub bytes_next : get_or node i 0 < 256 → (s c : ℕ) → node_in f node s c (i + 1) < 256
  bytes_next l s c = by_test (same_key (tag s c) (f i))
      (λ b. omega (arith, node-here f node s c i b, l))
      (λ b. omega (arith, node-there f node s c i b, small s c))

  list_put : (p : ℕ) → p ≡ get_or node i 0 → set (list x) y p ≡ tabulate (λ c. node_in f node x c (i + 1)) 8
  list_put p q =
      let w : length (set (list x) y p) ≡ 8 = length-set (list x) y p ∙ tabulate-length (λ c. node_in f node x c i) 8 in
      sym (tab-list (set (list x) y p) 0) ∙ ap (tabulate (λ c. get_or (set (list x) y p) c 0)) w
      ∙ tabulate-same (λ c. get_or (set (list x) y p) c 0) (λ c. node_in f node x c (i + 1)) 8
      (λ c l. by_test (eqb c y)
      (λ b.
      let z = eqb-true c y b in
      ap (λ j. get_or (set (list x) y p) j 0) z ∙ get_or-set_same (list x) y p 0 (omega (arith, h, tabulate-length (λ c. node_in f node x c i) 8)) ∙ q
      ∙ sym (ap (λ j. node_in f node x j (i + 1)) z ∙ node-here f node x y i key_here))
      (λ b.
      let z = eqb-false c y b in
      get_or-set_other (list x) y c p 0 z ∙ tabulate-at (λ c. node_in f node x c i) 8 c 0 l ∙ stays x c (λ o. z o.1)))

  pub row_put : (r p : ℕ) → r ≡ put (get_or rows x 0) y p → p ≡ get_or node i 0 → length rows ≡ most_signals
      → (s : ℕ) → s < most_signals → get_or (set rows x r) s 0 ≡ row_in f node s (i + 1)
  row_put r p q o w s l = by_test (eqb s x)
      (λ b.
      let z = eqb-true s x b in
      ap (λ j. get_or (set rows x r) j 0) z ∙ get_or-set_same rows x r 0 (omega (arith, k, w)) ∙ q ∙ ap (λ a. put a y p) (v x k)
      ∙ pack-set (list x) y p (list-bytes x) (omega (arith, h, tabulate-length (λ c. node_in f node x c i) 8)) ∙ ap pack (list_put p o)
      ∙ ap (λ j. row_in f node j (i + 1)) (sym z))
      (λ b.
      let z = eqb-false s x b in
      get_or-set_other rows x s r 0 z ∙ v s l
      ∙ ap pack (tabulate-same (λ c. node_in f node s c i) (λ c. node_in f node s c (i + 1)) 8 (λ c j. stays s c (λ o. z o.0))))

module _ (t at len : List ℕ) (x y : ℕ) where
  pub slot-first : x ≡ 0 → eqb x y ≡ same_slots t at len x y
  unfolding same_slots
  slot-first e = same_test (eqb x y) (eqb y 0) (λ b. eq-eqb y 0 (omega (arith, e, eqb-true x y b))) (λ b. eq-eqb x y (omega (arith, e, eqb-true y 0 b)))
      ∙ sym (rw (eq-eqb x 0 e))

  pub slot-second : (x ≡ 0 → ⊥) → y ≡ 0 → eqb x y ≡ same_slots t at len x y
  unfolding same_slots
  slot-second n e = ne_eqb x y (λ z. n (z ∙ e)) ∙ sym (rw (ne_eqb x 0 n, eq-eqb y 0 e))

  pub slot-both : {u v : List ℕ} {b : Bool} → (x ≡ 0 → ⊥) → (y ≡ 0 → ⊥) → b ≡ same_name u v → u ≡ stretch t at len (x - 1)
      → v ≡ stretch t at len (y - 1) → b ≡ same_slots t at len x y
  unfolding same_slots
  slot-both n m e f g = e ∙ ap₂ same_name f g ∙ sym (rw (ne_eqb x 0 n, ne_eqb y 0 m))
