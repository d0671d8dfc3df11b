-- Loops that search: one turn, and the end.
use Prim.Native.Nat.{ℕ, zero, suc, ◌+◌, ◌≤◌, ◌<◌, min}
use mathlib.Core.Path.{◌≡◌, refl, sym, ap, ap₂, ◌∙◌}
use mathlib.Core.Bool.{Bool, true, false, cond, ◌&&◌, ◌||◌, and-false}
use mathlib.Core.List.{List, [], ◌∷◌, ◌++◌}
use native.Mathlib.Omega.{arith}
use lib.Dec.{eqb, ltb}
use Rattle.std.specs.List.{list_any, range_with_len}
use Rattle.std.specs.Prelude.{Option, Some, None, unwrap_or, MatchOption}
use lib.ListN.{length, get_or, take, drop}
use lib.Seq.{drop-cons}
use borrow.Author.Tests.{eq-eqb, ne_eqb, eqb-true, eqb-false, lt-ltb}
use Rattle.base_numbers.specs.Numbers.{most_categories, most_nodes}
use Rattle.base_lists.specs.Cuts.{stretch}
use Rattle.base_lists.proofs.Tabulated.{tabulate-length, tabulate-same, tab-list}
use Rattle.base_lists.proofs.Bools.{by_test}
use Rattle.base_lists.proofs.Lists.{member-join}
use Rattle.std.proofs.lemmas.List.Folds.{list_any-append}
use Rattle.base_lists.specs.Lists.{member_by, tabulate}
use Rattle.theory_resolution.specs.Names.{Name, Parts, same_name, same_parts}
use Rattle.theory_resolution.specs.Table.{Urn, urn, Table}
use Rattle.theory_resolution.specs.Nodes.{same_urn, nodes, node_at, is_node}
use Rattle.base_text.specs.Text.{fields}
use Rattle.node_search.specs.Arrays.{NamesIn, NodesIn, text_in}
use Rattle.base_text.proofs.Fields.{same-fields, fields_join}
use Rattle.sample_names.specs.FirstFree.{z_name, first_free, name_taken, part_taken, foreign, strange}
use Rattle.sample_names.proofs.NameLaws.{z-alone}
use Rattle.sample_names.specs.Held.{held_names, held_urn, held_urns}

range-last : (a n j : ℕ) → a + n ≡ j → range_with_len a (suc n) ≡ range_with_len a n ++ j ∷ []
range-last a zero j e = ap (λ (x : ℕ). x ∷ []) (omega (arith, e))
range-last a (suc n) j e = ap (λ (l : List ℕ). a ∷ l) (range-last (a + 1) n j (omega (arith, e)))

-- a search among numbers, as a search among what they number
any-member : {A : Type 0} (f : A → A → Bool) (z : A) (g : ℕ → A) (p : ℕ → Bool) (n : ℕ) → ((i : ℕ) → i < n → p i ≡ f z (g i))
    → list_any p (range_with_len 0 n) ≡ member_by f z (tabulate g n)
unfolding tabulate
any-member f z g p zero h = refl
any-member f z g p (suc n) h =
    ap (list_any p) (range-last 0 n n (omega arith)) ∙ list_any-append p (range_with_len 0 n) (n ∷ [])
    ∙ ap₂ (λ (x y : Bool). x || y) (any-member f z g p n (λ i l. h i (omega arith))) (ap (λ (x : Bool). x || false) (h n (omega arith)))
    ∙ sym (member-join f z (tabulate g n) (g n ∷ []))

-- the first number that is not taken
free_all : (taken : ℕ → Bool) (n i : ℕ) → ((k : ℕ) → i ≤ k → k < i + n → taken k ≡ true) → i + n ≡ first_free taken n i
unfolding first_free
free_all taken zero i h = omega arith
free_all taken (suc n) i h =
    let later : (k : ℕ) → suc i ≤ k → k < suc i + n → taken k ≡ true = λ k a b. h k (omega arith) (omega arith) in
    rw (h i (omega arith) (omega arith)) (omega (arith, free_all taken n (suc i) later))

free_at : (taken : ℕ → Bool) (n i k : ℕ) → i ≤ k → k < i + n → taken k ≡ false → ((j : ℕ) → i ≤ j → j < k → taken j ≡ true) → k ≡ first_free taken n i
unfolding first_free
free_at taken zero i k a b e h = absurd (omega arith)
free_at taken (suc n) i k a b e h =
    by_test (eqb i k)
    (λ q. let s : i ≡ k = eqb-true i k q in rw (ap taken s ∙ e) (sym s))
    (λ q. let ne = eqb-false i k q in rw (h i (omega arith) (omega (arith, ne)))
    (free_at taken n (suc i) k (omega (arith, ne)) (omega arith) e (λ j x y. h j (omega arith) y)))

pub first-found : (taken : ℕ → Bool) (n : ℕ) (r : Option ℕ) → n ≤ most_nodes
    → MatchOption r ((k : ℕ) → 0 ≤ k → k < n → k ≤ most_nodes → taken k ≡ true)
    (λ i. (0 ≤ i) × (i < n) × (i ≤ most_nodes → taken i ≡ false) × ((k : ℕ) → 0 ≤ k → k < i → k ≤ most_nodes → taken k ≡ true))
    → unwrap_or r n ≡ first_free taken n 0
first-found taken n None few h = omega (arith, free_all taken n 0 (λ k a b. h k a (omega arith) (omega arith)))
first-found taken n (Some i) few h =
    free_at taken n 0 i h.0 (omega (arith, h.1)) (h.2 (omega (arith, h.1))) (λ k a b. h.3 k a b (omega (arith, h.1)))

-- the k-th of the names, looked for
pub name-member : (t at len : List ℕ) (m k : ℕ) {b : Bool} {z : Name} → z ≡ z_name k
    → b ≡ list_any (λ i. same_name z (text_in most_categories t at len i)) (range_with_len 0 (min m most_categories))
    → b ≡ name_taken (held_names t at len m) k
unfolding name_taken held_names text_in
name-member t at len m k {b} {z} e h =
    h ∙ any-member same_name z (stretch t at len) _ (min m most_categories)
    (λ i l. ap (λ c. same_name z (cond c (stretch t at len i) [])) (lt-ltb i most_categories (omega arith)))
    ∙ ap (λ y. member_by same_name y (tabulate (stretch t at len) (min m most_categories))) e

-- a text of two parts
pub same-split : (p q w : List ℕ) → same_name (p ++ q) w ≡ (same_name p (take (length p) w) && same_name q (drop (length p) w))
same-split [] q w = refl
same-split (x ∷ p) q [] = refl
same-split (x ∷ p) q (y ∷ w) =
    by_test (eqb x y) (λ e. simp e (same-split p q w)) (λ e. simp e)

same_none : (p q : List ℕ) (x : ℕ) (w : List ℕ) → length w ≤ length p → same_name (p ++ x ∷ q) w ≡ false
same_none [] q x [] h = refl
same_none [] q x (y ∷ w) h = absurd (omega arith)
same_none (a ∷ p) q x [] h = refl
same_none (a ∷ p) q x (y ∷ w) h = ap (λ (b : Bool). eqb a y && b) (same_none p q x w (omega arith)) ∙ and-false (eqb a y)

pub made-short : (p z w : List ℕ) → length w ≤ length p → false ≡ same_name (p ++ 58 ∷ z) w
made-short p z w h = sym (same_none p z 58 w h)

module _ (p z w : List ℕ) (h : length p < length w) where
  front : {b c : Bool} → b ≡ same_name p (take (length p) w) → b ≡ c → same_name p (take (length p) w) ≡ c
  front e t = sym e ∙ t

  split-there : same_name (p ++ 58 ∷ z) w ≡ (same_name p (take (length p) w) && (eqb 58 (get_or w (length p) 0) && same_name z (drop (suc (length p)) w)))
  split-there = same-split p (58 ∷ z) w ∙ ap (λ (l : List ℕ). same_name p (take (length p) w) && same_name (58 ∷ z) l) (drop-cons w (length p) 0 h)

  pub made_other : {b : Bool} → b ≡ same_name p (take (length p) w) → b ≡ false → false ≡ same_name (p ++ 58 ∷ z) w
  made_other {b} e t = sym (split-there ∙ ap (λ (c : Bool). c && (eqb 58 (get_or w (length p) 0) && same_name z (drop (suc (length p)) w))) (front e t))

  pub made-byte : {b : Bool} → b ≡ same_name p (take (length p) w) → b ≡ true → (get_or w (length p) 0 ≡ 58 → ⊥) → false ≡ same_name (p ++ 58 ∷ z) w
  made-byte {b} e t n =
      sym (split-there ∙ ap (λ (c : Bool). c && (eqb 58 (get_or w (length p) 0) && same_name z (drop (suc (length p)) w))) (front e t)
      ∙ ap (λ (c : Bool). c && same_name z (drop (suc (length p)) w)) (ne_eqb 58 (get_or w (length p) 0) (λ q. n (sym q))))

  pub made-rest : {b r : Bool} → b ≡ same_name p (take (length p) w) → b ≡ true → get_or w (length p) 0 ≡ 58
      → r ≡ same_name z (drop (length p + 1) w) → r ≡ same_name (p ++ 58 ∷ z) w
  made-rest {b} {r} e t n q =
      let one : length p + 1 ≡ suc (length p) = omega arith in
      q ∙ ap (λ (k : ℕ). same_name z (drop k w)) one ∙
      sym (split-there ∙ ap (λ (c : Bool). c && (eqb 58 (get_or w (length p) 0) && same_name z (drop (suc (length p)) w))) (front e t)
      ∙ ap (λ (c : Bool). c && same_name z (drop (suc (length p)) w)) (eq-eqb 58 (get_or w (length p) 0) (sym n)))

-- a node, by its category and its path as a text
pub node-other : (c : ℕ) (s : List ℕ) (u : Urn) {k : ℕ} → k ≡ u.cat → (c ≡ k → ⊥) → false ≡ same_urn (urn c (fields 58 s)) u
node-other c s u {k} e n = sym (ap (λ (b : Bool). b && same_parts (fields 58 s) u.path) (ne_eqb c u.cat (λ q. n (q ∙ sym e))))

pub node-same : (c : ℕ) (s w : List ℕ) (u : Urn) {k : ℕ} {b : Bool} → k ≡ u.cat → c ≡ k → fields 58 w ≡ u.path → b ≡ same_name s w
    → b ≡ same_urn (urn c (fields 58 s)) u
node-same c s w u {k} {b} e q f h =
    h ∙ sym (ap₂ (λ (x : Bool) (y : Bool). x && y) (eq-eqb c u.cat (q ∙ e)) (ap (same_parts (fields 58 s)) (sym f) ∙ same-fields 58 s w))

-- the k-th name after a path's text
pub part-member : (t category at len : List ℕ) (m c k : ℕ) (p : List ℕ) {b : Bool} {z : Name} → k ≤ most_nodes → z ≡ z_name k
    → b ≡ list_any (λ j. ltb j most_nodes && same_urn (urn c (fields 58 (p ++ 58 ∷ z))) (held_urn t category at len j)) (range_with_len 0 (min m most_nodes))
    → b ≡ part_taken (held_urns t category at len m) (urn c (fields 58 p)) k
unfolding part_taken held_urns
part-member t category at len m c k p {b} {z} few e h =
    h ∙ any-member same_urn (urn c (fields 58 (p ++ 58 ∷ z))) (held_urn t category at len) _ (min m most_nodes)
    (λ i l. ap (λ x. x && same_urn (urn c (fields 58 (p ++ 58 ∷ z))) (held_urn t category at len i)) (lt-ltb i most_nodes (omega arith)))
    ∙ ap (is_node (tabulate (held_urn t category at len) (min m most_nodes)) c)
    (ap (λ (y : List ℕ). fields 58 (p ++ 58 ∷ y)) e ∙ fields_join 58 p (z_name k) ∙ ap (λ (l : Parts). fields 58 p ++ l) (z-alone k few))

-- the names that are answered
module _ (t at len : List ℕ) (m : ℕ) where
  held-names : (names : List Name) → NamesIn t at len m names → held_names t at len m ≡ names
  unfolding held_names
  held-names names h =
      let q : min m 8 ≡ length names = omega (arith, h.few-names, h.all-names) in
      ap (tabulate (stretch t at len)) q ∙ tabulate-same (stretch t at len) (λ i. get_or names i []) (length names)
      (λ i k. h.name-at i (omega (arith, h.all-names))) ∙ tab-list names []

  pub foreign-name : {k : ℕ} {l : List ℕ} → k ≡ first_free (name_taken (held_names t at len m)) (min m most_categories) 0 → l ≡ z_name k
      → l ≡ foreign (held_names t at len m)
  unfolding foreign held_names
  foreign-name e g =
      g ∙ ap z_name (e ∙ ap (λ (n : ℕ). first_free (name_taken (tabulate (stretch t at len) (min m most_categories))) n 0)
      (sym (tabulate-length (stretch t at len) (min m most_categories))))

module _ (t category at len : List ℕ) (m : ℕ) where
  held-urns : (T : Table) → NodesIn t category at len m T → held_urns t category at len m ≡ nodes T
  unfolding held_urns
  held-urns T h =
      let q : min m most_nodes ≡ length (nodes T) = omega (arith, h.few-nodes, h.all-nodes) in
      ap (tabulate (held_urn t category at len)) q
      ∙ tabulate-same (held_urn t category at len) (node_at (nodes T)) (length (nodes T))
      (λ i k. let j : i < m = omega (arith, h.all-nodes) in ap₂ urn (h.cat-at i j) (h.path-at i j))
      ∙ tab-list (nodes T) (urn 0 [])

  pub strange-name : (u : Urn) {k : ℕ} {l : List ℕ} → k ≡ first_free (part_taken (held_urns t category at len m) u) (min m most_nodes) 0 → l ≡ z_name k
      → l ≡ strange (held_urns t category at len m) u
  unfolding strange held_urns
  strange-name u e g =
      g ∙ ap z_name (e ∙ ap (λ (n : ℕ). first_free (part_taken (tabulate (held_urn t category at len) (min m most_nodes)) u) n 0)
      (sym (tabulate-length (held_urn t category at len) (min m most_nodes))))

-- by a table's own arrays they are the table's
pub foreign-held : (t at len : List ℕ) (m : ℕ) (names : List Name) {l : List ℕ} → l ≡ foreign (held_names t at len m)
    → NamesIn t at len m names → l ≡ foreign names
foreign-held t at len m names e h = e ∙ ap foreign (held-names t at len m names h)

pub strange-held : (t category at len : List ℕ) (m : ℕ) (u : Urn) (T : Table) {l : List ℕ} → l ≡ strange (held_urns t category at len m) u
    → NodesIn t category at len m T → l ≡ strange (nodes T) u
strange-held t category at len m u T e h = e ∙ ap (λ (ns : List Urn). strange ns u) (held-urns t category at len m T h)
