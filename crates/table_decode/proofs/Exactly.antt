-- Each of the numbers 4 to 12 is given exactly where it is due, and the smallest of those that are due.
use Prim.Native.Nat.{ℕ, suc, ◌≤◌, ◌<◌}
use mathlib.Core.Path.{◌≡◌, refl, ap, sym, ◌∙◌, subst}
use mathlib.Core.Bool.{Bool, true, false, cond, ◌&&◌, and-eq-true_iff, true≢false, false≢true}
use mathlib.Core.List.Memᴰ
use mathlib.Core.List.{List, [], ◌∷◌, Memᴰ}
use mathlib.Core.Logic.{◌⊎◌, inl, inr}
use native.Mathlib.Omega.{arith}
use lib.ListN.{length, get_or}
use lib.Dec.{ltb}
use borrow.Author.Tests.{leb-true, leb-false, ltb-true, ltb-false, eq-eqb, eqb-true}
use Rattle.base_numbers.specs.Numbers.{most_nodes, most_table_bytes}
use Rattle.base_lists.proofs.Tests.{all-mem, any-yes}
use Rattle.base_lists.proofs.Lists.{member_of, member-to}
use Rattle.base_lists.proofs.Bools.{by_test}
use Rattle.base_lists.specs.Tests.{all, any, no_two}
use Rattle.urn_names.specs.Urn.{stored_name, urn_ok, category_of}
use Rattle.theory_resolution.specs.Names.{Name, same_name}
use Rattle.theory_resolution.specs.Table.{Urn, urn, Table, row_of, same_row}
use Rattle.theory_resolution.specs.Nodes.{nodes}
use Rattle.theory_resolution.proofs.Names.{name-exact, row-exact}
use Rattle.table_sections.specs.Stored.{Read, fault, got, Stored, stored}
use Rattle.table_places.specs.Verdict.{same_cat, no_urn, same_places}
use Rattle.table_decode.specs.Tables.{formed, uses, is_listed, listed, table_in, single, zero_silent, distinct, few_nodes, verdict, judged}
use Rattle.table_decode.specs.Tables.{judged_read, table_refusal}
use Rattle.table_decode.specs.Claims.{TableStops, Misformed, of-name, of-urn, Mislisted, twice, unused, unlisted, TwoOfOne, ZeroSays}
use Rattle.table_decode.specs.Claims.{AlikePlaces, ManyNodes, Holding, Due, four, five-six, seven, eight, nine, ten, eleven, twelve, TableGiven}
use Rattle.table_decode.specs.Claims.{accepted, first, TableRefusedExactly}
use Rattle.table_decode.proofs.Accepting.{any-mem, two_at}
use Rattle.table_decode.proofs.NameForms.{name-to, name_of, urn-to, urn-of}
use Rattle.table_decode.proofs.Writing.{never, got-value, stored-reads, stored_back}
use Rattle.table_decode.proofs.Stopping.{table_to, table_of, stop-number}

-- a test over a whole list that fails, fails somewhere
module _ {A : Type 0} where
  all-not : (p : A → Bool) (xs : List A) → all p xs ≡ false → (x : A) × Memᴰ x xs × (p x ≡ false)
  unfolding all
  all-not p [] e = absurd (true≢false e)
  all-not p (x ∷ xs) e = go (p x) refl (λ h. all-not p xs h)
    where
      go : (b : Bool) → p x ≡ b → (all p xs ≡ false → (y : A) × Memᴰ y xs × (p y ≡ false)) → (y : A) × Memᴰ y (x ∷ xs) × (p y ≡ false)
      go true h ih = let w = ih (rw h at e) in (w.0, Memᴰ.tail w.1, w.2)
      go false h ih = (x, Memᴰ.head refl, h)

  any_none : (p : A → Bool) (xs : List A) → any p xs ≡ false → (x : A) → Memᴰ x xs → p x ≡ false
  unfolding any
  any_none p [] e x m = absurd (Memᴰ.not-nil m)
  any_none p (y ∷ xs) e x m = go (Memᴰ.cases_cons m) (λ h k. any_none p xs h x k)
    where
      here : p y ≡ false
      here = by_test (p y) (λ h. let z : true ≡ false = rw h at e in absurd (true≢false z)) (λ h. h)

      go : (x ≡ y) ⊎ Memᴰ x xs → (any p xs ≡ false → Memᴰ x xs → p x ≡ false) → p x ≡ false
      go (inl i) ih = ap p i ∙ here
      go (inr k) ih = ih (rw here at e) k

  two-not : (q : A → A → Bool) (xs : List A) (d : A) → no_two q xs ≡ false → (i j : ℕ) × (i < j) × (j < length xs) × (q (get_or xs i d) (get_or xs j d) ≡ true)
  unfolding no_two
  two-not q [] d e = absurd (true≢false e)
  two-not q (x ∷ xs) d e = go (any (q x) xs) refl (λ h. two-not q xs d h)
    where
      go : (b : Bool) → any (q x) xs ≡ b → (no_two q xs ≡ false → (i j : ℕ) × (i < j) × (j < length xs) × (q (get_or xs i d) (get_or xs j d) ≡ true))
          → (i j : ℕ) × (i < j) × (j < suc (length xs)) × (q (get_or (x ∷ xs) i d) (get_or (x ∷ xs) j d) ≡ true)
      go true h ih = let w = any-yes (q x) xs d h in (0, suc w.0, omega arith, omega (arith, w.1), w.2)
      go false h ih = let w = ih (rw h at e) in (suc w.0, suc w.1, omega (arith, w.2), omega (arith, w.3), w.4)

-- 7
formed-fault : (s : Stored) → formed s ≡ false → Misformed s
unfolding formed
formed-fault s e =
    by_test (all stored_name s.names)
    (λ h.
    let a = all-not (all urn_ok) s.signals (rw h at e) in
    let b = all-not urn_ok a.0 a.2 in
    of-urn a.0 a.1 b.0 b.1 (λ f. true≢false (sym (urn-of b.0 f) ∙ b.2)))
    (λ h. let a = all-not stored_name s.names h in of-name a.0 a.1 (λ f. true≢false (sym (name_of a.0 f) ∙ a.2)))

formed-clear : (s : Stored) → formed s ≡ true → Misformed s → ⊥
unfolding formed
formed-clear s e (of-name x m n) = let a = (and-eq-true_iff (all stored_name s.names) (all (all urn_ok) s.signals)).0 e in
    n (name-to x (all-mem stored_name s.names x a.0 m))
formed-clear s e (of-urn sig m u k n) =
    let a = (and-eq-true_iff (all stored_name s.names) (all (all urn_ok) s.signals)).0 e in
    n (urn-to u (all-mem urn_ok sig u (all-mem (all urn_ok) s.signals sig a.1 m) k))

-- 8
no_same : (x y : Name) → same_name x y ≡ false → x ≡ y → ⊥
no_same x y e i = true≢false (sym (name-exact.self x) ∙ ap (same_name x) i ∙ e)

listed-fault : (s : Stored) → listed s ≡ false → Mislisted s
unfolding listed uses is_listed
listed-fault s e =
    by_test (no_two same_name s.names)
    (λ h. by_test (all (λ x. any (uses x) s.signals) s.names)
    (λ g.
    let a = all-not (all (is_listed s.names)) s.signals (rw (h, g) at e) in
    let b = all-not (is_listed s.names) a.0 a.2 in
    unlisted a.0 a.1 b.0 b.1 (λ m. true≢false (sym (member_of same_name name-exact (category_of b.0) s.names m) ∙ b.2)))
    (λ g.
    let a = all-not (λ x. any (uses x) s.signals) s.names g in
    unused a.0 a.1
    (λ sig m u k. no_same (category_of u) a.0 (any_none (λ v. same_name (category_of v) a.0) sig (any_none (uses a.0) s.signals a.2 sig m) u k))))
    (λ h. let w = two-not same_name s.names [] h in
    twice w.0 w.1 w.2 w.3 (name-exact.to (get_or s.names w.0 []) (get_or s.names w.1 []) w.4))

listed-clear : (s : Stored) → listed s ≡ true → Mislisted s → ⊥
unfolding listed uses is_listed
listed-clear s e m = go m
  where
    a : (no_two same_name s.names ≡ true) × (all (λ x. any (uses x) s.signals) s.names && all (all (is_listed s.names)) s.signals ≡ true)
    a = (and-eq-true_iff (no_two same_name s.names) (all (λ x. any (uses x) s.signals) s.names && all (all (is_listed s.names)) s.signals)).0 e

    b : (all (λ x. any (uses x) s.signals) s.names ≡ true) × (all (all (is_listed s.names)) s.signals ≡ true)
    b = (and-eq-true_iff (all (λ x. any (uses x) s.signals) s.names) (all (all (is_listed s.names)) s.signals)).0 a.1

    go : Mislisted s → ⊥
    go (twice i j h k z) = no_same (get_or s.names i []) (get_or s.names j []) (two_at same_name s.names [] a.0 i j h k) z
    go (unused x m n) =
        let c = any-mem (uses x) s.signals (all-mem (λ y. any (uses y) s.signals) s.names x b.0 m) in
        let d = any-mem (λ u. same_name (category_of u) x) c.0 c.2 in
        n c.0 c.1 d.0 d.1 (name-exact.to (category_of d.0) x d.2)
    go (unlisted sig m u k n) =
        n (member-to same_name name-exact (category_of u) s.names
        (all-mem (is_listed s.names) sig u (all-mem (all (is_listed s.names)) s.signals sig b.1 m) k))

-- 9 to 12
module _ (T : Table) where
  single-fault : single T ≡ false → TwoOfOne T
  unfolding single
  single-fault e =
      let a = all-not (no_two same_cat) T.signals e in
      let w = two-not same_cat a.0 (urn 0 []) a.2 in
      (a.0, a.1, w.0, w.1, w.2, w.3, eqb-true _ _ w.4)

  single-clear : single T ≡ true → TwoOfOne T → ⊥
  unfolding single
  single-clear e w =
      true≢false (sym (eq-eqb _ _ w.6) ∙ two_at same_cat w.0 (urn 0 []) (all-mem (no_two same_cat) T.signals w.0 e w.1) w.2 w.3 w.4 w.5)

  zero-fault : zero_silent T ≡ false → ZeroSays T
  unfolding zero_silent
  zero-fault = go (get_or T.signals 0 [])
    where
      go : (l : List Urn) → no_urn l ≡ false → (u : Urn) × Memᴰ u l
      go [] e = absurd (true≢false e)
      go (u ∷ l) e = (u, Memᴰ.head refl)

  zero_clear : zero_silent T ≡ true → ZeroSays T → ⊥
  unfolding zero_silent
  zero_clear e w = go (get_or T.signals 0 []) e w.1
    where
      go : (l : List Urn) → no_urn l ≡ true → Memᴰ w.0 l → ⊥
      go [] e m = Memᴰ.not-nil m
      go (u ∷ l) e m = false≢true e

  rows-fault : distinct T ≡ false → AlikePlaces T
  unfolding distinct
  rows-fault e =
      let w = two-not (same_places T.cats) T.signals [] e in
      (w.0, w.1, w.2, w.3, row-exact.to (row_of T w.0) (row_of T w.1) w.4)

  rows-clear : distinct T ≡ true → AlikePlaces T → ⊥
  unfolding distinct
  rows-clear e w =
      let o : same_row (row_of T w.0) (row_of T w.1) ≡ true = rw w.4 (row-exact.self (row_of T w.1)) in
      true≢false (sym o ∙ two_at (same_places T.cats) T.signals [] e w.0 w.1 w.2 w.3)

  nodes-fault : few_nodes T ≡ false → ManyNodes T
  unfolding few_nodes
  nodes-fault e = leb-false (length (nodes T)) most_nodes e

  nodes-clear : few_nodes T ≡ true → ManyNodes T → ⊥
  unfolding few_nodes
  nodes-clear e h = omega (arith, leb-true (length (nodes T)) most_nodes e)

-- what rules out the numbers below n
record Clear (t : List ℕ) (n : ℕ) : Type 0 where
  short : 4 < n → length t ≤ most_table_bytes
  stops : (k : ℕ) → k < n → TableStops k t → ⊥
  forms : 7 < n → (s : Stored) → Holding t s → Misformed s → ⊥
  lists : 8 < n → (s : Stored) → Holding t s → Mislisted s → ⊥
  once : 9 < n → (s : Stored) → Holding t s → TwoOfOne (table_in s) → ⊥
  silent : 10 < n → (s : Stored) → Holding t s → ZeroSays (table_in s) → ⊥
  rows : 11 < n → (s : Stored) → Holding t s → AlikePlaces (table_in s) → ⊥
  few : 12 < n → (s : Stored) → Holding t s → ManyNodes (table_in s) → ⊥

ruled : (t : List ℕ) (n : ℕ) → Clear t n → (m : ℕ) → m < n → Due t m → ⊥
ruled t n c m l (four e h) = omega (arith, c.short (omega arith))
ruled t n c m l (five-six s) = c.stops m l s
ruled t n c m l (seven e s h f) = c.forms (omega arith) s h f
ruled t n c m l (eight e s h f) = c.lists (omega arith) s h f
ruled t n c m l (nine e s h f) = c.once (omega arith) s h f
ruled t n c m l (ten e s h f) = c.silent (omega arith) s h f
ruled t n c m l (eleven e s h f) = c.rows (omega arith) s h f
ruled t n c m l (twelve e s h f) = c.few (omega arith) s h f

fault-number : (i j : ℕ) → ◌≡◌ {A = Read Stored} (fault i) (fault j) → i ≡ j
fault-number i j q = cc

-- no number over 12 is ever due
due-number : (t : List ℕ) (m : ℕ) → Due t m → m < 13
due-number t m (four e h) = omega arith
due-number t m (five-six s) = omega (arith, (stop-number t m s).1)
due-number t m (seven e s h f) = omega arith
due-number t m (eight e s h f) = omega arith
due-number t m (nine e s h f) = omega arith
due-number t m (ten e s h f) = omega arith
due-number t m (eleven e s h f) = omega arith
due-number t m (twelve e s h f) = omega arith

-- bytes of at most 8,192 that can be read
module _ (t : List ℕ) (short : length t ≤ most_table_bytes) (s : Stored) (q : ℕ) (e : stored t ≡ got s q) where
  held : Holding t s
  held = let b = stored_back t s q e in record { fits = b.0; bytes = sym b.1 }

  only : (P : Stored → Type 0) → (P s → ⊥) → (s₁ : Stored) → Holding t s₁ → P s₁ → ⊥
  only P n s₁ h p =
      let r = stored-reads s₁ h.fits in
      n (subst P (got-value s₁ s r.0 q (sym r.1 ∙ ap stored (sym h.bytes) ∙ e)) p)

  no_stop : (k : ℕ) → TableStops k t → ⊥
  no_stop k z = never k s q (sym (table_to t k z) ∙ e)

  abbrev T : Table
  T = table_in s

  -- the tests passed before n rule out the numbers below it
  clear : (n : ℕ) → (7 < n → formed s ≡ true) → (8 < n → listed s ≡ true) → (9 < n → single T ≡ true) → (10 < n → zero_silent T ≡ true)
      → (11 < n → distinct T ≡ true)
      → (12 < n → few_nodes T ≡ true) → (m : ℕ) → m < n → Due t m → ⊥
  clear n x7 x8 x9 x10 x11 x12 =
      ruled t n
      (record {
        short = λ _. short;
        stops = λ k _. no_stop k;
        forms = λ l. only Misformed (formed-clear s (x7 l));
        lists = λ l. only Mislisted (listed-clear s (x8 l));
        once = λ l. only (λ x. TwoOfOne (table_in x)) (single-clear T (x9 l));
        silent = λ l. only (λ x. ZeroSays (table_in x)) (zero_clear T (x10 l));
        rows = λ l. only (λ x. AlikePlaces (table_in x)) (rows-clear T (x11 l));
        few = λ l. only (λ x. ManyNodes (table_in x)) (nodes-clear T (x12 l));
      })

  off : {P : Type 0} (n k : ℕ) → n ≤ k → k < n → P
  off n k h l = absurd (omega arith)

  -- the tests in their order
  by_tests : (a b c d f g : Bool) → formed s ≡ a → listed s ≡ b → single T ≡ c → zero_silent T ≡ d → distinct T ≡ f → few_nodes T ≡ g
      → TableGiven t (cond a (cond b (cond c (cond d (cond f (cond g 0 12) 11) 10) 9) 8) 7)
  by_tests false b c d f g a₁ b₁ c₁ d₁ f₁ g₁ =
      first (seven refl s held (formed-fault s a₁))
      (clear 7 (off 7 7 (omega arith)) (off 7 8 (omega arith)) (off 7 9 (omega arith)) (off 7 10 (omega arith)) (off 7 11 (omega arith))
      (off 7 12 (omega arith)))
  by_tests true false c d f g a₁ b₁ c₁ d₁ f₁ g₁ =
      first (eight refl s held (listed-fault s b₁))
      (clear 8 (λ _. a₁) (off 8 8 (omega arith)) (off 8 9 (omega arith)) (off 8 10 (omega arith)) (off 8 11 (omega arith)) (off 8 12 (omega arith)))
  by_tests true true false d f g a₁ b₁ c₁ d₁ f₁ g₁ =
      first (nine refl s held (single-fault T c₁))
      (clear 9 (λ _. a₁) (λ _. b₁) (off 9 9 (omega arith)) (off 9 10 (omega arith)) (off 9 11 (omega arith)) (off 9 12 (omega arith)))
  by_tests true true true false f g a₁ b₁ c₁ d₁ f₁ g₁ =
      first (ten refl s held (zero-fault T d₁))
      (clear 10 (λ _. a₁) (λ _. b₁) (λ _. c₁) (off 10 10 (omega arith)) (off 10 11 (omega arith)) (off 10 12 (omega arith)))
  by_tests true true true true false g a₁ b₁ c₁ d₁ f₁ g₁ =
      first (eleven refl s held (rows-fault T f₁))
      (clear 11 (λ _. a₁) (λ _. b₁) (λ _. c₁) (λ _. d₁) (off 11 11 (omega arith)) (off 11 12 (omega arith)))
  by_tests true true true true true false a₁ b₁ c₁ d₁ f₁ g₁ =
      first (twelve refl s held (nodes-fault T g₁))
      (clear 12 (λ _. a₁) (λ _. b₁) (λ _. c₁) (λ _. d₁) (λ _. f₁) (off 12 12 (omega arith)))
  by_tests true true true true true true a₁ b₁ c₁ d₁ f₁ g₁ =
      accepted refl s held (λ m x. clear 13 (λ _. a₁) (λ _. b₁) (λ _. c₁) (λ _. d₁) (λ _. f₁) (λ _. g₁) m (due-number t m x) x)

  read-given : TableGiven t (judged s)
  unfolding judged verdict
  read-given = by_tests (formed s) (listed s) (single T) (zero_silent T) (distinct T) (few_nodes T) refl refl refl refl refl refl

-- the number that is given is given so
is-given : (t : List ℕ) → TableGiven t (table_refusal t)
unfolding table_refusal judged_read
is-given t =
    by_test (ltb most_table_bytes (length t))
    (λ h. rw h (first (four refl (ltb-true most_table_bytes (length t) h)) (early 4 (omega arith) (λ l. absurd (omega arith)) (λ m l x. omega (
      arith,
      (stop-number t m x).0,
    )))))
    (λ h. rw h (go (ltb-false most_table_bytes (length t) h) (stored t) refl))
  where
    -- the reading stops with k, or before it
    early : (k : ℕ) → k ≤ 6 → (4 < k → length t ≤ most_table_bytes) → ((m : ℕ) → m < k → TableStops m t → ⊥) → (m : ℕ) → m < k → Due t m → ⊥
    early k h short stops =
        ruled t k
        (record {
          short = short;
          stops = stops;
          forms = λ l. absurd (omega arith);
          lists = λ l. absurd (omega arith);
          once = λ l. absurd (omega arith);
          silent = λ l. absurd (omega arith);
          rows = λ l. absurd (omega arith);
          few = λ l. absurd (omega arith);
        })

    go : length t ≤ most_table_bytes → (r : Read Stored) → stored t ≡ r → TableGiven t (judged_read r)
    go short (fault k) e = first (five-six (table_of t k e)) (early k (stop-number t k (table_of t k e)).1 (λ _. short)
        (λ m l x. omega (arith, fault-number m k (sym (table_to t m x) ∙ e))))
    go short (got s q) e = read-given t short s q e

-- and no other
one-given : (t : List ℕ) (m n : ℕ) → TableGiven t m → TableGiven t n → m ≡ n
one-given t m n (accepted e s h x) (accepted f s₁ h₁ y) = e ∙ sym f
one-given t m n (accepted e s h x) (first d y) = absurd (x n d)
one-given t m n (first d x) (accepted f s₁ h₁ y) = absurd (y m d)
one-given t m n (first d x) (first c y) = by_test (ltb m n) (λ h. absurd (y m (ltb-true m n h) d))
    (λ h. by_test (ltb n m) (λ k. absurd (x n (ltb-true n m k) c)) (λ k. omega (arith, ltb-false m n h, ltb-false n m k)))

pub refused-exactly : TableRefusedExactly
refused-exactly t n = (λ e. subst (TableGiven t) e (is-given t), λ g. one-given t (table_refusal t) n (is-given t) g)
