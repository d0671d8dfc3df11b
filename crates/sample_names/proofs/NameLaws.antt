-- The names z0, z1, z2 and so on: their form, that no two are the same, and that the one chosen is the first that is free.
use Prim.Native.Nat.{ℕ, zero, suc, ◌+◌, ◌-◌, ◌*◌, ◌/◌, ◌%◌, ◌≤◌, ◌<◌}
use mathlib.Core.Path.{◌≡◌, refl, sym, ap, ◌∙◌}
use mathlib.Core.Logic.{◌⊎◌, inl, inr}
use mathlib.Core.Bool.{Bool, true, false, cond}
use mathlib.Core.List.{List, [], ◌∷◌, ◌++◌, reverse, reverse-reverse, head-eq_of_cons-eq, tail-eq_of_cons-eq, append_cancel_left, Memᴰ}
use mathlib.Core.List.Memᴰ
use native.Mathlib.Omega.{arith}
use lib.Dec.{eqb, ltb, leb}
use lib.ListN.{length}
use borrow.Author.Tests.{eqb-true, eqb-false, leb-true, lt-ltb, le-ltb}
use Rattle.base_numbers.specs.Numbers.{most_nodes}
use Rattle.base_lists.proofs.Bools.{by_test}
use Rattle.base_lists.specs.Cuts.{up_to, past}
use Rattle.base_lists.specs.Tests.{all}
use Rattle.base_lists.proofs.Tabulated.{tabulate-length}
use Rattle.base_lists.proofs.Below.{all-to}
use Rattle.base_lists.proofs.Lists.{Exact, distinct-add, distinct-fits, member-to}
use Rattle.base_lists.specs.Lists.{member_by, Distinct, tabulate, all_below}
use Rattle.theory_resolution.specs.Names.{Name, same_name, same_parts}
use Rattle.theory_resolution.specs.Table.{Urn, urn}
use Rattle.theory_resolution.specs.Nodes.{same_urn}
use Rattle.theory_resolution.proofs.Names.{name-exact, parts-exact}
use Rattle.theory_resolution.proofs.Nodes.{urn-exact}
use Rattle.base_text.specs.Text.{fields, on_first}
use Rattle.urn_names.specs.Names.{label_byte, label_ok, name_ok}
use Rattle.sample_names.specs.FirstFree.{one_more, digits_of, z_name, first_free, name_taken, part_taken, foreign, strange}
use Rattle.sample_names.specs.Claims.{NamesDiffer, ForeignFirst, StrangeFirst}

-- the number that digits say, the last one first
unfoldable said : List ℕ → ℕ
said [] = 0
said (d ∷ ds) = (d - 48) + 10 * said ds

-- a digit
abbrev digit : ℕ → Type 0
digit d = (48 ≤ d) × (d ≤ 57)

digits : List ℕ → Type 0
digits [] = Unit {0}
digits (d ∷ ds) = digit d × digits ds

more-digits : (l : List ℕ) → digits l → digits (one_more l) × (said (one_more l) ≡ suc (said l))
unfolding digits one_more said
more-digits [] h = (((omega arith, omega arith), tt), refl)
more-digits (d ∷ ds) h =
    let ih = more-digits ds h.1 in
    by_test (eqb d 57)
    (λ e. let k = eqb-true d 57 e in simp e (((omega arith, omega arith), ih.0), omega (arith, ih.1, k)))
    (λ e. let k = eqb-false d 57 e in simp e (((omega (arith, h.0.0), omega (arith, h.0.1, k)), h.1), omega (arith, h.0.0)))

-- the digits of a number say it
digits-said : (n : ℕ) → digits (digits_of n) × (said (digits_of n) ≡ n)
unfolding digits digits_of said
digits-said zero = (((omega arith, omega arith), tt), refl)
digits-said (suc n) =
    let ih = digits-said n in
    let m = more-digits (digits_of n) ih.0 in
    (m.0, m.1 ∙ ap suc ih.1)

-- no two names are the same
pub z-once : NamesDiffer
unfolding z_name
z-once n m e =
    let r : reverse (digits_of n) ≡ reverse (digits_of m) = tail-eq_of_cons-eq e in
    let d : digits_of n ≡ digits_of m = sym (reverse-reverse (digits_of n)) ∙ ap reverse r ∙ reverse-reverse (digits_of m) in
    sym (digits-said n).1 ∙ ap said d ∙ (digits-said m).1

-- z, and one digit or two
abbrev short : ℕ → Name
short k = cond (ltb k 10) (122 ∷ (48 + k) ∷ []) (122 ∷ (48 + k / 10) ∷ (48 + k % 10) ∷ [])

short-test : all_below 65 (λ k. same_name (short k) (z_name k)) ≡ true
unfolding all_below z_name digits_of one_more
short-test = refl

short-z : (k : ℕ) → k ≤ most_nodes → short k ≡ z_name k
short-z k h = name-exact.to (short k) (z_name k) (all-to 65 (λ k. same_name (short k) (z_name k)) short-test k (omega arith))

pub z-one : (k : ℕ) → k ≤ most_nodes → k < 10 → 122 ∷ (48 + k) ∷ [] ≡ z_name k
z-one k h l = ap (λ b. cond b (122 ∷ (48 + k) ∷ []) (122 ∷ (48 + k / 10) ∷ (48 + k % 10) ∷ [])) (sym (lt-ltb k 10 l)) ∙ short-z k h

pub z-two : (k : ℕ) → k ≤ most_nodes → 10 ≤ k → 122 ∷ (48 + k / 10) ∷ (48 + k % 10) ∷ [] ≡ z_name k
z-two k h l = ap (λ b. cond b (122 ∷ (48 + k) ∷ []) (122 ∷ (48 + k / 10) ∷ (48 + k % 10) ∷ [])) (sym (le-ltb k 10 l)) ∙ short-z k h

-- they are names of at most three bytes, with no colon
ok-test : all_below 65 (λ k. name_ok (z_name k)) ≡ true
unfolding all_below z_name digits_of one_more name_ok label_ok label_byte up_to past all
ok-test = refl

pub z-ok : (k : ℕ) → k ≤ most_nodes → name_ok (z_name k) ≡ true
z-ok k h = all-to 65 (λ k. name_ok (z_name k)) ok-test k (omega arith)

length-test : all_below 65 (λ k. leb (length (z_name k)) 3) ≡ true
unfolding all_below z_name digits_of one_more
length-test = refl

pub z-length : (k : ℕ) → k ≤ most_nodes → length (z_name k) ≤ 3
z-length k h = leb-true (length (z_name k)) 3 (all-to 65 (λ k. leb (length (z_name k)) 3) length-test k (omega arith))

alone-test : all_below 65 (λ k. same_parts (fields 58 (z_name k)) (z_name k ∷ [])) ≡ true
unfolding all_below z_name digits_of one_more fields on_first
alone-test = refl

pub z-alone : (k : ℕ) → k ≤ most_nodes → fields 58 (z_name k) ≡ z_name k ∷ []
z-alone k h = parts-exact.to (fields 58 (z_name k)) (z_name k ∷ []) (all-to 65 (λ k. same_parts (fields 58 (z_name k)) (z_name k ∷ [])) alone-test k (omega arith))

-- the search ends at a number that is not taken, or past the last one
abbrev Ended : (ℕ → Bool) → ℕ → ℕ → ℕ → Type 0
Ended taken n i m = (taken m ≡ false) ⊎ ((m ≡ i + n) × ((k : ℕ) → i ≤ k → k < i + n → taken k ≡ true))

free-or-all : (taken : ℕ → Bool) (n i : ℕ) → Ended taken n i (first_free taken n i)
unfolding first_free
free-or-all taken zero i = inr (omega arith, λ k a b. absurd (omega arith))
free-or-all taken (suc n) i = go (taken i) refl (free-or-all taken n (suc i))
  where
    later : taken i ≡ true → ((k : ℕ) → suc i ≤ k → k < suc i + n → taken k ≡ true) → (k : ℕ) → i ≤ k → k < i + suc n → taken k ≡ true
    later e h k a b =
        by_test (eqb k i) (λ q. ap taken (eqb-true k i q) ∙ e)
        (λ q. let w = eqb-false k i q in h k (omega (arith, w)) (omega arith))

    further : taken i ≡ true → (m : ℕ) → Ended taken n (suc i) m → Ended taken (suc n) i m
    further e m (inl x) = inl x
    further e m (inr x) = inr (omega (arith, x.0), later e x.1)

    go : (b : Bool) → taken i ≡ b → Ended taken n (suc i) (first_free taken n (suc i)) → Ended taken (suc n) i (cond b (first_free taken n (suc i)) i)
    go true e x = further e (first_free taken n (suc i)) x
    go false e x = inl e

pub free-le : (taken : ℕ → Bool) (n i : ℕ) → first_free taken n i ≤ i + n
unfolding first_free
free-le taken zero i = omega arith
free-le taken (suc n) i = by_test (taken i) (λ e. simp e (omega (arith, free-le taken n (suc i)))) (λ e. simp e (omega arith))

-- all numbers that it passes are taken
free-before : (taken : ℕ → Bool) (n i j : ℕ) → i ≤ j → j < first_free taken n i → taken j ≡ true
unfolding first_free
free-before taken zero i j a b = absurd (omega arith)
free-before taken (suc n) i j a b = go (taken i) refl (free-before taken n (suc i) j) b
  where
    go : (x : Bool) → taken i ≡ x → (suc i ≤ j → j < first_free taken n (suc i) → taken j ≡ true) → j < cond x (first_free taken n (suc i)) i → taken j ≡ true
    go false e ih h = absurd (omega arith)
    go true e ih h =
        by_test (eqb j i) (λ q. ap taken (eqb-true j i q) ∙ e)
        (λ q. let w = eqb-false j i q in ih (omega (arith, w)) h)

-- what stands among the first n
tabulated : {A : Type 0} (g : ℕ → A) (n : ℕ) (x : A) → Memᴰ x (tabulate g n) → (k : ℕ) × (k < n) × (x ≡ g k)
unfolding tabulate
tabulated g zero x m = absurd (Memᴰ.not-nil m)
tabulated {A} g (suc n) x m = go (Memᴰ.append_cases (tabulate g n) m) (λ h. tabulated g n x h)
  where
    go : Memᴰ x (tabulate g n) ⊎ Memᴰ x (g n ∷ []) → (Memᴰ x (tabulate g n) → (k : ℕ) × (k < n) × (x ≡ g k)) → (k : ℕ) × (k < suc n) × (x ≡ g k)
    go (inl h) ih = let w = ih h in (w.0, omega (arith, w.1), w.2)
    go (inr h) ih = (n, omega arith, Memᴰ.eq_of_singleton h)

-- of one more things than the list has, no two of them the same, one is not in it
module _ {A : Type 0} (f : A → A → Bool) (ex : Exact f) (g : ℕ → A) (once : (n m : ℕ) → g n ≡ g m → n ≡ m) where
  not-before : (n : ℕ) → member_by f (g n) (tabulate g n) ≡ false
  not-before n = go (member_by f (g n) (tabulate g n)) refl
    where
      go : (b : Bool) → member_by f (g n) (tabulate g n) ≡ b → b ≡ false
      go false e = refl
      go true e =
          let w = tabulated g n (g n) (member-to f ex (g n) (tabulate g n) e) in
          absurd (omega (arith, w.1, once n w.0 w.2))

  distinct : (n : ℕ) → Distinct f (tabulate g n)
  unfolding tabulate
  distinct zero = tt
  distinct (suc n) =
      let d = distinct-add f ex (tabulate g n) (g n) (distinct n) in
      rw (not-before n) at d

  pub one_free : (l : List A) → member_by f (g (first_free (λ k. member_by f (g k) l) (length l) 0)) l ≡ false
  one_free l = go (free-or-all (λ k. member_by f (g k) l) (length l) 0)
    where
      all-taken : (n : ℕ) → n ≡ length l → ((k : ℕ) → 0 ≤ k → k < 0 + length l → member_by f (g k) l ≡ true) → (b : Bool) → member_by f (g n) l ≡ b → b ≡ false
      all-taken n e h false q = refl
      all-taken n e h true q =
          let here : (x : A) → Memᴰ x (tabulate g (suc n)) → member_by f x l ≡ true = λ x m.
          let w = tabulated g (suc n) x m in
          ap (λ y. member_by f y l) w.2 ∙ by_test (eqb w.0 n) (λ a. ap (λ (k : ℕ). member_by f (g k) l) (eqb-true w.0 n a) ∙ q)
          (λ a. let z = eqb-false w.0 n a in h w.0 (omega arith) (omega (arith, w.1, z, e))) in
          absurd (omega (arith, distinct-fits f ex (tabulate g (suc n)) l (distinct (suc n)) here, tabulate-length g (suc n), e))

      go : Ended (λ k. member_by f (g k) l) (length l) 0 (first_free (λ k. member_by f (g k) l) (length l) 0)
          → member_by f (g (first_free (λ k. member_by f (g k) l) (length l) 0)) l ≡ false
      go (inl x) = x
      go (inr x) = all-taken (first_free (λ k. member_by f (g k) l) (length l) 0) (omega (arith, x.0)) x.1
          (member_by f (g (first_free (λ k. member_by f (g k) l) (length l) 0)) l) refl

-- the foreign name is the first that is no category
pub foreign-first : ForeignFirst
unfolding foreign name_taken
foreign-first names = (
  first_free (name_taken names) (length names) 0,
  refl,
  one_free same_name name-exact z_name z-once names,
  λ j h. free-before (name_taken names) (length names) 0 j (omega arith) h,
)

-- the strange part is the first that makes no node
part-once : (u : Urn) (n m : ℕ) → urn u.cat (u.path ++ z_name n ∷ []) ≡ urn u.cat (u.path ++ z_name m ∷ []) → n ≡ m
part-once u n m e = z-once n m (head-eq_of_cons-eq (append_cancel_left u.path (z_name n ∷ []) (z_name m ∷ []) (ap (λ (v : Urn). v.path) e)))

pub strange-first : StrangeFirst
unfolding strange part_taken
strange-first ns u = (
  first_free (part_taken ns u) (length ns) 0,
  refl,
  one_free same_urn urn-exact (λ k. urn u.cat (u.path ++ z_name k ∷ [])) (part-once u) ns,
  λ j h. free-before (part_taken ns u) (length ns) 0 j (omega arith) h,
)

-- the numbers are small
pub strange-number : (ns : List Urn) (u : Urn) → length ns ≤ most_nodes → first_free (part_taken ns u) (length ns) 0 ≤ most_nodes
strange-number ns u h = omega (arith, free-le (part_taken ns u) (length ns) 0)

pub foreign-number : (names : List Name) → length names ≤ most_nodes → first_free (name_taken names) (length names) 0 ≤ most_nodes
foreign-number names h = omega (arith, free-le (name_taken names) (length names) 0)
