-- The answer by its tests, and the claims of a value.
use Prim.Native.Nat.{ℕ, ◌<◌}
use mathlib.Core.Path.{◌≡◌, refl, sym, ap, ap₂, ◌∙◌}
use mathlib.Core.Bool.{Bool, true, false, cond, not, true≢false}
use mathlib.Core.List.{List, []}
use lib.Dec.{eqb}
use lib.ListN.{length, get_or}
use borrow.Author.Tests.{eq-eqb, ne_eqb}
use native.Mathlib.Omega.{arith}
use Rattle.base_numbers.specs.declared.refusal.Refusal.{Refusal}
use Rattle.base_numbers.specs.Refusals.{refusal_number}
use Rattle.base_numbers.proofs.Refusals.{refusal-some}
use Rattle.base_lists.proofs.Lists.{mem-at, member_of, index-member}
use Rattle.base_lists.proofs.Below.{all-stop, all-failed}
use Rattle.base_lists.specs.Lists.{member_by, index_by}
use Rattle.base_lists.proofs.Bools.{by_test}
use Rattle.value_reader.specs.Value.{refusal_of}
use Rattle.theory_resolution.specs.Names.{Name, same_name}
use Rattle.theory_resolution.proofs.Names.{name-exact}
use Rattle.table_decode.specs.Tables.{table_refusal, category_names}
use Rattle.resolve_pair.specs.declared.Pair.{Pair}
use Rattle.resolve_pair.specs.Pair.{other_name, none_of, apart, pair_refusal, signal_in, refused, pair_of}
use Rattle.resolve_pair.specs.Claims.{Shared, PairClaim}

module _ (ring lamp v : List ℕ) where
  abbrev both : Pair
  both = record { refusal = 0; ring = signal_in ring v; lamp = signal_in lamp v }

  by_number : (k : ℕ) → pair_refusal ring lamp v ≡ k → cond (eqb k 0) both (refused k) ≡ pair_of ring lamp v
  unfolding pair_of
  by_number k e = ap (λ n. cond (eqb n 0) both (refused n)) (sym e)

  some_number : (k : ℕ) → pair_refusal ring lamp v ≡ k → (k ≡ 0 → ⊥) → refused k ≡ pair_of ring lamp v
  some_number k e n = sym (ap (λ b. cond b both (refused k)) (ne_eqb k 0 n)) ∙ by_number k e

  pub of-value : {n : ℕ} → n ≡ refusal_of v → (n ≡ 0 → ⊥) → refused n ≡ pair_of ring lamp v
  of-value {n} e h = ap refused e ∙ some_number (refusal_of v) (simp (ne_eqb (refusal_of v) 0 (λ z. h (e ∙ z)))) (λ z. h (e ∙ z))

  module _ (z : refusal_of v ≡ 0) where
    by-ring : {n : ℕ} → n ≡ table_refusal ring → (n ≡ 0 → ⊥) → refused n ≡ pair_of ring lamp v
    by-ring {n} e h = ap refused e ∙ some_number (table_refusal ring) (simp (
      eq-eqb (refusal_of v) 0 z,
      ne_eqb (table_refusal ring) 0 (λ i. h (e ∙ i)),
    )) (λ i. h (e ∙ i))

    pub of-ring : (k : Refusal) → refusal_number k ≡ table_refusal ring → refused (refusal_number k) ≡ pair_of ring lamp v
    of-ring k e = by-ring e (λ i. omega (arith, refusal-some k, i))

    module _ (zr : table_refusal ring ≡ 0) where
      by-lamp : {n : ℕ} → n ≡ table_refusal lamp → (n ≡ 0 → ⊥) → refused n ≡ pair_of ring lamp v
      by-lamp {n} e h =
          ap refused e
          ∙ some_number (table_refusal lamp) (simp (
            eq-eqb (refusal_of v) 0 z,
            eq-eqb (table_refusal ring) 0 zr,
            ne_eqb (table_refusal lamp) 0 (λ i. h (e ∙ i)),
          )) (λ i. h (e ∙ i))

      pub of-lamp : (k : Refusal) → refusal_number k ≡ table_refusal lamp → refused (refusal_number k) ≡ pair_of ring lamp v
      of-lamp k e = by-lamp e (λ i. omega (arith, refusal-some k, i))

      module _ (zl : table_refusal lamp ≡ 0) where
        last : (b : Bool) → apart (category_names ring) (category_names lamp) ≡ b → pair_refusal ring lamp v ≡ cond b 0 24
        last b e = simp (eq-eqb (refusal_of v) 0 z, eq-eqb (table_refusal ring) 0 zr, eq-eqb (table_refusal lamp) 0 zl) (ap (λ x. cond x 0 24) e)

        pub with-24 : apart (category_names ring) (category_names lamp) ≡ false → refused 24 ≡ pair_of ring lamp v
        with-24 e = some_number 24 (last false e) (λ i. omega arith)

        pub with-both : apart (category_names ring) (category_names lamp) ≡ true → {r l : ℕ} → r ≡ signal_in ring v → l ≡ signal_in lamp v
            → record { refusal = 0; ring = r; lamp = l } ≡ pair_of ring lamp v
        with-both e f g = ap₂ (λ (x y : ℕ). record { refusal = 0; ring = x; lamp = y }) f g ∙ by_number 0 (last true e)

not_same : (x y : Name) → not (same_name x y) ≡ false → x ≡ y
not_same x y = go (same_name x y) refl
  where
    go : (b : Bool) → same_name x y ≡ b → not b ≡ false → x ≡ y
    go true e h = name-exact.to x y e
    go false e h = absurd (true≢false h)

-- a name of a list is one of its members, and the other way round
listed : (l : List Name) (k : ℕ) → k < length l → member_by same_name (get_or l k []) l ≡ true
listed l k h = member_of same_name name-exact (get_or l k []) l (mem-at l k [] h)

module _ (a b : List Name) where
  pub in_both : apart a b ≡ false → (x : Name) × (member_by same_name x a ≡ true) × (member_by same_name x b ≡ true)
  in_both e =
      let i = all-failed (length a) (none_of a b) e in
      let j = all-failed (length b) (other_name (get_or a i.0 []) b) i.2 in
      let s = not_same (get_or a i.0 []) (get_or b j.0 []) j.2 in
      (get_or a i.0 [], listed a i.0 i.1, ap (λ x. member_by same_name x b) s ∙ listed b j.0 j.1)

  pub not-apart : (x : Name) → member_by same_name x a ≡ true → member_by same_name x b ≡ true → apart a b ≡ false
  not-apart x p q =
      let i = index-member same_name name-exact [] x a p in
      let j = index-member same_name name-exact [] x b q in
      all-stop (length a) (none_of a b) (index_by same_name x a) i.0
      (all-stop (length b) (other_name (get_or a (index_by same_name x a) []) b) (index_by same_name x b) j.0
      (ap₂ (λ y z. not (same_name y z)) i.1 j.1 ∙ ap not (name-exact.self x)))

pub pair-claim : PairClaim
pair-claim ring lamp v =
    record {
      of-value = λ n. sym (of-value ring lamp v refl n);
      of-ring = λ z n. sym (by-ring ring lamp v z refl n);
      of-lamp = λ z r n. sym (by-lamp ring lamp v z r refl n);
      shared = λ z r l. (shared z r l, λ w. sym (with-24 ring lamp v z r l (not-apart (category_names ring) (category_names lamp) w.0 w.1 w.2)));
      given = λ z r l n.
          by_test (apart (category_names ring) (category_names lamp))
          (λ e. sym (with-both ring lamp v z r l e refl refl)) (λ e. absurd (n (in_both (category_names ring) (category_names lamp) e)));
    }
  where
    shared : refusal_of v ≡ 0 → table_refusal ring ≡ 0 → table_refusal lamp ≡ 0 → pair_of ring lamp v ≡ refused 24 → Shared ring lamp
    shared z r l e =
        by_test (apart (category_names ring) (category_names lamp))
        (λ q. let i : ◌≡◌ {A = ℕ} 0 24 = ap (λ (p : Pair). p.refusal) (with-both ring lamp v z r l q refl refl ∙ e) in absurd (omega arith))
        (λ q. in_both (category_names ring) (category_names lamp) q)
