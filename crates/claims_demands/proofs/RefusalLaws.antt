-- Every answer is 0 or one of the numbers that are due there.
use Prim.Native.Nat.{ℕ, zero, suc, ◌≤◌}
use mathlib.Core.Path.{◌≡◌, refl, subst}
use mathlib.Core.Logic.{◌⊎◌, inl, inr}
use mathlib.Core.Bool.{Bool, true, false, cond}
use mathlib.Core.List.{List}
use lib.Dec.{eqb, ltb}
use lib.ListN.{length}
use borrow.Author.Tests.{eqb-false}
use native.Mathlib.Omega.{arith}
use Rattle.base_bytes.specs.Built.{refused as without}
use Rattle.base_lists.specs.Lists.{all_below}
use Rattle.value_reader.specs.Value.{refusal_of, uris_of, entry_refusal_of}
use Rattle.value_reader.proofs.Agree.{refusal-numbers as value-numbers}
use Rattle.value_reader.proofs.EntryLaws.{entry-refusal-numbers}
use Rattle.theory_resolution.specs.Direct.{start, same_state}
use Rattle.theory_resolution.specs.Machine.{machine_state, row_right}
use Rattle.theory_resolution.specs.Build.{discovered}
use Rattle.machine_image.specs.Image.{machine_image, machine_in}
use Rattle.machine_image.specs.Refusals.{build_refusal, form_of, check_of}
use Rattle.table_decode.specs.Tables.{table_refusal, table_of, category_names}
use Rattle.table_decode.proofs.RefusalNumbers.{refusal-numbers}
use Rattle.machine_build.specs.Built.{built_of}
use Rattle.machine_library.specs.Built.{built_from, check_from}
use Rattle.resolve_run.specs.declared.Resolution.{Resolution}
use Rattle.resolve_library.specs.Resolve.{refused, answered, walked_signal, unless_refused, plain_of, machine_of}
use Rattle.small_image.specs.Small.{small_form}
use Rattle.resolve_small.specs.Resolve.{walked_small, resolved_small, resolved_over}
use Rattle.resolve_pair.specs.declared.Pair.{Pair}
use Rattle.resolve_pair.specs.Pair.{apart, pair_refusal, signal_in, refused as no_pair, pair_of}
use Rattle.claims_demands.specs.Demands.{Among, ValueNumber, EntryNumber, TableNumber, PlainNumber, MachineNumber, BuildNumber, CheckNumber, PairNumber}

-- one of two numbers, by a test
by_cond : (P : ℕ → Type 0) (b : Bool) {x y : ℕ} → P x → P y → P (cond b x y)
by_cond P true p q = p
by_cond P false p q = q

-- a number's own test against 0: where it passes the first of two numbers is given, else it itself
by_zero : (P : ℕ → Type 0) (n : ℕ) {x : ℕ} → P x → ((n ≡ 0 → ⊥) → P n) → P (cond (eqb n 0) x n)
by_zero P n {x} p q = go (eqb n 0) refl
  where
    go : (b : Bool) → eqb n 0 ≡ b → P (cond b x n)
    go true e = p
    go false e = q (eqb-false n 0 e)

-- a number up to 3
up-to-three : (n : ℕ) → n ≤ 3 → ValueNumber n
up-to-three zero h = inl refl
up-to-three (suc n) h = inr (omega arith, omega arith)

pub value-number : (v : List ℕ) → ValueNumber (refusal_of v)
value-number v = up-to-three (refusal_of v) (value-numbers v)

pub entry-number : (v : List ℕ) (k : ℕ) → EntryNumber (entry_refusal_of v k)
entry-number v k = of (entry-refusal-numbers v k)
  where
    of-value : ValueNumber (entry_refusal_of v k) → EntryNumber (entry_refusal_of v k)
    of-value (inl e) = inl e
    of-value (inr h) = inr (inl h)

    of : (entry_refusal_of v k ≤ 3) ⊎ (entry_refusal_of v k ≡ 18) → EntryNumber (entry_refusal_of v k)
    of (inl h) = of-value (up-to-three (entry_refusal_of v k) h)
    of (inr e) = inr (inr e)

-- the numbers of a resolver: the value's, the table's, or those of the answer within
resolver-number : (P : ℕ → Type 0) → ((n : ℕ) → Among 1 12 n → P n) → (t v : List ℕ) (r : Resolution) → P r.refusal → P (unless_refused t v r).refusal
resolver-number P due t v r p = go (eqb (refusal_of v) 0) refl (eqb (table_refusal t) 0) refl
  where
    from-value : (refusal_of v ≡ 0 → ⊥) → ValueNumber (refusal_of v) → P (refusal_of v)
    from-value n (inl z) = absurd (n z)
    from-value n (inr h) = due (refusal_of v) (omega (arith, h.0), omega (arith, h.1))

    from-table : (table_refusal t ≡ 0 → ⊥) → TableNumber (table_refusal t) → P (table_refusal t)
    from-table n (inl z) = absurd (n z)
    from-table n (inr h) = due (table_refusal t) (omega (arith, h.0), omega (arith, h.1))

    go : (a : Bool) → eqb (refusal_of v) 0 ≡ a → (b : Bool) → eqb (table_refusal t) 0 ≡ b
        → P (cond a (cond b r (refused (table_refusal t))) (refused (refusal_of v))).refusal
    go true e true f = p
    go true e false f = from-table (eqb-false (table_refusal t) 0 f) (refusal-numbers t)
    go false e b f = from-value (eqb-false (refusal_of v) 0 e) (value-number v)

pub plain-number : (t v : List ℕ) → PlainNumber (plain_of t v).refusal
unfolding plain_of
plain-number t v = resolver-number PlainNumber (λ n h. inr h) t v _ (inl refl)

pub machine-number : (t im v : List ℕ) → MachineNumber (machine_of t im v).refusal
unfolding resolved_over
machine-number t im v = resolver-number MachineNumber (λ n h. inr (inl h)) t v _ (go (form_of (table_of t) im))
  where
    go : (b : Bool) → MachineNumber (cond b (answered t (uris_of v) (walked_signal t im (uris_of v))) (refused 15)).refusal
    go true = inl refl
    go false = inr (inr refl)

pub small-number : (t small v : List ℕ) → MachineNumber (resolved_small t small v).refusal
unfolding resolved_over
small-number t small v = resolver-number MachineNumber (λ n h. inr (inl h)) t v _ (go (small_form (table_of t) small))
  where
    go : (b : Bool) → MachineNumber (cond b (answered t (uris_of v) (walked_small t small (uris_of v))) (refused 15)).refusal
    go true = inl refl
    go false = inr (inr refl)

-- where a table is refused, its own number is given
of-table : (P : ℕ → Type 0) → ((n : ℕ) → Among 4 12 n → P n) → (t : List ℕ) {x : ℕ} → P x → P (cond (eqb (table_refusal t) 0) x (table_refusal t))
of-table P due t {x} p = by_zero P (table_refusal t) p (λ n. go n (refusal-numbers t))
  where
    go : (table_refusal t ≡ 0 → ⊥) → TableNumber (table_refusal t) → P (table_refusal t)
    go n (inl z) = absurd (n z)
    go n (inr h) = due (table_refusal t) h

pub build-number : (t : List ℕ) (room : ℕ) → BuildNumber (built_from t room).refusal
unfolding built_from build_refusal
build-number t room =
    subst BuildNumber (pick (eqb (table_refusal t) 0))
    (of-table BuildNumber (λ n h. inr (omega (arith, h.0), omega (arith, h.1))) t
    (by_cond BuildNumber (ltb 256 (length (discovered (table_of t) 256))) (inr (omega arith, omega arith))
    (by_cond BuildNumber (ltb room (length (machine_image (table_of t)))) (inr (omega arith, omega arith)) (inl refl))))
  where
    pick : (b : Bool) → cond b (build_refusal (table_of t) room) (table_refusal t) ≡ (cond b (built_of (table_of t) room) (without (table_refusal t))).refusal
    pick true = refl
    pick false = refl

pub check-number : (t im : List ℕ) → CheckNumber (check_from t im)
unfolding check_from check_of
check-number t im =
    of-table CheckNumber (λ n h. inr (inl h)) t
    (by_cond CheckNumber (form_of (table_of t) im)
    (by_cond CheckNumber (same_state (machine_state (machine_in (table_of t) im) 0).pair (start (table_of t).cats))
    (by_cond CheckNumber (all_below (length (machine_in (table_of t) im)) (row_right (table_of t) (machine_in (table_of t) im))) (inl refl)
    (inr (inr (omega arith, omega arith))))
    (inr (inr (omega arith, omega arith))))
    (inr (inr (omega arith, omega arith))))

-- ring and lamp by two tables
module _ (ring lamp v : List ℕ) where
  abbrev number : ℕ
  number = pair_refusal ring lamp v

  abbrev both : Pair
  both = record { refusal = 0; ring = signal_in ring v; lamp = signal_in lamp v }

  number-due : PairNumber number
  number-due =
      by_zero PairNumber (refusal_of v)
      (of-table PairNumber of_one ring
      (of-table PairNumber of_one lamp (by_cond PairNumber (apart (category_names ring) (category_names lamp)) (inl refl) (inr (inr refl)))))
      (λ n. of-value n (value-number v))
    where
      of_one : (n : ℕ) → Among 4 12 n → PairNumber n
      of_one n h = inr (inl (omega (arith, h.0), h.1))

      of-value : (refusal_of v ≡ 0 → ⊥) → ValueNumber (refusal_of v) → PairNumber (refusal_of v)
      of-value n (inl z) = absurd (n z)
      of-value n (inr h) = inr (inl (h.0, omega (arith, h.1)))

  pub pair-number : PairNumber (pair_of ring lamp v).refusal
  unfolding pair_of
  pair-number = go (eqb number 0)
    where
      go : (b : Bool) → PairNumber (cond b both (no_pair number)).refusal
      go true = inl refl
      go false = number-due

  pub pair-refused : ((pair_of ring lamp v).refusal ≡ 0 → ⊥) → pair_of ring lamp v ≡ no_pair (pair_of ring lamp v).refusal
  unfolding pair_of
  pair-refused = go (eqb number 0)
    where
      go : (b : Bool) → ((cond b both (no_pair number)).refusal ≡ 0 → ⊥) → cond b both (no_pair number) ≡ no_pair (cond b both (no_pair number)).refusal
      go true n = absurd (n refl)
      go false n = refl
