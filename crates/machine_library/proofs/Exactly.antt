-- The builder gives 13 and 14 exactly where they are due.
use Prim.Native.Nat.{ℕ, ◌≤◌, ◌<◌}
use mathlib.Core.Path.{◌≡◌, refl, ap, ◌∙◌}
use mathlib.Core.Logic.{◌⊎◌, inl, inr}
use mathlib.Core.Bool.{Bool, true, false, cond}
use mathlib.Core.List.{List}
use lib.Dec.{eqb}
use lib.ListN.{length}
use borrow.Author.Tests.{eq-eqb, ne_eqb, eqb-true, eqb-false}
use native.Mathlib.Decide.{dec_lt}
use native.Mathlib.Omega.{arith}
use Rattle.base_numbers.specs.Numbers.{most_states}
use Rattle.base_bytes.specs.Built.{refused}
use Rattle.theory_resolution.specs.Table.{Table}
use Rattle.theory_resolution.specs.Build.{discovered, ReachableOver}
use Rattle.theory_resolution.proofs.Theorems.{build-law}
use Rattle.machine_image.specs.Image.{machine_image}
use Rattle.machine_image.specs.Refusals.{build_refusal}
use Rattle.machine_image.proofs.Build.{build-over, build-short, build-fits}
use Rattle.table_decode.specs.Tables.{table_of, table_refusal}
use Rattle.table_decode.proofs.RefusalNumbers.{refusal-numbers}
use Rattle.machine_build.specs.Built.{built_of}
use Rattle.machine_library.specs.Built.{built_from}
use Rattle.machine_library.specs.Claims.{TooManyStates, ExactlyClaim}

-- how the build of a table's machine comes out
data Out (T : Table) (room : ℕ) : Type 0 where
  over : ReachableOver T most_states → build_refusal T room ≡ 13 → Out T room
  short : (ReachableOver T most_states → ⊥) → room < length (machine_image T) → build_refusal T room ≡ 14 → Out T room
  fits : (ReachableOver T most_states → ⊥) → length (machine_image T) ≤ room → build_refusal T room ≡ 0 → Out T room

out : (T : Table) (room : ℕ) → Out T room
out T room = go (dec_lt most_states (length (discovered T most_states))) (dec_lt room (length (machine_image T)))
  where
    not-over : (256 < length (discovered T most_states) → ⊥) → ReachableOver T most_states → ⊥
    not-over n h = n ((build-law T most_states).found-over h)

    up_to : (a b : ℕ) → (a < b → ⊥) → b ≤ a
    up_to a b n = omega arith

    go : Dec (256 < length (discovered T most_states)) → Dec (room < length (machine_image T)) → Out T room
    go (yes h) d = over ((build-law T most_states).over h) (build-over T room h).0
    go (no n) (yes h) = short (not-over n) h (build-short T room (up_to most_states (length (discovered T most_states)) n) h).0
    go (no n) (no k) =
        let h = up_to room (length (machine_image T)) k in fits (not-over n) h (build-fits T room (up_to most_states (length (discovered T most_states)) n) h).0

module _ (t : List ℕ) (room : ℕ) where
  of-build : table_refusal t ≡ 0 → (built_from t room).refusal ≡ build_refusal (table_of t) room
  unfolding built_from
  of-build e = ap (λ b. (cond b (built_of (table_of t) room) (refused (table_refusal t))).refusal) (eq-eqb (table_refusal t) 0 e)

  of-table : (table_refusal t ≡ 0 → ⊥) → (built_from t room).refusal ≡ table_refusal t
  unfolding built_from
  of-table n = ap (λ b. (cond b (built_of (table_of t) room) (refused (table_refusal t))).refusal) (ne_eqb (table_refusal t) 0 n)

  -- a number over 12 is no table's
  well : (n : ℕ) → 12 < n → (built_from t room).refusal ≡ n → table_refusal t ≡ 0
  well n h e = go (eqb (table_refusal t) 0) refl (refusal-numbers t)
    where
      go : (b : Bool) → eqb (table_refusal t) 0 ≡ b → (table_refusal t ≡ 0) ⊎ ((4 ≤ table_refusal t) × (table_refusal t ≤ 12)) → table_refusal t ≡ 0
      go true q d = eqb-true (table_refusal t) 0 q
      go false q (inl z) = z
      go false q (inr d) = absurd (omega (arith, h, e, of-table (eqb-false (table_refusal t) 0 q), d.1))

  thirteen-to : (built_from t room).refusal ≡ 13 → (table_refusal t ≡ 0) × TooManyStates t
  thirteen-to e = (ok, go (out (table_of t) room))
    where
      ok : table_refusal t ≡ 0
      ok = well 13 (omega arith) e

      go : Out (table_of t) room → TooManyStates t
      go (over h q) = h
      go (short n l q) = absurd (omega (arith, e, of-build ok, q))
      go (fits n l q) = absurd (omega (arith, e, of-build ok, q))

  thirteen-of : table_refusal t ≡ 0 → TooManyStates t → Out (table_of t) room → (built_from t room).refusal ≡ 13
  thirteen-of ok h (over k q) = of-build ok ∙ q
  thirteen-of ok h (short n l q) = absurd (n h)
  thirteen-of ok h (fits n l q) = absurd (n h)

  fourteen-to : (built_from t room).refusal ≡ 14 → (table_refusal t ≡ 0) × (TooManyStates t → ⊥) × (room < length (machine_image (table_of t)))
  fourteen-to e = go (out (table_of t) room)
    where
      ok : table_refusal t ≡ 0
      ok = well 14 (omega arith) e

      go : Out (table_of t) room → (table_refusal t ≡ 0) × (TooManyStates t → ⊥) × (room < length (machine_image (table_of t)))
      go (over h q) = absurd (omega (arith, e, of-build ok, q))
      go (short n l q) = (ok, n, l)
      go (fits n l q) = absurd (omega (arith, e, of-build ok, q))

  fourteen-of : table_refusal t ≡ 0 → (TooManyStates t → ⊥) → room < length (machine_image (table_of t)) → Out (table_of t) room → (built_from t room).refusal ≡ 14
  fourteen-of ok n l (over h q) = absurd (n h)
  fourteen-of ok n l (short m k q) = of-build ok ∙ q
  fourteen-of ok n l (fits m k q) = absurd (omega (arith, l, k))

pub build-exactly : ExactlyClaim
build-exactly t room =
    record {
      thirteen = (thirteen-to t room, λ h. thirteen-of t room h.0 h.1 (out (table_of t) room));
      fourteen = (fourteen-to t room, λ h. fourteen-of t room h.0 h.1 h.2 (out (table_of t) room));
    }
