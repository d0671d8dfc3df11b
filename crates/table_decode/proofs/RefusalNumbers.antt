-- A table is refused with one of 4 to 12, or with none.
use Prim.Native.Nat.{ℕ, ◌≤◌}
use mathlib.Core.Path.{◌≡◌, refl}
use mathlib.Core.Logic.{inl, inr}
use mathlib.Core.Bool.{Bool, true, false, cond}
use native.Mathlib.Omega.{arith}
use Rattle.table_sections.specs.Stored.{Read, fault, got, Stored, sections}
use Rattle.table_sections.proofs.FaultLaws.{fault-sections}
use Rattle.table_decode.specs.Tables.{formed, listed, table_in, single, zero_silent, distinct, few_nodes, verdict, judged, judged_read}
use Rattle.table_decode.specs.Tables.{table_refusal, RefusalNumber, RefusalNumbers}

unless : (b : Bool) (x y : ℕ) → RefusalNumber x → RefusalNumber y → RefusalNumber (cond b x y)
unless true x y p q = p
unless false x y p q = q

judged-number : (s : Stored) → RefusalNumber (judged s)
unfolding judged verdict
judged-number s =
    unless (formed s) _ 7
    (unless (listed s) _ 8
    (unless (single (table_in s)) _ 9
    (unless (zero_silent (table_in s)) _ 10
    (unless (distinct (table_in s)) _ 11
    (unless (few_nodes (table_in s)) 0 12 (inl refl) (inr (omega arith, omega arith)))
    (inr (omega arith, omega arith)))
    (inr (omega arith, omega arith)))
    (inr (omega arith, omega arith)))
    (inr (omega arith, omega arith)))
    (inr (omega arith, omega arith))

pub refusal-numbers : RefusalNumbers
unfolding table_refusal judged_read
refusal-numbers t = of (sections t) (fault-sections t)
  where
    of : (r : Read Stored) → ((k : ℕ) → r ≡ fault k → (4 ≤ k) × (k ≤ 6)) → RefusalNumber (judged_read r)
    of (fault k) f = inr (omega (arith, (f k refl).0), omega (arith, (f k refl).1))
    of (got s at) f = judged-number s
