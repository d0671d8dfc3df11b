-- Every number that demand 1 allows is given: the values' and the tables' as the crates beneath show, the others by example.
use Prim.Native.Nat.{ℕ, zero, suc, ◌/◌, ◌%◌, ◌^◌, ◌≤◌, ◌<◌}
use mathlib.Core.Path.{◌≡◌, refl, sym, ap, ◌∙◌}
use mathlib.Core.Logic.{◌⊎◌, inl, inr}
use mathlib.Core.Bool.{Bool, true, false, cond}
use mathlib.Core.List.{List, []}
use lib.Dec.{eqb, ltb, leb}
use lib.ListN.{length}
use borrow.Author.Tests.{leb-true, leb-false, eqb-true, eqb-false, eq-eqb, ne_eqb, lt-ltb}
use native.Mathlib.Omega.{arith}
use native.Mathlib.Nat.{zero-div}
use Rattle.base_bytes.specs.Built.{refused as without}
use Rattle.base_lists.proofs.Bools.{by_test}
use Rattle.value_reader.specs.Value.{refusal_of, uris_of, entry_refusal_of}
use Rattle.value_reader.specs.Examples.{entries_more}
use Rattle.value_reader.proofs.Agree.{refused-exactly}
use Rattle.value_reader.proofs.Examples.{each_number as each-value, each-entry-number as each-entry}
use Rattle.theory_resolution.specs.Build.{discovered}
use Rattle.theory_resolution.proofs.Theorems.{build-law}
use Rattle.base_ascii.specs.Ascii.{bytes}
use Rattle.machine_image.specs.Image.{machine_image}
use Rattle.machine_image.specs.Refusals.{build_refusal, form_of, check_of}
use Rattle.table_decode.specs.Tables.{table_of, table_refusal}
use Rattle.table_decode.specs.Examples.{least}
use Rattle.table_decode.proofs.Examples.{from_list, least-formed, each_number as each-table}
use Rattle.resolve_record.specs.Record.{fresh}
use Rattle.resolve_record.specs.declared.Carried.{Carried}
use Rattle.machine_build.specs.Built.{built_of}
use Rattle.machine_library.specs.Built.{built_from, check_from}
use Rattle.resolve_run.specs.declared.Resolution.{Resolution}
use Rattle.resolve_library.specs.Resolve.{unless_refused, refused, answered, direct_signal, walked_signal, plain_of, machine_of}
use Rattle.resolve_library.specs.Feed.{feed_of}
use Rattle.resolve_early.specs.Early.{early_of}
use Rattle.resolve_early.specs.declared.Early.{Early}
use Rattle.resolve_early.proofs.Claims.{early-claim}
use Rattle.resolve_available.specs.Claims.{Strange}
use Rattle.resolve_pair.specs.declared.Pair.{Pair}
use Rattle.resolve_pair.specs.Pair.{pair_refusal, signal_in, refused as no_pair, pair_of}
use Rattle.resolve_pair.proofs.PairLaws.{pair-claim}
use Rattle.resolve_available.specs.Available.{available_of}
use Rattle.small_image.specs.Small.{small_form}
use Rattle.resolve_small.specs.Resolve.{walked_small, resolved_small, resolved_over}
use Rattle.claims_demands.specs.Demands.{ValueNumber, EntryNumber, PlainNumber, MachineNumber, AvailableNumber, PairNumber, FeedNumber, BuildNumber}
use Rattle.claims_demands.specs.Demands.{CheckNumber}
use Rattle.claims_numbers.specs.Numbers.{EachNumber, image, smaller, wrong_images, many_states, other, after_values}
use Rattle.resolve_run.proofs.AnswerLaws.{value-refused, table-refused, none-refused}
use Rattle.claims_demands.proofs.AvailableLaws.{beside-plain}
use Rattle.claims_demands.proofs.EarlyLaws.{early-refused, early-signal}
use Rattle.claims_demands.proofs.OneValueLaws.{one_value}
use Rattle.claims_demands.proofs.FeedingLaws.{never-refused}
use Rattle.claims_numbers.proofs.NumberExamples.{many-formed, over-many, none-early, many-early, fits-room, no_room, right-image, wrong-images}
use Rattle.claims_numbers.proofs.NumberExamples.{right-form, no-form, right-small, no-small, two-signals, sixteen-fit, seventeen-unfit}
use Rattle.claims_numbers.proofs.NumberExamples.{other-formed, other-apart, least-shared}

-- an accepted value
value : (v : List ℕ) × (refusal_of v ≡ 0)
value = each-value 0 (omega arith)

-- a number up to 12 is a value's or a table's
whose : (n : ℕ) → 1 ≤ n → n ≤ 12 → (n ≤ 3) ⊎ ((4 ≤ n) × (n ≤ 12))
whose n h k = by_test (leb n 3) (λ e. inl (leb-true n 3 e)) (λ e. inr (omega (arith, leb-false n 3 e), k))

-- the numbers that come before a resolver's own answer
first-numbers : (r : (t v : List ℕ) → Resolution) (n : ℕ) → 1 ≤ n → n ≤ 12 → (t v : List ℕ) × ((unless_refused t v (r t v)).refusal ≡ n)
first-numbers r n h k = go (whose n h k)
  where
    go : (n ≤ 3) ⊎ ((4 ≤ n) × (n ≤ 12)) → (t v : List ℕ) × ((unless_refused t v (r t v)).refusal ≡ n)
    go (inl few) =
        let v = each-value n few in
        (least, v.0, sym (ap (λ (x : Resolution). x.refusal) (value-refused least v.0 (r least v.0) v.1 (omega arith))))
    go (inr due) =
        let t = each-table n (inr due) in
        let e = table-refused t.0 value.0 (r t.0 value.0) value.1 (λ z. omega (arith, t.1, z)) in
        (t.0, value.0, sym (ap (λ (x : Resolution). x.refusal) e) ∙ t.1)

-- its own answer, where neither value nor table is refused
own-number : (r : Resolution) → (unless_refused least value.0 r).refusal ≡ r.refusal
own-number r = sym (ap (λ (x : Resolution). x.refusal) (none-refused least value.0 r value.1 least-formed))

-- the least table and that value are accepted
plain-least : (plain_of least value.0).refusal ≡ 0
unfolding plain_of
plain-least = own-number (answered least (uris_of value.0) (direct_signal least (uris_of value.0)))

-- a refused value's number, and a refused table's
plain_value : (v : List ℕ) (n : ℕ) → refusal_of v ≡ n → 1 ≤ n → (plain_of least v).refusal ≡ n
unfolding plain_of
plain_value v n e h = sym (ap (λ (x : Resolution). x.refusal) (value-refused least v (answered least (uris_of v) (direct_signal least (uris_of v))) e h))

plain-table : (t : List ℕ) (n : ℕ) → table_refusal t ≡ n → (table_refusal t ≡ 0 → ⊥) → (plain_of t value.0).refusal ≡ n
unfolding plain_of
plain-table t n e z =
    sym (ap (λ (x : Resolution). x.refusal)
    (table-refused t value.0 (answered t (uris_of value.0) (direct_signal t (uris_of value.0))) value.1 z)) ∙ e

plain-each : (n : ℕ) → PlainNumber n → (t v : List ℕ) × ((plain_of t v).refusal ≡ n)
unfolding plain_of
plain-each n (inl e) = (least, value.0, plain-least ∙ sym e)
plain-each n (inr h) = first-numbers (λ t v. answered t (uris_of v) (direct_signal t (uris_of v))) n h.0 h.1

-- the early question: a long value or a refused table is never answered, so it has the plain resolver's number
early-as-plain : (t v : List ℕ) → ((length v ≤ 4096) × (table_refusal t ≡ 0) → ⊥) → (early_of t v).refusal ≡ (plain_of t v).refusal
early-as-plain t v n = ap (λ (x : Early). x.refusal) (early-refused t v (λ z. let w = (early-claim t v).there z in n (w.1.short, w.1.formed)))

early-each : (n : ℕ) → PlainNumber n → (t v : List ℕ) × ((early_of t v).refusal ≡ n)
early-each n (inl e) = (least, value.0, (early-signal least value.0 plain-least).0 ∙ sym e)
early-each n (inr h) = go (whose n h.0 h.1)
  where
    of-value : (n : ℕ) → 1 ≤ n → n ≤ 3 → (t v : List ℕ) × ((early_of t v).refusal ≡ n)
    of-value zero a b = absurd (omega arith)
    of-value (suc zero) a b =
        let v = each-value 1 (omega arith) in
        let long : 4096 < length v.0 = (refused-exactly v.0 1).0 v.1 in
        (least, v.0, early-as-plain least v.0 (λ w. omega (arith, long, w.0)) ∙ plain_value v.0 1 v.1 (omega arith))
    of-value (suc (suc zero)) a b = (least, [], none-early)
    of-value (suc (suc (suc zero))) a b = (least, entries_more 64, many-early)
    of-value (suc (suc (suc (suc k)))) a b = absurd (omega arith)

    go : (n ≤ 3) ⊎ ((4 ≤ n) × (n ≤ 12)) → (t v : List ℕ) × ((early_of t v).refusal ≡ n)
    go (inl few) = of-value n h.0 few
    go (inr due) =
        let t = each-table n (inr due) in
        let z : table_refusal t.0 ≡ 0 → ⊥ = λ q. omega (arith, t.1, q, due.0) in
        (t.0, value.0, early-as-plain t.0 value.0 (λ w. z w.1) ∙ plain-table t.0 n t.1 z)

-- the machine resolver's own answer
abbrev walked : List ℕ → List ℕ → List ℕ → Resolution
walked im t v = cond (form_of (table_of t) im) (answered t (uris_of v) (walked_signal t im (uris_of v))) (refused 15)

form-number : (im : List ℕ) (b : Bool) → form_of (table_of least) im ≡ b
    → (walked im least value.0).refusal ≡ (cond b (answered least (uris_of value.0) (walked_signal least im (uris_of value.0))) (refused 15)).refusal
form-number im b f = ap (λ (x : Bool). (cond x (answered least (uris_of value.0) (walked_signal least im (uris_of value.0))) (refused 15)).refusal) f

machine-each : (n : ℕ) → MachineNumber n → (t im v : List ℕ) × ((machine_of t im v).refusal ≡ n)
unfolding resolved_over
machine-each n (inl e) = (least, image 0 1, value.0, own-number (walked (image 0 1) least value.0) ∙ form-number (image 0 1) true right-form ∙ sym e)
machine-each n (inr (inl h)) = let r = first-numbers (walked []) n h.0 h.1 in (r.0, [], r.1, r.2)
machine-each n (inr (inr e)) = (least, [], value.0, own-number (walked [] least value.0) ∙ form-number [] false no-form ∙ sym e)

-- the resolver of small images
abbrev walked_by : List ℕ → List ℕ → List ℕ → Resolution
walked_by small t v = cond (small_form (table_of t) small) (answered t (uris_of v) (walked_small t small (uris_of v))) (refused 15)

small-number : (small : List ℕ) (b : Bool) → small_form (table_of least) small ≡ b
    → (walked_by small least value.0).refusal ≡ (cond b (answered least (uris_of value.0) (walked_small least small (uris_of value.0))) (refused 15)).refusal
small-number small b f = ap (λ (x : Bool). (cond x (answered least (uris_of value.0) (walked_small least small (uris_of value.0))) (refused 15)).refusal) f

small-each : (n : ℕ) → MachineNumber n → (t small v : List ℕ) × ((resolved_small t small v).refusal ≡ n)
unfolding resolved_over
small-each n (inl e) = (least, smaller, value.0, own-number (walked_by smaller least value.0) ∙ small-number smaller true right-small ∙ sym e)
small-each n (inr (inl h)) = let r = first-numbers (walked_by []) n h.0 h.1 in (r.0, [], r.1, r.2)
small-each n (inr (inr e)) = (least, [], value.0, own-number (walked_by [] least value.0) ∙ small-number [] false no-small ∙ sym e)

-- the empty set has no bit
no-bit : (t : List ℕ) → Strange t 0 → ⊥
no-bit t w =
    let e : 0 / 2 ^ w.0 % 2 ≡ 1 = eqb-true (0 / 2 ^ w.0 % 2) 1 w.2 in
    let z : 0 / 2 ^ w.0 ≡ 0 = zero-div (2 ^ w.0) in
    omega arith

available-each : (n : ℕ) → AvailableNumber n → (t : List ℕ) × (set : ℕ) × (v : List ℕ) × ((available_of t set v).refusal ≡ n)
available-each n (inl e) = (least, 0, value.0, ((beside-plain least value.0 0).counted plain-least (no-bit least)).0 ∙ sym e)
available-each n (inr (inl h)) =
    let p = plain-each n (inr h) in
    (p.0, 0, p.1, ap (λ (r : Resolution). r.refusal) ((beside-plain p.0 p.1 0).first (λ z. omega (arith, p.2, z, h.0))) ∙ p.2)
available-each n (inr (inr e)) =
    let w : Strange least 4 = (2, omega (arith, two-signals), refl) in
    (least, 4, value.0, ap (λ (r : Resolution). r.refusal) (((beside-plain least value.0 4).strange plain-least).1 w) ∙ sym e)

-- two tables with no category in common
pair-given : (pair_of other least value.0).refusal ≡ 0
unfolding pair_of
pair-given =
    let k : pair_refusal other least value.0 ≡ 0 = simp (
      eq-eqb (refusal_of value.0) 0 value.1,
      eq-eqb (table_refusal other) 0 other-formed,
      eq-eqb (table_refusal least) 0 least-formed,
      other-apart,
    ) in
    ap (λ n. (cond (eqb n 0) (record { refusal = 0; ring = signal_in other value.0; lamp = signal_in least value.0 }) (no_pair n)).refusal) k

-- ring and lamp by two tables, the lamp table being the least one
pair-each : (n : ℕ) → PairNumber n → (ring lamp v : List ℕ) × ((pair_of ring lamp v).refusal ≡ n)
pair-each n (inl e) = (other, least, value.0, pair-given ∙ sym e)
pair-each n (inr (inr e)) = (
  least,
  least,
  value.0,
  ap (λ (p : Pair). p.refusal) (((pair-claim least least value.0).shared value.1 least-formed
      least-formed).1 (bytes "c", least-shared, least-shared)) ∙ sym e,
)
pair-each n (inr (inl h)) = go (whose n h.0 h.1)
  where
    go : (n ≤ 3) ⊎ ((4 ≤ n) × (n ≤ 12)) → (ring lamp v : List ℕ) × ((pair_of ring lamp v).refusal ≡ n)
    go (inl few) =
        let v = each-value n few in
        (least, least, v.0, ap (λ (p : Pair). p.refusal) ((pair-claim least least v.0).of-value (λ z. omega (arith, v.1, z, h.0))) ∙ v.1)
    go (inr due) =
        let t = each-table n (inr due) in (
          t.0,
          least,
          value.0,
          ap (λ (p : Pair). p.refusal) ((pair-claim t.0 least value.0).of-ring value.1 (λ z. omega (
            arith,
            t.1,
            z,
            due.0,
          ))) ∙ t.1,
        )

feed-each : (n : ℕ) → FeedNumber n → (t : List ℕ) × (r : Carried) × (v : List ℕ) × ((feed_of t r v).answer.refusal ≡ n)
feed-each n h = go h
  where
    of-value : (v : List ℕ) → (feed_of least fresh v).answer.refusal ≡ refusal_of v
    of-value v = (one_value least fresh v).of-value least-formed (never-refused least least-formed).0 (λ z. omega arith)

    both : (n ≤ 3) ⊎ ((4 ≤ n) × (n ≤ 12)) → (t : List ℕ) × (r : Carried) × (v : List ℕ) × ((feed_of t r v).answer.refusal ≡ n)
    both (inl few) = let v = each-value n few in (least, fresh, v.0, of-value v.0 ∙ v.1)
    both (inr due) =
        let t = each-table n (inr due) in
        (t.0, fresh, [], (one_value t.0 fresh []).of-table (λ z. omega (arith, t.1, z)) ∙ t.1)

    go : FeedNumber n → (t : List ℕ) × (r : Carried) × (v : List ℕ) × ((feed_of t r v).answer.refusal ≡ n)
    go (inl e) = (least, fresh, value.0, of-value value.0 ∙ value.1 ∙ sym e)
    go (inr (inl d)) = both (whose n d.0 d.1)
    go (inr (inr (inl e))) = (least, after_values 16, [], (one_value least (after_values 16) []).seventeenth least-formed sixteen-fit refl ∙ sym e)
    go (inr (inr (inr e))) = (least, after_values 17, [], (one_value least (after_values 17) []).of-record least-formed seventeen-unfit ∙ sym e)

-- 13 is given to a table with many states
over : (built_from many_states 0).refusal ≡ 13
unfolding built_from build_refusal
over =
    ap (λ (b : Bool). (cond b (built_of (table_of many_states) 0) (without (table_refusal many_states))).refusal) (eq-eqb (table_refusal many_states) 0 many-formed)
    ∙ ap (λ (b : Bool). cond b 13 (cond (ltb 0 (length (machine_image (table_of many_states)))) 14 0))
    (lt-ltb 256 (length (discovered (table_of many_states) 256)) ((build-law (table_of many_states) 256).found-over over-many))

-- a refused table has its own number
table-built : (t : List ℕ) (room : ℕ) → (table_refusal t ≡ 0 → ⊥) → (built_from t room).refusal ≡ table_refusal t
unfolding built_from
table-built t room n = ap (λ (b : Bool). (cond b (built_of (table_of t) room) (without (table_refusal t))).refusal) (ne_eqb (table_refusal t) 0 n)

table-checked : (t im : List ℕ) → (table_refusal t ≡ 0 → ⊥) → check_from t im ≡ table_refusal t
unfolding check_from
table-checked t im n = ap (λ (b : Bool). cond b (check_of (table_of t) im) (table_refusal t)) (ne_eqb (table_refusal t) 0 n)

build-each : (n : ℕ) → BuildNumber n → (t : List ℕ) × (room : ℕ) × ((built_from t room).refusal ≡ n)
build-each n (inl e) = (least, 21, fits-room ∙ sym e)
build-each n (inr h) = by_test (leb n 12) (λ q. of-table (leb-true n 12 q)) (λ q. of-states (leb-false n 12 q))
  where
    of-table : n ≤ 12 → (t : List ℕ) × (room : ℕ) × ((built_from t room).refusal ≡ n)
    of-table k = let t = each-table n (inr (h.0, k)) in (t.0, 0, table-built t.0 0 (λ z. omega (arith, t.1, z, h.0)) ∙ t.1)

    of-states : 12 < n → (t : List ℕ) × (room : ℕ) × ((built_from t room).refusal ≡ n)
    of-states k =
        by_test (eqb n 13)
        (λ r. (many_states, 0, over ∙ sym (eqb-true n 13 r)))
        (λ r. let e : n ≡ 14 = omega (arith, h.1, k, eqb-false n 13 r) in (least, 20, no_room ∙ sym e))

check-each : (n : ℕ) → CheckNumber n → (t im : List ℕ) × (check_from t im ≡ n)
check-each n (inl e) = (least, image 0 1, right-image ∙ sym e)
check-each n (inr (inl h)) = let t = each-table n (inr h) in (t.0, [], table-checked t.0 [] (λ z. omega (arith, t.1, z, h.0)) ∙ t.1)
check-each n (inr (inr h)) =
    let im = from_list (check_from least) 15 3 wrong_images [] wrong-images n h.0 (omega (arith, h.1)) in (least, im.0, im.1)

pub each_number : EachNumber
each_number =
    record {
      by_value = value-each;
      by-entry = entry-each;
      by-table = each-table;
      by-plain = plain-each;
      by-early = early-each;
      by-machine = machine-each;
      by-small = small-each;
      by-available = available-each;
      by-pair = pair-each;
      by-feed = feed-each;
      by-build = build-each;
      by-check = check-each;
    }
  where
    value-each : (n : ℕ) → ValueNumber n → (v : List ℕ) × (refusal_of v ≡ n)
    value-each n (inl e) = each-value n (omega (arith, e))
    value-each n (inr h) = each-value n h.1

    entry-each : (n : ℕ) → EntryNumber n → (v : List ℕ) × (k : ℕ) × (entry_refusal_of v k ≡ n)
    entry-each n (inl e) = each-entry n (inl (omega (arith, e)))
    entry-each n (inr (inl h)) = each-entry n (inl h.1)
    entry-each n (inr (inr e)) = each-entry n (inr e)
