-- The demands hold.
use Prim.Native.Nat.{ℕ, ◌-◌, ◌≤◌, ◌<◌}
use mathlib.Core.Path.{◌≡◌, refl, sym, ap, ap₂, ◌∙◌, subst}
use mathlib.Core.Logic.{◌↔◌}
use mathlib.Core.Bool.{Bool, true, false, cond}
use mathlib.Core.List.{List, [], ◌++◌}
use lib.Dec.{eqb}
use lib.ListN.{length, take, replicate}
use lib.Seq.{take_at}
use borrow.Author.Tests.{eq-eqb, eqb-false}
use native.Mathlib.Decide.{dec_lt}
use native.Mathlib.Omega.{arith}
use Rattle.base_bytes.specs.Built.{refused as without}
use Rattle.theory_resolution.proofs.Direct.{changes-map}
use Rattle.value_reader.specs.Value.{refusal_of, uris_of}
use Rattle.value_reader.proofs.Agree.{refused-exactly}
use Rattle.theory_resolution.specs.Table.{Table}
use Rattle.theory_resolution.specs.Direct.{AllUsed, step_uri}
use Rattle.node_search.specs.Uses.{used_urn}
use Rattle.machine_image.specs.Image.{signal_in, machine_image}
use Rattle.machine_image.specs.Walk.{step_in}
use Rattle.machine_image.specs.Claim.{ImageClaim}
use Rattle.machine_image.proofs.Check.{check-to}
use Rattle.machine_image.proofs.Walk.{image-claim}
use Rattle.table_decode.specs.Tables.{table_refusal, table_of, category_names}
use Rattle.table_decode.proofs.Accepting.{accepted}
use Rattle.table_decode.proofs.Exactly.{refused-exactly as table-exactly}
use Rattle.machine_build.specs.Built.{built_of}
use Rattle.machine_library.specs.Built.{built_from, buffer_from, check_from}
use Rattle.base_bytes.specs.declared.Built.{Built}
use Rattle.machine_library.specs.Claims.{TooManyStates}
use Rattle.machine_library.proofs.Claims.{every-build, refused-build, checked}
use Rattle.machine_library.proofs.Exactly.{build-exactly}
use Rattle.machine_library.proofs.FormRight.{form-to-right}
use Rattle.resolve_run.specs.declared.Resolution.{Resolution}
use Rattle.resolve_library.specs.Resolve.{taken_as, direct_signal, walked_signal, refused, answered, unless_refused, plain_of, machine_of}
use Rattle.claims_demands.specs.Demands.{WalkClaim, DemandOne, DemandTwo, DemandThree}
use Rattle.resolve_run.proofs.TakenLaws.{taken-used}
use Rattle.resolve_early.proofs.Claims.{early-claim}
use Rattle.resolve_library.proofs.TableLaws.{taken-append}
use Rattle.claims_demands.proofs.EarlyLaws.{plain-answer, all-counted, early-number, early-refused, early-signal}
use Rattle.claims_demands.proofs.MachineLaws.{machine-walks, machine-fifteen}
use Rattle.small_image.specs.Small.{small_form}
use Rattle.resolve_small.specs.Resolve.{walked_small, resolved_small, resolved_over}
use Rattle.resolve_small.proofs.Claims.{answers-claim}
use Rattle.claims_demands.specs.BesideMachine.{GoesWith}
use Rattle.claims_demands.proofs.FirstNumber.{first-number}
use Rattle.claims_demands.proofs.SmallLaws.{one_of_two, small-machine, small-walks, small-proposed}
use Rattle.resolve_pair.proofs.PairLaws.{pair-claim}
use Rattle.resolve_pair.proofs.Together.{together-claim}
use Rattle.claims_demands.proofs.AvailableLaws.{beside-plain, available-number, available-refused, available-signal}
use Rattle.claims_demands.proofs.RefusalLaws.{value-number, entry-number, plain-number, machine-number, small-number, build-number}
use Rattle.claims_demands.proofs.RefusalLaws.{check-number, pair-number, pair-refused}
use Rattle.claims_demands.proofs.OneValueLaws.{feed-number, one_value}
use Rattle.claims_demands.proofs.FeedingLaws.{ends-direct, never-refused, joined-alike}
use Rattle.value_reader.proofs.EntryLaws.{refused-entry}
use Rattle.table_decode.proofs.RefusalNumbers.{refusal-numbers}
use Rattle.machine_image.specs.Refusals as image

-- an answer that is refused is refused as a whole, where the answer within is
by_number : (t v : List ℕ) (r : Resolution) → ((r.refusal ≡ 0 → ⊥) → r ≡ refused r.refusal)
    → ((unless_refused t v r).refusal ≡ 0 → ⊥) → unless_refused t v r ≡ refused (unless_refused t v r).refusal
by_number t v r h = go (eqb (refusal_of v) 0) (eqb (table_refusal t) 0)
  where
    go : (a b : Bool) → ((cond a (cond b r (refused (table_refusal t))) (refused (refusal_of v))).refusal ≡ 0 → ⊥)
        → cond a (cond b r (refused (table_refusal t))) (refused (refusal_of v))
        ≡ refused (cond a (cond b r (refused (table_refusal t))) (refused (refusal_of v))).refusal
    go true true n = h n
    go true false n = refl
    go false b n = refl

pub plain-refused : (t v : List ℕ) → ((plain_of t v).refusal ≡ 0 → ⊥) → plain_of t v ≡ refused (plain_of t v).refusal
unfolding plain_of
plain-refused t v = by_number t v _ (λ n. absurd (n refl))

machine-refused : (t im v : List ℕ) → ((machine_of t im v).refusal ≡ 0 → ⊥) → machine_of t im v ≡ refused (machine_of t im v).refusal
unfolding resolved_over
machine-refused t im v = by_number t v _ (go (image.form_of (table_of t) im))
  where
    given : Resolution
    given = answered t (uris_of v) (walked_signal t im (uris_of v))

    go : (b : Bool) → ((cond b given (refused 15)).refusal ≡ 0 → ⊥) → cond b given (refused 15) ≡ refused (cond b given (refused 15)).refusal
    go true n = absurd (n refl)
    go false n = refl

small-refused : (t small v : List ℕ) → ((resolved_small t small v).refusal ≡ 0 → ⊥) → resolved_small t small v ≡ refused (resolved_small t small v).refusal
unfolding resolved_over
small-refused t small v = by_number t v _ (go (small_form (table_of t) small))
  where
    given : Resolution
    given = answered t (uris_of v) (walked_small t small (uris_of v))

    go : (b : Bool) → ((cond b given (refused 15)).refusal ≡ 0 → ⊥) → cond b given (refused 15) ≡ refused (cond b given (refused 15)).refusal
    go true n = absurd (n refl)
    go false n = refl

build-refused : (t : List ℕ) (room : ℕ) → ((built_from t room).refusal ≡ 0 → ⊥) → ((built_from t room).len ≡ 0) × (buffer_from t room ≡ replicate room 0)
build-refused t room n = let r = refused-build t room n in (r.no_length, r.cleared)

pub demand-one : DemandOne
demand-one t =
    record {
      value-number = value-number;
      entry-number = entry-number;
      table-number = refusal-numbers t;
      plain-number = plain-number t;
      machine-number = machine-number t;
      small-number = small-number t;
      pair-number = pair-number t;
      available-number = λ set v. available-number t v set;
      feed-number = feed-number t;
      early-number = early-number t;
      build-number = build-number t;
      check-number = check-number t;
      entry-refused = refused-entry;
      plain-refused = plain-refused t;
      machine-refused = machine-refused t;
      small-refused = small-refused t;
      available-refused = λ set v. available-refused t v set;
      pair-refused = pair-refused t;
      early-refused = early-refused t;
      one_value = one_value t;
      never-refused = never-refused t;
      build-refused = build-refused t;
    }

image-written : (t : List ℕ) (room : ℕ) → (built_from t room).refusal ≡ 0
    → ((built_from t room).len ≡ length (machine_image (table_of t)))
    × (buffer_from t room ≡ machine_image (table_of t) ++ replicate (room - length (machine_image (table_of t))) 0)
unfolding built_from buffer_from image.build_length image.buffer_of
image-written t room = go (eqb (table_refusal t) 0) refl
  where
    T : Table
    T = table_of t

    go : (b : Bool) → eqb (table_refusal t) 0 ≡ b → (cond b (built_of T room) (without (table_refusal t))).refusal ≡ 0
        → ((cond b (built_of T room) (without (table_refusal t))).len ≡ length (machine_image T))
        × (cond b (image.buffer_of T room) (replicate room 0) ≡ machine_image T ++ replicate (room - length (machine_image T)) 0)
    go true q z = simp (eq-eqb (image.build_refusal T room) 0 z) (refl, refl)
    go false q z = absurd (eqb-false (table_refusal t) 0 q z)

pub demand-two : DemandTwo
demand-two t =
    record {
      values = refused-exactly;
      tables = table-exactly;
      first-number = first-number t;
      plain-answer = plain-answer t;
      all-counted = all-counted t;
      machine-walks = machine-walks t;
      machine-fifteen = machine-fifteen t;
      small = answers-claim t;
      small-or-large = one_of_two t;
      small-machine = small-machine t;
      small-proposed = small-proposed t;
      early-signal = early-signal t;
      early = early-claim t;
      available-signal = λ set v. available-signal t v set;
      available = λ set v. beside-plain t v set;
      pair = pair-claim t;
      together = together-claim t;
      ends-direct = ends-direct t;
      joined-alike = joined-alike t;
      build-exactly = build-exactly t;
      image-written = image-written t;
      checked = checked t;
    }

module _ (t : List ℕ) (ok : table_refusal t ≡ 0) where
  check-image : (im : List ℕ) → check_from t im ≡ image.check_of (table_of t) im
  unfolding check_from
  check-image im = simp (eq-eqb (table_refusal t) 0 ok)

  pub walk-claim : (im : List ℕ) → check_from t im ≡ 0 → (before after : List (List ℕ)) → WalkClaim (table_of t).cats t im before after
  walk-claim im e before after =
      record {
        agrees = c.agrees;
        only-given = c.only-given;
        still-says = λ k p s. rw (taken-append t before after) (c.still-says k p s);
        few-changes = rw (
          ← changes-map (signal_in (table_of t).cats im) (step_uri (step_in (table_of t) im)) (used_urn (category_names t)) 0 (before ++ after),
          taken-append t before after,
        )
            c.few-changes;
      }
    where
      used : AllUsed (table_of t) (taken_as t before ++ taken_as t after)
      used = subst (AllUsed (table_of t)) (taken-append t before after) (taken-used t (before ++ after))

      c : ImageClaim (table_of t) im (taken_as t before) (taken_as t after)
      c = image-claim (table_of t) (accepted t ok).well im (sym (check-image im) ∙ e) (taken_as t before) (taken_as t after) used

  -- the walk's signal over any list is direct resolution's
  same-signal : (im : List ℕ) → check_from t im ≡ 0 → (l : List (List ℕ)) → walked_signal t im l ≡ direct_signal t l
  same-signal im e l = (walk-claim im e l []).agrees

  form-right : (im : List ℕ) → check_from t im ≡ 0 → image.form_of (table_of t) im ≡ true
  form-right im e = (check-to (table_of t) im (sym (check-image im) ∙ e)).0

  alike : (im : List ℕ) → check_from t im ≡ 0 → (v : List ℕ) → machine_of t im v ≡ plain_of t v
  unfolding plain_of resolved_over
  alike im e v =
      ap (λ b. unless_refused t v (cond b (answered t (uris_of v) (walked_signal t im (uris_of v))) (refused 15))) (form-right im e)
      ∙ ap (λ s. unless_refused t v (answered t (uris_of v) s)) (same-signal im e (uris_of v))

  answers : (im : List ℕ) → check_from t im ≡ 0 → (v : List ℕ) → refusal_of v ≡ 0 → plain_of t v ≡ answered t (uris_of v) (walked_signal t im (uris_of v))
  unfolding plain_of
  answers im e v z = simp (eq-eqb (refusal_of v) 0 z, eq-eqb (table_refusal t) 0 ok) (ap (answered t (uris_of v)) (sym (same-signal im e (uris_of v))))

  -- a table with at most 256 reachable states, and what its build leaves in the buffer
  module _ (few : TooManyStates t → ⊥) (room : ℕ) where
    has_room : Dec (room < length (machine_image (table_of t))) → (built_from t room).refusal ≡ 0 → length (machine_image (table_of t)) ≤ room
    has_room (yes h) e = absurd (omega (arith, e, (build-exactly t room).fourteen.1 (ok, few, h)))
    has_room (no n) e = omega arith

    builds : ((built_from t room).refusal ≡ 0) ↔ (length (machine_image (table_of t)) ≤ room)
    builds = (has_room (dec_lt room (length (machine_image (table_of t)))), λ h. ap (λ (x : Built). x.refusal) ((every-build t ok few).built room h))

    left-checked : (built_from t room).refusal ≡ 0 → check_from t (take (built_from t room).len (buffer_from t room)) ≡ 0
    left-checked e =
        let w = image-written t room e in
        ap₂ (λ n l. check_from t (take n l)) w.0 w.1
        ∙ ap (check_from t) (take_at (machine_image (table_of t)) (replicate (room - length (machine_image (table_of t))) 0)
        (length (machine_image (table_of t))) refl)
        ∙ (every-build t ok few).checked

  pub small-alike : (im small : List ℕ) → check_from t im ≡ 0 → GoesWith t im small → (v : List ℕ) → resolved_small t small v ≡ plain_of t v
  small-alike im small e g v = small-machine t im small v (form-to-right (table_of t) im (form-right im e)) g ∙ alike im e v

pub demand-three : DemandThree
demand-three t ok few =
    record {
      builds = builds t ok few;
      checked = left-checked t ok few;
      walks = walk-claim t ok;
      alike = alike t ok;
      small-walks = λ im small e g before after. small-walks t im small g before after (walk-claim t ok im e);
      small-alike = small-alike t ok;
      answers = answers t ok;
    }
