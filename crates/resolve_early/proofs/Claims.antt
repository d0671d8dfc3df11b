-- The claims about the early answer.
use Prim.Native.Nat.{ℕ, ◌≤◌, ◌<◌, min}
use mathlib.Core.Path.{◌≡◌, refl, sym, ap, ap₂, ◌∙◌, subst}
use mathlib.Core.Logic.{◌⊎◌, inl, inr}
use mathlib.Core.Bool.{Bool, true, false, cond, ◌&&◌, ◌||◌, true≢false, and-eq-true_iff, or-true}
use mathlib.Core.Option.{Option}
use mathlib.Core.List.{List, ◌++◌, map-append}
use lib.Dec.{eqb, leb}
use lib.ListN.{length, take, drop, length-map, length-take, take-append-drop}
use lib.Seq.{take_all, take_at, take-take, length-take-le}
use native.Mathlib.Omega.{arith}
use native.Mathlib.Decide.{dec_lt}
use borrow.Author.Tests.{eqb-true, eqb-false, leb-true, leb-false, le-leb}
use Rattle.base_numbers.specs.Numbers.{most_entries, most_value_bytes}
use Rattle.base_lists.proofs.Lists.{map-take}
use Rattle.value_reader.specs.Value.{refusal_of, uris_of, part_of}
use Rattle.value_reader.specs.Grammar.{White}
use Rattle.value_reader.proofs.Agree.{refused-exactly, accepted-list}
use Rattle.theory_resolution.specs.Table.{Urn, Table, WellFormed}
use Rattle.theory_resolution.specs.Direct.{direct, used_of}
use Rattle.theory_resolution.specs.Settled.{Settled, is_settled, needed, after_first}
use Rattle.theory_resolution.proofs.TableStep.{state-direct}
use Rattle.theory_resolution.proofs.Settled.{settled-to, settled-of, needed-within, needed-enough, needed-fewest, needed-early, needed-is, needed-ahead}
use Rattle.node_search.specs.Uses.{used_urn}
use Rattle.table_decode.specs.Tables.{table_refusal, table_of, category_names}
use Rattle.table_decode.proofs.Accepting.{accepted}
use Rattle.resolve_early.specs.FirstEntries.{front_from, uris_in, Begins}
use Rattle.resolve_early.specs.Early.{taken_as, number_of, refused, reached, enough, answer_for, read_of, early_of}
use Rattle.resolve_early.specs.Claims.{state_after, ReadEnough, settled, ended, Needed, EarlyClaim}
use Rattle.resolve_early.specs.declared.Early.{Early}
use Rattle.resolve_early.proofs.FrontLaws.{front-claims}
use Rattle.resolve_run.proofs.TakenLaws.{taken-used}
use Rattle.resolve_early.proofs.AnswerLaws.{early-refused, early-read}

module _ (t v : List ℕ) where
  abbrev T : Table
  T = table_of t

  -- the URIs of all entries read, and of those before a 65th
  abbrev uris : List (List ℕ)
  uris = uris_in v (front_from v 0)

  abbrev first : List (List ℕ)
  first = uris_in v (read_of v)

  abbrev l : List (Option Urn)
  l = taken_as t first

  first-is : first ≡ take most_entries uris
  first-is = map-take (part_of v) most_entries (front_from v 0).parts

  uris-parts : length uris ≡ length (front_from v 0).parts
  uris-parts = length-map (front_from v 0).parts (part_of v)

  taken-long : (us : List (List ℕ)) → length (taken_as t us) ≡ length us
  taken-long us = length-map us (used_urn (category_names t))

  first-long : length l ≡ min most_entries (length uris)
  first-long = taken-long first ∙ ap length first-is ∙ length-take most_entries uris

  -- the answer over the entries read
  abbrev answer : Early
  answer = answer_for T l (read_of v).ended (number_of t v)

  -- over the first k of a list
  taken-first : (us : List (List ℕ)) (k : ℕ) → after_first T (taken_as t us) k ≡ state_after t (take k us)
  taken-first us k = ap (λ z. direct T (used_of z)) (sym (map-take _ k us))

  -- all of a list are needed if after fewer the state is not settled
  all-needed : WellFormed T → (us : List (List ℕ)) → ((k : ℕ) → k < length us → Settled T (state_after t (take k us)) → ⊥) → needed T (taken_as t us) ≡ length us
  all-needed wf us few =
      let n : length (taken_as t us) ≡ length us = taken-long us in
      needed-is T wf (taken_as t us) (length us) (omega arith) (λ j h. by j h (is_settled T (after_first T (taken_as t us) j)) refl) (inr (sym n))
    where
      by : (j : ℕ) → j < length us → (b : Bool) → is_settled T (after_first T (taken_as t us) j) ≡ b → b ≡ false
      by j h false e = refl
      by j h true e =
          absurd (few j h (subst (Settled T) (taken-first us j)
          (settled-to T (after_first T (taken_as t us) j) (state-direct T wf (used_of (take j (taken_as t us)))) e)))

  given : (us : List (List ℕ)) → needed T l ≡ length us → reached T l ≡ state_after t us → enough T l (read_of v).ended ≡ true
      → answer ≡ record { refusal = 0; signal = (state_after t us).signal; entries = length us }
  given us n r e =
      ap (λ b. cond b (record { refusal = 0; signal = (reached T l).signal; entries = needed T l }) (refused (number_of t v))) e
      ∙ (λ i. record { refusal = 0; signal = (r i).signal; entries = n i })

  -- what is needed and read is answered
  answered : (us : List (List ℕ)) → Needed t v us → early_of t v ≡ record { refusal = 0; signal = (state_after t us).signal; entries = length us }
  answered us q = early-read t v q.short q.formed ∙ by q.read
    where
      wf : WellFormed T
      wf = (accepted t q.formed).well

      by : ReadEnough t v us → answer ≡ record { refusal = 0; signal = (state_after t us).signal; entries = length us }
      by (settled b r e k s) =
          let f : take (length us) first ≡ us = ap (take (length us)) first-is ∙ take-take (length us) most_entries uris q.few
          ∙ (front-claims v).begins b r us k e in
          let after = taken_as t (drop (length us) first) in
          let split : l ≡ taken_as t us ++ after =
          ap (taken_as t) (sym (take-append-drop (length us) first) ∙ ap (λ z. z ++ drop (length us) first) f) ∙ map-append _ us (drop (length us) first) in
          let n : needed T l ≡ length us = ap (needed T) split ∙ needed-ahead T (taken_as t us) after s ∙ all-needed wf us q.fewest in
          let r : reached T l ≡ state_after t us =
          ap₂ (λ x k. direct T (used_of (take k x))) split n ∙ ap (λ x. direct T (used_of x)) (take_at (taken_as t us) after (length us) (taken-long us)) in
          given us n r (ap (λ b. (read_of v).ended || b) (ap (is_settled T) r ∙ settled-of T (state_after t us) s) ∙ or-true (read_of v).ended)
      by (ended k) =
          let w = ((front-claims v).whole us).0 k in
          let short : length (front_from v 0).parts ≤ most_entries = omega (arith, q.few, uris-parts, ap length w.1) in
          let f : first ≡ us = first-is ∙ take_all most_entries uris (omega (arith, uris-parts)) ∙ w.1 in
          let n : needed T l ≡ length us = ap (λ z. needed T (taken_as t z)) f ∙ all-needed wf us q.fewest in
          let r : reached T l ≡ state_after t us =
          ap₂ (λ x k. direct T (used_of (take k (taken_as t x)))) f n
          ∙ ap (λ x. direct T (used_of x)) (take_all (length us) (taken_as t us) (omega (arith, taken-long us))) in
          given us n r (ap (λ b. b || is_settled T (reached T l)) (ap₂ ◌&&◌ w.0 (le-leb (length (front_from v 0).parts) most_entries short)))

  -- an accepted value is read up to its end
  accepted-ended : refusal_of v ≡ 0 → ((read_of v).ended ≡ true) × (first ≡ uris_of v)
  accepted-ended e =
      let g = (refused-exactly v 0).0 e in
      let w = ((front-claims v).whole g.1).0 g.2 in
      let x = ((front-claims v).whole (uris_of v)).0 (accepted-list v e) in
      let short : length (front_from v 0).parts ≤ most_entries = omega (arith, g.3, uris-parts, ap length w.1) in
      (ap₂ ◌&&◌ w.0 (le-leb (length (front_from v 0).parts) most_entries short), first-is ∙ take_all most_entries uris (omega (arith, uris-parts)) ∙ x.1)

  -- the number 0 is given only where neither the value nor the table is refused
  pub zero_number : number_of t v ≡ 0 → (refusal_of v ≡ 0) × (table_refusal t ≡ 0)
  zero_number = go (eqb (refusal_of v) 0) refl
    where
      go : (b : Bool) → eqb (refusal_of v) 0 ≡ b → cond b (table_refusal t) (refusal_of v) ≡ 0 → (refusal_of v ≡ 0) × (table_refusal t ≡ 0)
      go true e q = (eqb-true (refusal_of v) 0 e, q)
      go false e q = absurd (eqb-false (refusal_of v) 0 e q)

  accepted-short : refusal_of v ≡ 0 → length v ≤ most_value_bytes
  accepted-short e = ((refused-exactly v 0).0 e).0

  -- how the question comes out
  pub data Out : Type 0 where
    read : length v ≤ most_value_bytes → table_refusal t ≡ 0 → enough T l (read_of v).ended ≡ true → Out
    not-read : ((early_of t v).refusal ≡ 0 → ⊥) → early_of t v ≡ refused (number_of t v) → Out

  out : Out
  out = go (leb (length v) most_value_bytes) refl (eqb (table_refusal t) 0) refl
    where
      never : (number_of t v ≡ 0 → ⊥) → early_of t v ≡ refused (number_of t v) → Out
      never n e = not-read (λ z. n (sym (ap (λ (x : Early). x.refusal) e) ∙ z)) e

      inside : length v ≤ most_value_bytes → table_refusal t ≡ 0 → (b : Bool) → enough T l (read_of v).ended ≡ b → Out
      inside s f true e = read s f e
      inside s f false e =
          never (λ z. true≢false (sym (ap (λ b. b || is_settled T (reached T l)) (accepted-ended (zero_number z).0).0) ∙ e))
          (early-read t v s f ∙ ap (λ b. cond b (record { refusal = 0; signal = (reached T l).signal; entries = needed T l }) (refused (number_of t v))) e)

      go : (a : Bool) → leb (length v) most_value_bytes ≡ a → (b : Bool) → eqb (table_refusal t) 0 ≡ b → Out
      go true e true f = inside (leb-true (length v) most_value_bytes e) (eqb-true (table_refusal t) 0 f) (enough T l (read_of v).ended) refl
      go true e false f = never (λ z. eqb-false (table_refusal t) 0 f (zero_number z).1) (sym (early-refused t v false (ap₂ ◌&&◌ e f) refl))
      go false e b f =
          never (λ z. let h = leb-false (length v) most_value_bytes e in omega (arith, accepted-short (zero_number z).0))
          (sym (early-refused t v false (ap (λ a. a && eqb (table_refusal t) 0) e) refl))

  -- the entries that an answer needs are there
  there : length v ≤ most_value_bytes → table_refusal t ≡ 0 → enough T l (read_of v).ended ≡ true → (us : List (List ℕ)) × Needed t v us
  there s f e = (
    take k first,
    record {
      short = s;
      formed = f;
      few = omega (arith, us-long, first-long, within);
      fewest = fewest;
      read = how (dec_lt k (length l));
    },
  )
    where
      wf : WellFormed T
      wf = (accepted t f).well

      k : ℕ
      k = needed T l

      within : k ≤ length l
      within = needed-within T l

      us-long : length (take k first) ≡ k
      us-long = length-take-le k first (omega (arith, within, taken-long first))

      after_is : (j : ℕ) → j ≤ k → state_after t (take j (take k first)) ≡ after_first T l j
      after_is j h = ap (state_after t) (take-take j k first h) ∙ sym (taken-first first j)

      fewest : (j : ℕ) → j < length (take k first) → Settled T (state_after t (take j (take k first))) → ⊥
      fewest j h q = needed-fewest T l j (omega (arith, us-long)) (subst (Settled T) (after_is j (omega (arith, us-long))) q)

      -- with a comma after each
      front : Settled T (after_first T l k) → (k < length (front_from v 0).parts)
          ⊎ ((k ≡ length (front_from v 0).parts) × ((front_from v 0).ended ≡ false)) → ReadEnough t v (take k first)
      front q h =
          let w = (front-claims v).stands k h in
          let z : take k uris ≡ take k first = sym (ap (take k) first-is ∙ take-take k most_entries uris (omega (arith, within, first-long))) in
          settled w.0 w.1 w.3 (subst (Begins White w.0) z w.2)
          (subst (Settled T) (sym (ap (state_after t) (sym (take-take k k first (omega arith))) ∙ after_is k (omega arith))) q)

      last : (b : Bool) → (read_of v).ended ≡ b → k ≡ length l → b || is_settled T (reached T l) ≡ true → ReadEnough t v (take k first)
      last true i h q =
          let p = (and-eq-true_iff (front_from v 0).ended (leb (length (front_from v 0).parts) most_entries)).0 i in
          let few : length (front_from v 0).parts ≤ most_entries = leb-true (length (front_from v 0).parts) most_entries p.1 in
          let z : uris ≡ take k first = sym (take_all k first (omega (arith, h, taken-long first)) ∙ first-is
          ∙ take_all most_entries uris (omega (arith, uris-parts))) in
          ended (((front-claims v).whole (take k first)).1 (p.0, z))
      last false i h q = front (settled-to T (reached T l) (state-direct T wf (used_of (take k l))) q) (by (dec_lt most_entries (length (front_from v 0).parts)))
        where
          not-ended : (a : Bool) → (front_from v 0).ended ≡ a → leb (length (front_from v 0).parts) most_entries ≡ true → a ≡ false
          not-ended false x y = refl
          not-ended true x y = absurd (true≢false (sym (ap₂ ◌&&◌ x y) ∙ i))

          by : Dec (most_entries < length (front_from v 0).parts) → (k < length (front_from v 0).parts)
              ⊎ ((k ≡ length (front_from v 0).parts) × ((front_from v 0).ended ≡ false))
          by (yes g) = inl (omega (arith, h, first-long, uris-parts))
          by (no g) = inr (
            omega (arith, h, first-long, uris-parts),
            not-ended (front_from v 0).ended refl (le-leb (length (front_from v 0).parts) most_entries (omega arith)),
          )

      how : Dec (k < length l) → ReadEnough t v (take k first)
      how (yes h) = front (needed-enough T wf l h) (inl (omega (arith, first-long, uris-parts)))
      how (no h) = last (read_of v).ended refl (omega (arith, within)) e

  same-signal : refusal_of v ≡ 0 → table_refusal t ≡ 0 → ((early_of t v).refusal ≡ 0) × ((early_of t v).signal ≡ (state_after t (uris_of v)).signal)
  same-signal e f =
      let a = accepted-ended e in
      let r : early_of t v ≡ record { refusal = 0; signal = (reached T l).signal; entries = needed T l } =
      early-read t v (accepted-short e) f
      ∙ ap (λ b. cond (b || is_settled T (reached T l)) (record { refusal = 0; signal = (reached T l).signal; entries = needed T l })
      (refused (number_of t v))) a.0 in (
        ap (λ (x : Early). x.refusal) r,
        ap (λ (x : Early). x.signal) r
            ∙ needed-early T (accepted t f).well l (taken-used t first) ∙ ap (λ z. (state_after t z).signal) a.1,
      )

pub early-claim : EarlyClaim
early-claim t v =
    record {
      answered = answered t v;
      there = λ e. by_out (out t v) e;
      otherwise = λ n. no-out (out t v) n;
      same-signal = same-signal t v;
      behind = λ us b r after e k s q h.
          answered t (b ++ after) us (record {
            short = h;
            formed = q.formed;
            few = q.few;
            fewest = q.fewest;
            read = settled b after refl k s;
          }) ∙ sym (answered t v us q);
    }
  where
    by_out : Out t v → (early_of t v).refusal ≡ 0 → (us : List (List ℕ)) × Needed t v us
    by_out (read s f e) z = there t v s f e
    by_out (not-read n e) z = absurd (n z)

    no-out : Out t v → ((early_of t v).refusal ≡ 0 → ⊥) → early_of t v ≡ refused (number_of t v)
    no-out (read s f e) n =
        absurd (n (ap (λ (x : Early). x.refusal) (early-read t v s f
        ∙ ap (λ b. cond b (record { refusal = 0; signal = (reached (table_of t) (l t v)).signal; entries = needed (table_of t) (l t v) })
        (refused (number_of t v))) e)))
    no-out (not-read n e) z = e
