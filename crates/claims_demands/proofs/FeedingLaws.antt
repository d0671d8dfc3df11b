-- Feeding several values: the end, the records that it gives, and the values joined by commas.
use Prim.Native.Nat.{ℕ, zero, suc, ◌+◌, ◌-◌, ◌≤◌, ◌<◌, min}
use mathlib.Core.Path.{◌≡◌, refl, sym, ap, ap₂, ◌∙◌, subst}
use mathlib.Core.Bool.{Bool, true, false, cond}
use mathlib.Core.Option.{Option, none, some}
use mathlib.Core.List.{List, [], ◌∷◌, ◌++◌, foldl, foldl-append}
use lib.Dec.{eqb}
use lib.ListN.{length, take, length-append}
use lib.Seq.{take_all}
use borrow.Author.Tests.{eq-eqb, eqb-true, eqb-false}
use native.Mathlib.Omega.{arith}
use Rattle.base_lists.proofs.Bools.{by_test}
use Rattle.value_reader.specs.Value.{refusal_of, uris_of}
use Rattle.value_reader.proofs.ValueLaws.{refused-uris}
use Rattle.theory_resolution.specs.Table.{Urn}
use Rattle.theory_resolution.specs.Direct.{State, start, env_of, step, used_of, used_count, skipped_count, StateOf}
use Rattle.theory_resolution.proofs.Claim.{used-append}
use Rattle.theory_resolution.proofs.TableStep.{state-start}
use Rattle.resolve_record.specs.declared.Carried.{Carried}
use Rattle.resolve_record.specs.Record.{fresh, state_in, carried_as}
use Rattle.resolve_record.specs.Coded.{Fits}
use Rattle.resolve_record.proofs.FitLaws.{fits-to, fits-of}
use Rattle.resolve_record.proofs.StateLaws.{as_fits, as_wide, state-again, fresh-is}
use Rattle.table_decode.specs.Tables.{table_refusal, table_of}
use Rattle.table_decode.proofs.Accepting.{accepted}
use Rattle.resolve_library.specs.declared.Fed.{Fed}
use Rattle.resolve_library.specs.Resolve.{taken_as, plain_of}
use Rattle.resolve_library.specs.Feed.{unchanged, only_counted, state_after, goes_on, read_from, feed_of}
use Rattle.claims_demands.specs.Feeding.{fed_all, answers_to, all_uris, joined, AllAccepted, all_used, all_skipped, EndsDirect, NeverRefused, JoinedAlike}
use Rattle.resolve_run.proofs.AnswerLaws.{none-refused}
use Rattle.claims_demands.proofs.Join.{joined-read}
use Rattle.resolve_library.proofs.TableLaws.{taken-append}
use Rattle.resolve_library.proofs.ReadLaws.{state-run, state-carried, feed-full, feed-read}

-- the state after two lists of URIs
after-append : (t : List ℕ) (st : State) (a b : List (List ℕ)) → state_after t st (a ++ b) ≡ state_after t (state_after t st a) b
after-append t st a b =
    ap (λ l. foldl (step (env_of (table_of t))) st l) (ap used_of (taken-append t a b) ∙ used-append (taken_as t a) (taken_as t b))
    ∙ foldl-append (step (env_of (table_of t))) st (used_of (taken_as t a)) (used_of (taken_as t b))

skipped-append : (a b : List (Option Urn)) → skipped_count (a ++ b) ≡ skipped_count a + skipped_count b
skipped-append [] b = omega arith
skipped-append (none ∷ a) b = omega (arith, skipped-append a b)
skipped-append (some u ∷ a) b = skipped-append a b

module _ (t : List ℕ) (ok : table_refusal t ≡ 0) where
  -- a state of the table, carried
  abbrev carry : State → ℕ → Carried
  carry = carried_as (table_of t)

  few : (table_of t).cats ≤ 8
  few = (accepted t ok).few-categories

  module _ (st : State) (g : StateOf (table_of t) st) where
    fit-carried : (n : ℕ) → n ≤ 16 → Fits (table_of t) (carry st n)
    fit-carried = as_fits (table_of t) few st g

    -- one value more, read or refused with 1 to 3
    read-carried : (n : ℕ) (v : List ℕ) → (read_from t (carry st n) v).carried ≡ carry (state_after t st (uris_of v)) (n + 1)
    read-carried n v =
        by_test (eqb (refusal_of v) 0)
        (λ q. ap (λ (b : Bool). (cond b (goes_on t (carry st n) v) (only_counted (refusal_of v) (carry st n))).carried) q
        ∙ ap (λ (x : State). carry (state_after t x (uris_of v)) (n + 1)) (state-again (table_of t) few st g n))
        (λ q. ap (λ (b : Bool). (cond b (goes_on t (carry st n) v) (only_counted (refusal_of v) (carry st n))).carried) q
        ∙ ap (λ l. carry (state_after t st l) (n + 1)) (sym (refused-uris v (eqb-false (refusal_of v) 0 q))))

  -- a fitting record is read from, unless it has 16 values
  fed-read : (r : Carried) → Fits (table_of t) r → (v : List ℕ) → (r.values ≡ 16 → ⊥) → feed_of t r v ≡ read_from t r v
  fed-read r f v n = sym (feed-read t r v ok (fits-of (table_of t) r f) n)

  fed-full : (r : Carried) → Fits (table_of t) r → (v : List ℕ) → r.values ≡ 16 → feed_of t r v ≡ unchanged 19 r
  fed-full r f v e = sym (feed-full t r v ok (fits-of (table_of t) r f) e)

  -- from any state of the table
  fed-from : (vs : List (List ℕ)) (st : State) (n : ℕ) → StateOf (table_of t) st → n ≤ 16
      → fed_all t (carry st n) vs ≡ carry (state_after t st (all_uris (take (16 - n) vs))) (min 16 (n + length vs))
  fed-from [] st n g h = none_left (16 - n)
    where
      none_left : (k : ℕ) → carry st n ≡ carry (state_after t st (all_uris (take k []))) (min 16 (n + 0))
      none_left zero = let e : n ≡ min 16 (n + 0) = omega arith in ap (carry st) e
      none_left (suc k) = let e : n ≡ min 16 (n + 0) = omega arith in ap (carry st) e
  fed-from (v ∷ vs) st n g h =
      by_test (eqb n 16) (λ q. full (eqb-true n 16 q) (fed-from vs st n g h))
      (λ q. let m = eqb-false n 16 q in
      more m (fed-from vs (state_after t st (uris_of v)) (n + 1) (state-run t ok (used_of (taken_as t (uris_of v))) st g) (omega arith)))
    where
      full : n ≡ 16 → fed_all t (carry st n) vs ≡ carry (state_after t st (all_uris (take (16 - n) vs))) (min 16 (n + length vs))
          → fed_all t (feed_of t (carry st n) v).carried vs ≡ carry (state_after t st (all_uris (take (16 - n) (v ∷ vs)))) (min 16 (n + suc (length vs)))
      full e ih =
          let z : 16 - n ≡ 0 = omega arith in
          let c : min 16 (n + length vs) ≡ min 16 (n + suc (length vs)) = omega arith in
          ap (λ (x : Fed). fed_all t x.carried vs) (fed-full (carry st n) (fit-carried st g n h) v e) ∙ ih
          ∙ ap₂ (λ (k m : ℕ). carry (state_after t st (all_uris (take k vs))) m) z c
          ∙ ap (λ (k : ℕ). carry (state_after t st (all_uris (take k (v ∷ vs)))) (min 16 (n + suc (length vs)))) (sym z)

      more : (n ≡ 16 → ⊥)
          → fed_all t (carry (state_after t st (uris_of v)) (n + 1)) vs
          ≡ carry (state_after t (state_after t st (uris_of v)) (all_uris (take (16 - (n + 1)) vs))) (min 16 (n + 1 + length vs))
          → fed_all t (feed_of t (carry st n) v).carried vs ≡ carry (state_after t st (all_uris (take (16 - n) (v ∷ vs)))) (min 16 (n + suc (length vs)))
      more m ih =
          let z : suc (16 - (n + 1)) ≡ 16 - n = omega arith in
          let c : min 16 (n + 1 + length vs) ≡ min 16 (n + suc (length vs)) = omega arith in
          ap (λ (x : Fed). fed_all t x.carried vs) (fed-read (carry st n) (fit-carried st g n h) v m)
          ∙ ap (λ (x : Carried). fed_all t x vs) (read-carried st g n v) ∙ ih
          ∙ ap₂ carry (sym (after-append t st (uris_of v) (all_uris (take (16 - (n + 1)) vs)))) c
          ∙ ap (λ (k : ℕ). carry (state_after t st (all_uris (take k (v ∷ vs)))) (min 16 (n + suc (length vs)))) z

  -- a fresh record is the start, carried
  fresh-carried : fresh ≡ carry (start (table_of t).cats) 0
  fresh-carried = fresh-is (table_of t) few

  start-state : StateOf (table_of t) (start (table_of t).cats)
  start-state = state-start (table_of t) (accepted t ok).well

  fresh-fits : Fits (table_of t) fresh
  fresh-fits = subst (Fits (table_of t)) (sym fresh-carried) (fit-carried (start (table_of t).cats) start-state 0 (omega arith))

  -- feeding keeps a record's form
  pub record Good (r : Carried) : Type 0 where
    pub wide : length r.status ≡ 8
    pub fit : Fits (table_of t) r

  good-as : (st : State) → StateOf (table_of t) st → (n : ℕ) → n ≤ 16 → Good (carry st n)
  good-as st g n h = record { wide = as_wide (table_of t) few st n; fit = fit-carried st g n h }

  read-good : (r : Carried) → Good r → (v : List ℕ) → (r.values ≡ 16 → ⊥) → Good (read_from t r v).carried
  read-good r g v n = go (eqb (refusal_of v) 0)
    where
      k : r.values + 1 ≤ 16
      k = omega (arith, g.fit.values, n)

      go : (b : Bool) → Good (cond b (goes_on t r v) (only_counted (refusal_of v) r)).carried
      go true =
          good-as (state_after t (state_in (table_of t) r) (uris_of v))
          (state-run t ok (used_of (taken_as t (uris_of v))) (state_in (table_of t) r) (state-carried t ok r g.wide g.fit)) (r.values + 1) k
      go false = record { wide = g.wide; fit = record { signal = g.fit.signal; values = k; statuses = g.fit.statuses } }

  feed-good : (r : Carried) → Good r → (v : List ℕ) → Good (feed_of t r v).carried
  feed-good r g v =
      by_test (eqb r.values 16)
      (λ q. subst (λ (x : Fed). Good x.carried) (sym (fed-full r g.fit v (eqb-true r.values 16 q))) g)
      (λ q. let n = eqb-false r.values 16 q in
      subst (λ (x : Fed). Good x.carried) (sym (fed-read r g.fit v n)) (read-good r g v n))

  all-good : (vs : List (List ℕ)) (r : Carried) → Good r → Good (fed_all t r vs)
  all-good [] r g = g
  all-good (v ∷ vs) r g = all-good vs (feed_of t r v).carried (feed-good r g v)

  -- values that are all accepted
  abbrev listed : List (List ℕ) → List (Option Urn)
  listed vs = taken_as t (all_uris vs)

  one_answer : (st : State) → StateOf (table_of t) st → (n : ℕ) → n < 16 → (v : List ℕ) → refusal_of v ≡ 0
      → ((feed_of t (carry st n) v).answer.used ≡ used_count (taken_as t (uris_of v)))
      × ((feed_of t (carry st n) v).answer.skipped ≡ skipped_count (taken_as t (uris_of v)))
  one_answer st g n h v z =
      let e = fed-read (carry st n) (fit-carried st g n (omega arith)) v (λ q. omega arith)
      ∙ ap (λ (b : Bool). cond b (goes_on t (carry st n) v) (only_counted (refusal_of v) (carry st n))) (eq-eqb (refusal_of v) 0 z) in
      (ap (λ (x : Fed). x.answer.used) e, ap (λ (x : Fed). x.answer.skipped) e)

  sums : (vs : List (List ℕ)) (st : State) (n : ℕ) → StateOf (table_of t) st → n + length vs ≤ 16 → AllAccepted vs
      → (all_used (answers_to t (carry st n) vs) ≡ used_count (listed vs)) × (all_skipped (answers_to t (carry st n) vs) ≡ skipped_count (listed vs))
  sums [] st n g h a = (refl, refl)
  sums (v ∷ vs) st n g h (z, a) =
      let o = one_answer st g n (omega arith) v z in
      let c = ap (λ (x : Fed). x.carried) (fed-read (carry st n) (fit-carried st g n (omega arith)) v (λ q. omega arith)) ∙ read-carried st g n v in
      let s = sums vs (state_after t st (uris_of v)) (n + 1) (state-run t ok (used_of (taken_as t (uris_of v))) st g) (omega arith) a in
      let j = taken-append t (uris_of v) (all_uris vs) in (
        ap₂ ◌+◌ o.0 (ap (λ (x : Carried). all_used (answers_to t x vs)) c ∙ s.0)
            ∙ sym (ap used_count j ∙ ap length (used-append (taken_as t (uris_of v)) (listed vs))
            ∙ length-append (used_of (taken_as t (uris_of v))) (used_of (listed vs))),
        ap₂ ◌+◌ o.1 (ap (λ (x : Carried). all_skipped (answers_to t x vs)) c ∙ s.1)
            ∙ sym (ap skipped_count j ∙ skipped-append (taken_as t (uris_of v)) (listed vs)),
      )

pub ends-direct : (t : List ℕ) → EndsDirect t
ends-direct t ok vs =
    let c : min 16 (0 + length vs) ≡ min 16 (length vs) = omega arith in
    ap (λ (r : Carried). fed_all t r vs) (fresh-carried t ok) ∙ fed-from t ok vs (start (table_of t).cats) 0 (start-state t ok) (omega arith)
    ∙ ap (carried_as (table_of t) (state_after t (start (table_of t).cats) (all_uris (take 16 vs)))) c

pub never-refused : (t : List ℕ) → NeverRefused t
never-refused t ok = (
  fits-of (table_of t) fresh (fresh-fits t ok),
  λ r w e vs. fits-of (table_of t) (fed_all t r vs) (all-good t ok vs r (record { wide = w; fit = fits-to (table_of t) r e })).fit,
)

pub joined-alike : (t : List ℕ) → JoinedAlike t
unfolding plain_of
joined-alike t ok v vs (h, a, short, few) =
    let s = joined v vs in
    let j = joined-read v vs a short few in
    let u = j.1 in
    let n = sums t ok (v ∷ vs) (start (table_of t).cats) 0 (start-state t ok) (omega arith) a in
    let f = fresh-carried t ok in
    let l : take 16 (v ∷ vs) ≡ v ∷ vs = take_all 16 (v ∷ vs) h in
    let e : (state_after t (start (table_of t).cats) (uris_of s)).signal ≡ (fed_all t fresh (v ∷ vs)).signal =
    ap (λ x. (state_after t (start (table_of t).cats) x).signal) (u ∙ ap all_uris (sym l))
    ∙ sym (ap (λ (r : Carried). r.signal) (ends-direct t ok (v ∷ vs))) in
    let p = ap (λ x. used_count (taken_as t x)) u ∙ sym (ap (λ (r : Carried). all_used (answers_to t r (v ∷ vs))) f ∙ n.0) in
    let q = ap (λ x. skipped_count (taken_as t x)) u ∙ sym (ap (λ (r : Carried). all_skipped (answers_to t r (v ∷ vs))) f ∙ n.1) in
    sym (none-refused t s _ j.0 ok) ∙ λ i. record { refusal = 0; signal = e i; used = p i; skipped = q i }
