-- The claims, proved.
use Prim.Native.Nat.{ℕ, zero, suc, ◌≤◌, ◌<◌}
use mathlib.Core.Path.{◌≡◌, refl, sym, ap, ◌∙◌, subst}
use mathlib.Core.Bool.{Bool, true, false, cond}
use mathlib.Core.List.{List, ◌++◌, map-append}
use lib.ListN.{length}
use lib.Dec.{eqb}
use borrow.Author.Tests.{eq-eqb, ne_eqb}
use native.Mathlib.Omega.{arith}
use Rattle.theory_resolution.proofs.Direct.{changes-map}
use Rattle.base_lists.proofs.Bools.{by_test}
use Rattle.value_reader.specs.Value.{uris_of}
use Rattle.theory_resolution.specs.Table.{Urn, most_parts}
use Rattle.theory_resolution.specs.Says.{Says}
use Rattle.theory_resolution.specs.Direct.{State, start, step, step_uri, used_of}
use Rattle.theory_resolution.specs.Available.{counts, env_available, direct_available, AvailableLaw}
use Rattle.theory_resolution.proofs.Claim.{used-append, changes-used}
use Rattle.theory_resolution.proofs.Available.{available-all, available-law}
use Rattle.node_search.specs.Uses.{used_urn}
use Rattle.table_decode.specs.Tables.{table_refusal, table_of, category_names}
use Rattle.table_decode.proofs.Accepting.{accepted}
use Rattle.resolve_run.specs.Answers.{taken_as, number_of, refused, answered}
use Rattle.resolve_run.specs.declared.Resolution.{Resolution}
use Rattle.resolve_run.proofs.AnswerLaws.{unless-number}
use Rattle.resolve_available.specs.Available.{has_bit, known, available_signal, available_of}
use Rattle.resolve_available.specs.Claims.{Strange, Everyone, Answers, Over, AnswerClaim, OverClaim}
use Rattle.resolve_available.proofs.BitLaws.{strange-bit, bit-strange}

module _ (t : List ℕ) (set : ℕ) (v : List ℕ) where
  abbrev signals : ℕ
  signals = length (table_of t).signals

  abbrev list : Resolution
  list = answered t (uris_of v) (available_signal t set (uris_of v))

  -- the answer, by its tests
  by_number : available_of t set v ≡ cond (eqb (number_of t v) 0) (cond (known set signals) list (refused 23)) (refused (number_of t v))
  unfolding available_of
  by_number = unless-number t v (cond (known set signals) list (refused 23))

  number-first : (number_of t v ≡ 0 → ⊥) → available_of t set v ≡ refused (number_of t v)
  number-first n = by_number ∙ ap (λ b. cond b (cond (known set signals) list (refused 23)) (refused (number_of t v))) (ne_eqb (number_of t v) 0 n)

  judged : number_of t v ≡ 0 → (b : Bool) → known set signals ≡ b → available_of t set v ≡ cond b list (refused 23)
  judged e b k =
      by_number
      ∙ ap (λ x. cond x (cond (known set signals) list (refused 23)) (refused (number_of t v))) (eq-eqb (number_of t v) 0 e)
      ∙ ap (λ x. cond x list (refused 23)) k

  strange-right : number_of t v ≡ 0 → available_of t set v ≡ refused 23 → Strange t set
  strange-right e r = by_test (known set signals) (λ k. absurd (other k)) (λ k. strange-bit set signals k)
    where
      other : known set signals ≡ true → ⊥
      other k = let z : ◌≡◌ {A = ℕ} 0 23 = ap (λ (a : Resolution). a.refusal) (sym (judged e true k) ∙ r) in omega arith

  given-right : number_of t v ≡ 0 → (Strange t set → ⊥) → available_of t set v ≡ list
  given-right e n = by_test (known set signals) (λ k. judged e true k) (λ k. absurd (n (strange-bit set signals k)))

  all-on : Everyone t set → (s : ℕ) → s < signals → counts (has_bit set) s ≡ true
  all-on h zero l = refl
  all-on h (suc s) l = h (suc s) (omega arith) l

  answers : Answers t set v
  answers =
      record {
        first = number-first;
        strange = λ e. (strange-right e, λ w. judged e false (bit-strange set signals w.0 w.1 w.2));
        given = given-right;
        everyone = λ e n h.
            given-right e n
            ∙ ap (λ (st : State). answered t (uris_of v) st.signal) (available-all (table_of t) (has_bit set) (all-on h) (used_of (taken_as t (uris_of v))));
      }

pub answer-claim : AnswerClaim
answer-claim t set v = answers t set v

module _ (t : List ℕ) (set : ℕ) (formed : table_refusal t ≡ 0) (before after : List (List ℕ)) where
  law : AvailableLaw (table_of t) (has_bit set)
  law = available-law (table_of t) (accepted t formed).well (has_bit set)

  -- a list of URIs cut in two
  cut : used_of (taken_as t (before ++ after)) ≡ used_of (taken_as t before) ++ used_of (taken_as t after)
  cut = ap used_of (map-append (used_urn (category_names t)) before after) ∙ used-append (taken_as t before) (taken_as t after)

  abbrev next : State → Urn → State
  next = step (env_available (table_of t) (has_bit set))

  over : Over t set before after
  over =
      record {
        available = law.gives (used_of (taken_as t before));
        only-given = law.only-given (used_of (taken_as t before));
        still-says = λ c p s.
            subst (λ (us : List Urn). Says (table_of t) (direct_available (table_of t) (has_bit set) us).signal c p) (sym cut)
            (law.still-says (used_of (taken_as t before)) (used_of (taken_as t after)) c p s);
        few-changes =
            subst (λ (n : ℕ). n ≤ most_parts (table_of t).signals)
            (sym (changes-used (λ (st : State). st.signal) next (start (table_of t).cats) (taken_as t (before ++ after)))
            ∙ changes-map (λ (st : State). st.signal) (step_uri next) (used_urn (category_names t)) (start (table_of t).cats) (before ++ after))
            (law.few-changes (used_of (taken_as t (before ++ after))));
      }

pub over-claim : OverClaim
over-claim = over
