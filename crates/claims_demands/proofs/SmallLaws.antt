-- A small image that goes with an image is walked as that one is.
use Prim.Native.Nat.{ℕ, zero, suc, ◌+◌, ◌*◌, ◌≤◌, ◌<◌}
use mathlib.Core.Path.{◌≡◌, refl, sym, ap, ap₂, ◌∙◌, subst}
use mathlib.Core.Bool.{Bool, true, false, cond}
use mathlib.Core.Option.{Option}
use mathlib.Core.List.{List, [], ◌∷◌, ◌++◌, foldl, foldl-map}
use lib.Dec.{eqb}
use lib.ListN.{length}
use native.Mathlib.Omega.{arith}
use native.Mathlib.Nat.{suc-mul, zero-mul}
use borrow.Author.Tests.{eq-eqb, eqb-true, eqb-false}
use Rattle.base_lists.specs.Search.{highest}
use Rattle.value_reader.specs.Value.{refusal_of, uris_of}
use Rattle.theory_resolution.specs.Table.{Urn, Table, most_parts}
use Rattle.theory_resolution.specs.Direct.{step_uri, changed, changes}
use Rattle.theory_resolution.specs.Says.{Says}
use Rattle.node_search.specs.Uses.{used_urn}
use Rattle.machine_image.specs.Image.{symbol_count, state_count, signal_in}
use Rattle.machine_image.specs.Refusals.{form_of}
use Rattle.machine_image.specs.Walk.{step_in}
use Rattle.theory_minimal.specs.Proposal.{class_of, class_count, small}
use Rattle.small_image.specs.Small.{small_form, small_step}
use Rattle.small_image.specs.Numbers.{numbers_in, small_of}
use Rattle.small_image.proofs.Placed.{image-formed}
use Rattle.small_image.proofs.Walks.{small-fits, signal-same}
use Rattle.table_decode.specs.Tables.{table_refusal, table_of, category_names}
use Rattle.table_decode.proofs.Accepting.{accepted}
use Rattle.machine_library.specs.Claims.{RightForm}
use Rattle.machine_library.proofs.FormRight.{form-to-right, right-to-form}
use Rattle.resolve_run.specs.Answers.{number_of}
use Rattle.resolve_run.specs.declared.Resolution.{Resolution}
use Rattle.resolve_run.proofs.AnswerLaws.{unless-number}
use Rattle.resolve_run.proofs.TakenLaws.{taken-used}
use Rattle.resolve_small.specs.Resolve.{walked_small, resolved_small, resolved_over}
use Rattle.resolve_small.specs.Claims.{RightSmall}
use Rattle.resolve_small.proofs.FormLaws.{small-to, small_of_lem}
use Rattle.resolve_library.specs.Resolve.{taken_as, walked_signal, refused, answered, unless_refused, machine_of}
use Rattle.claims_demands.specs.Demands.{WalkClaim}
use Rattle.claims_demands.specs.BesideMachine.{GoesWith, OneOfTwo, Proposed}
use Rattle.machine_image.proofs.Form as image

-- two runs that have the same signal after every list change it equally often
same-changes : {S U A : Type 0} (f : S → ℕ) (next : S → A → S) (g : U → ℕ) (go : U → A → U) (l : List A) (s : S) (u : U)
    → ((p : List A) → f (foldl next s p) ≡ g (foldl go u p)) → changes f next s l ≡ changes g go u l
same-changes f next g go [] s u h = refl
same-changes f next g go (a ∷ l) s u h =
    ap₂ ◌+◌ (ap₂ (λ x y. changed (eqb x y)) (h (a ∷ [])) (h [])) (same-changes f next g go l (next s a) (go u a) (λ p. h (a ∷ p)))

module _ (t im small : List ℕ) (with : GoesWith t im small) where
  same-signal : (uris : List (List ℕ)) → walked_small t small uris ≡ walked_signal t im uris
  same-signal uris = with.one-signal (taken_as t uris) (taken-used t uris)

  abbrev T : Table
  T = table_of t

  abbrev taken : List ℕ → Option Urn
  taken uri = used_urn (category_names t) uri

  -- after every list of URIs as bytes
  same_point : (uris : List (List ℕ)) → signal_in 0 small (foldl (λ j uri. step_uri (small_step T small) j (taken uri)) 0 uris)
      ≡ signal_in T.cats im (foldl (λ j uri. step_uri (step_in T im) j (taken uri)) 0 uris)
  same_point uris =
      ap (signal_in 0 small) (sym (foldl-map taken (step_uri (small_step T small)) uris 0))
      ∙ same-signal uris
      ∙ ap (signal_in T.cats im) (foldl-map taken (step_uri (step_in T im)) uris 0)

  pub small-walks : (before after : List (List ℕ)) → ((before after : List (List ℕ)) → WalkClaim T.cats t im before after) → WalkClaim 0 t small before after
  small-walks before after claim =
      record {
        agrees = same-signal before ∙ c.agrees;
        only-given = λ k p s. c.only-given k p (subst (λ (n : ℕ). Says T n k p) (same-signal before) s);
        still-says = λ k p s. subst (λ (n : ℕ). Says T n k p) (sym (same-signal (before ++ after)))
            (c.still-says k p (subst (λ (n : ℕ). Says T n k p) (same-signal before) s));
        few-changes = subst (λ (n : ℕ). n ≤ most_parts T.signals)
            (sym (same-changes (signal_in 0 small) (λ j uri. step_uri (small_step T small) j (taken uri)) (signal_in T.cats im)
            (λ j uri. step_uri (step_in T im) j (taken uri)) (before ++ after) 0 0 same_point))
            c.few-changes;
      }
    where
      c : WalkClaim T.cats t im before after
      c = claim before after

-- so the resolvers answer alike, whatever the value
module _ (t im small v : List ℕ) where
  pub small-machine : RightForm (table_of t) im → GoesWith t im small → resolved_small t small v ≡ machine_of t im v
  unfolding resolved_over
  small-machine r with =
      ap (λ b. unless_refused t v (cond b (answered t (uris_of v) (walked_small t small (uris_of v))) (refused 15))) (small_of_lem (table_of t) small with.formed)
      ∙ ap (λ s. unless_refused t v (answered t (uris_of v) s)) (same-signal t im small with (uris_of v))
      ∙ ap (λ b. unless_refused t v (cond b (answered t (uris_of v) (walked_signal t im (uris_of v))) (refused 15))) (sym (right-to-form (table_of t) im r))

-- with more bytes to each state, so many states have more
more_bytes : (n x y : ℕ) → 1 ≤ n → x < y → n * x < n * y
more_bytes zero x y h k = absurd (omega arith)
more_bytes (suc zero) x y h k = omega (arith, suc-mul 0 x, suc-mul 0 y, zero-mul x, zero-mul y)
more_bytes (suc (suc n)) x y h k = omega (arith, suc-mul (suc n) x, suc-mul (suc n) y, more_bytes (suc n) x y (omega arith) k)

-- the length that its counts give an image is not the one that they give a small image
no_both : (T : Table) (b : List ℕ) → 1 ≤ T.cats → RightForm T b → RightSmall T b → ⊥
no_both T b some large small =
    omega (
      arith,
      more_bytes (state_count b) (symbol_count b + 1) (symbol_count b + T.cats + 1) large.some-state (omega arith),
      large.length-right,
      small.length-right,
    )

-- an answer that is not refused
module _ (t v : List ℕ) (form : Bool) (given : Resolution) where
  answer-given : {r : Resolution} → r ≡ unless_refused t v (cond form given (refused 15)) → r.refusal ≡ 0 → (number_of t v ≡ 0) × (form ≡ true)
  answer-given e z =
      go (eqb (number_of t v) 0) refl form refl (sym (ap (λ (x : Resolution). x.refusal) (e ∙ unless-number t v (cond form given (refused 15)))) ∙ z)
    where
      go : (a : Bool) → eqb (number_of t v) 0 ≡ a → (b : Bool) → form ≡ b
          → (cond a (cond b given (refused 15)) (refused (number_of t v))).refusal ≡ 0 → (number_of t v ≡ 0) × (form ≡ true)
      go true f true g q = (eqb-true (number_of t v) 0 f, g)
      go true f false g q = absurd (omega (arith, q))
      go false f b g q = absurd (eqb-false (number_of t v) 0 f q)

module _ (t b v : List ℕ) where
  abbrev walked : Resolution
  walked = answered t (uris_of v) (walked_signal t b (uris_of v))

  abbrev walked_by : Resolution
  walked_by = answered t (uris_of v) (walked_small t b (uris_of v))

  -- where nothing is refused before, the table has a category
  one_form : number_of t v ≡ 0 → form_of (table_of t) b ≡ true → small_form (table_of t) b ≡ true → ⊥
  one_form z f g = no_both (table_of t) b (accepted t (formed (eqb (refusal_of v) 0) refl z)).some-category (form-to-right (table_of t) b f)
      (small-to (table_of t) b g)
    where
      formed : (a : Bool) → eqb (refusal_of v) 0 ≡ a → cond a (table_refusal t) (refusal_of v) ≡ 0 → table_refusal t ≡ 0
      formed true q e = e
      formed false q e = absurd (eqb-false (refusal_of v) 0 q e)

  -- a test that does not pass gives 15
  fifteen : number_of t v ≡ 0 → (form : Bool) (given : Resolution) → (form ≡ true → ⊥) → (unless_refused t v (cond form given (refused 15))).refusal ≡ 15
  fifteen z true given n = absurd (n refl)
  fifteen z false given n =
      ap (λ (r : Resolution). r.refusal) (unless-number t v (refused 15) ∙ ap (λ a. cond a (refused 15) (refused (number_of t v))) (eq-eqb (number_of t v) 0 z))

  pub one_of_two : OneOfTwo t b v
  unfolding resolved_over
  one_of_two =
      record {
        large = λ e.
            let g = answer-given t v (form_of (table_of t) b) walked refl e in
            fifteen g.0 (small_form (table_of t) b) walked_by (λ s. one_form g.0 g.1 s);
        small = λ e.
            let g = answer-given t v (small_form (table_of t) b) walked_by refl e in
            fifteen g.0 (form_of (table_of t) b) walked (λ l. one_form g.0 l g.1);
      }

-- classes that are bytes are at most 256
highest-byte : (f : ℕ → ℕ) (n : ℕ) → ((j : ℕ) → f j < 256) → highest f n < 256
unfolding highest
highest-byte f zero h = omega arith
highest-byte f (suc n) h = omega (arith, highest-byte f n h, h n)

module _ (t im p : List ℕ) (ok : image.Formed (table_of t) im) (q : Proposed t im p) where
  few : class_count p ≤ 256
  few = omega (arith, highest-byte (class_of p) (length p) q.byte)

  written : small_form (table_of t) (small_of (table_of t) im p) ≡ true
  unfolding small_of
  written = image-formed (table_of t) (small (numbers_in (table_of t).cats im) p) (small-fits (table_of t) im ok p q.fits few)

  goes_with : GoesWith t im (small_of (table_of t) im p)
  goes_with =
      record {
        formed = small-to (table_of t) (small_of (table_of t) im p) written;
        one-signal = signal-same (table_of t) im ok p q.fits;
      }

pub small-proposed : (t im p : List ℕ) → RightForm (table_of t) im → Proposed t im p → GoesWith t im (small_of (table_of t) im p)
small-proposed t im p r q = goes_with t im p (image.form-to (table_of t) im (right-to-form (table_of t) im r)) q
