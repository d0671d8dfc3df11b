-- The walk of the small image of a proposal that fits has the large image's signal at every point.
use Prim.Native.Nat.{ℕ, ◌≤◌, ◌<◌}
use mathlib.Core.Path.{◌≡◌, refl, sym, ◌∙◌}
use mathlib.Core.Option.{Option, none, some}
use mathlib.Core.List.Memᴰ
use mathlib.Core.List.{List, [], ◌∷◌, ◌++◌, foldl}
use lib.ListN.{length}
use native.Mathlib.Omega.{arith}
use Rattle.base_numbers.specs.Numbers.{most_states}
use Rattle.theory_resolution.specs.Table.{Urn, Table, WellFormed}
use Rattle.theory_resolution.specs.Direct.{Used, used_of, AllUsed, step_uri, changes}
use Rattle.theory_resolution.specs.Nodes.{nodes}
use Rattle.theory_resolution.specs.Symbols.{symbols, symbol_of, symbol_index}
use Rattle.theory_resolution.proofs.Symbols.{symbol-at-index}
use Rattle.theory_resolution.proofs.Claim.{used-append}
use Rattle.machine_image.specs.Image.{symbol_count, state_count, signal_in, target_in}
use Rattle.machine_image.specs.Refusals.{check_of}
use Rattle.machine_image.specs.Walk.{step_in, walk_signal}
use Rattle.machine_image.specs.Claim.{ImageClaim}
use Rattle.machine_image.proofs.Form as image
use Rattle.machine_image.proofs.Check.{check-to}
use Rattle.machine_image.proofs.Walk.{image-claim}
use Rattle.theory_minimal.specs.Machine.{Machine, Formed}
use Rattle.theory_minimal.specs.Proposal.{class_of, first_of, class_count, small, Fits}
use Rattle.theory_minimal.proofs.Reach.{reached-state}
use Rattle.theory_minimal.proofs.Fits.{class-below, first_found, small-formed}
use Rattle.small_image.specs.Small.{small_step, small_signal}
use Rattle.small_image.specs.Numbers.{numbers_in, small_of}
use Rattle.small_image.specs.Claims.{SmallFits, SmallClaim}
use Rattle.small_image.proofs.Placed.{image-signal, image-target}

-- every class of a proposal that fits has a first state
pub first-state : (m : Machine) → Formed m → (p : List ℕ) → Fits m p → (c : ℕ) → c < class_count p → (first_of p c < m.states) × (class_of p (first_of p c) ≡ c)
first-state m formed p f c h =
    let r = f.reachable c h in
    let z = f.sized in
    let a = reached-state m formed r.state r.reached in
    let b = first_found p r.state (omega arith) in
    let d : (first_of p c < length p) × (class_of p (first_of p c) ≡ c) = rw r.classed at b in
    (omega (arith, d.0), d.1)

module _ (T : Table) (im : List ℕ) (ok : image.Formed T im) where
  abbrev large : Machine
  large = numbers_in T.cats im

  pub large-formed : Formed large
  large-formed = record { some-state = ok.some-state; leads = ok.leads }

  module _ (p : List ℕ) (f : Fits large p) (few : class_count p ≤ most_states) where
    pub small-fits : SmallFits T (small large p)
    small-fits =
        record {
          formed = small-formed large large-formed p f;
          few = few;
          symbolled = image.form-symbols T im ok;
          listed = λ c h. ok.signal-listed (first_of p c) (first-state large large-formed p f c h).0;
        }

  module _ (p : List ℕ) (f : Fits large p) where
    abbrev sm : List ℕ
    sm = small_of T im p

    signal-at : (c : ℕ) → c < class_count p → signal_in 0 sm c ≡ large.signal (first_of p c)
    unfolding small_of
    signal-at c h = image-signal T (small large p) (image.form-symbols T im ok) c h

    target_at : (c k : ℕ) → c < class_count p → k < symbol_count im → target_in 0 sm c k ≡ class_of p (large.target (first_of p c) k)
    unfolding small_of
    target_at c k h i = image-target T (small large p) (image.form-symbols T im ok) c k h i

    -- where both walks are: the small one in the class of the large one's state
    record Both (c j : ℕ) : Type 0 where
      below : j < state_count im
      class : class_of p j ≡ c

    class-small : (c j : ℕ) → Both c j → c < class_count p
    class-small c j b = let z = f.sized in omega (arith, class-below p j (omega (arith, b.below)), b.class)

    both-signal : (c j : ℕ) → Both c j → signal_in 0 sm c ≡ signal_in T.cats im j
    both-signal c j b =
        let h = class-small c j b in
        let s = first-state large large-formed p f c h in
        signal-at c h ∙ f.one-signal (first_of p c) j s.0 b.below (s.1 ∙ sym b.class)

    both-step : (c j : ℕ) → Both c j → (u : Urn) → Used T u → Both (small_step T sm c u) (step_in T im j u)
    both-step c j b u used =
        let k = symbol_index (symbol_of (nodes T) u) (symbols T) in
        let i : k < symbol_count im = rw (image.form-symbols T im ok) (symbol-at-index T u used).0 in
        let h = class-small c j b in
        let s = first-state large large-formed p f c h in
        record {
          below = ok.leads j k b.below i;
          class = f.one-row j (first_of p c) k b.below s.0 i (b.class ∙ sym s.1) ∙ sym (target_at c k h i);
        }

    both_run : (c j : ℕ) → Both c j → (l : List (Option Urn)) → AllUsed T l → Both (foldl (step_uri (small_step T sm)) c l) (foldl (step_uri (step_in T im)) j l)
    both_run c j b [] used = b
    both_run c j b (none ∷ l) used = both_run c j b l used
    both_run c j b (some u ∷ l) used =
        both_run (small_step T sm c u) (step_in T im j u) (both-step c j b u (used u (Memᴰ.head refl))) l (λ x i. used x (Memᴰ.tail i))

    both-start : Both 0 0
    both-start = record { below = ok.some-state; class = f.starts }

    pub signal-same : (l : List (Option Urn)) → AllUsed T l → small_signal T sm l ≡ walk_signal T im l
    signal-same l used = both-signal (foldl (step_uri (small_step T sm)) 0 l) (foldl (step_uri (step_in T im)) 0 l) (both_run 0 0 both-start l used)

    changes-same : (c j : ℕ) → Both c j → (l : List (Option Urn)) → AllUsed T l
        → changes (signal_in 0 sm) (step_uri (small_step T sm)) c l ≡ changes (signal_in T.cats im) (step_uri (step_in T im)) j l
    changes-same c j b [] used = refl
    changes-same c j b (none ∷ l) used = rw (both-signal c j b, changes-same c j b l used)
    changes-same c j b (some u ∷ l) used =
        let d = both-step c j b u (used u (Memᴰ.head refl)) in
        rw (
          both-signal c j b,
          both-signal (small_step T sm c u) (step_in T im j u) d,
          changes-same (small_step T sm c u) (step_in T im j u) d l (λ x i. used x (Memᴰ.tail i)),
        )

    pub changes-all : (l : List (Option Urn)) → AllUsed T l
        → changes (signal_in 0 sm) (step_uri (small_step T sm)) 0 l ≡ changes (signal_in T.cats im) (step_uri (step_in T im)) 0 l
    changes-all l used = changes-same 0 0 both-start l used

pub small-claim : (T : Table) → WellFormed T → (im : List ℕ) → check_of T im ≡ 0 → (p : List ℕ) → Fits (numbers_in T.cats im) p
    → (before after : List (Option Urn)) → AllUsed T (before ++ after) → SmallClaim T im p before after
small-claim T wf im e p f before after used =
    record {
      same-signal = here;
      agrees = here ∙ c.agrees;
      only-given = λ k q s. c.only-given k q (rw here at s);
      still-says = λ k q s. rw there (c.still-says k q (rw here at s));
      few-changes = rw (changes-all T im ok p f (before ++ after) used) c.few-changes;
    }
  where
    ok : image.Formed T im
    ok = image.form-to T im (check-to T im e).0

    c : ImageClaim T im before after
    c = image-claim T wf im e before after used

    here : small_signal T (small_of T im p) before ≡ walk_signal T im before
    here = signal-same T im ok p f before (λ u i. used u (rw (used-append before after) (Memᴰ.append_left (used_of after) i)))

    there : small_signal T (small_of T im p) (before ++ after) ≡ walk_signal T im (before ++ after)
    there = signal-same T im ok p f (before ++ after) used
