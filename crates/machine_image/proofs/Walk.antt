-- Laws of the walk of an image: it is the walk of the machine in it, and so the claim over whole lists of URIs holds of
-- every accepted image.
use Prim.Native.Nat.{ℕ, ◌<◌}
use mathlib.Core.Path.{◌≡◌, refl, sym, ap, ◌∙◌}
use mathlib.Core.Option.{Option, none, some}
use mathlib.Core.List.Memᴰ
use mathlib.Core.List.{List, [], ◌∷◌, ◌++◌, foldl}
use lib.ListN.{get_or}
use Rattle.base_lists.proofs.Tabulated.{tabulate-at}
use Rattle.theory_resolution.specs.Table.{Urn, Table, WellFormed}
use Rattle.theory_resolution.specs.Direct.{Used, used_of, AllUsed, step_uri, changes}
use Rattle.theory_resolution.specs.Nodes.{nodes}
use Rattle.theory_resolution.specs.Symbols.{symbols, symbol_of, symbol_index}
use Rattle.theory_resolution.specs.Machine.{blank, machine_state, target, walk_step, walk, signal_at}
use Rattle.theory_resolution.specs.Claim.{Claim}
use Rattle.theory_resolution.proofs.Symbols.{symbol-at-index}
use Rattle.theory_resolution.proofs.Claim.{used-append, claim}
use Rattle.machine_image.specs.Image.{symbol_count, state_count, signal_in, target_in, state_in, machine_in}
use Rattle.machine_image.specs.Refusals.{check_of}
use Rattle.machine_image.specs.Walk.{step_in, walk_in, walk_signal}
use Rattle.machine_image.specs.Claim.{ImageClaim}
use Rattle.machine_image.proofs.Form.{Formed, form-to, form-symbols}
use Rattle.machine_image.proofs.Check.{check-to}

module _ (T : Table) (im : List ℕ) where
  pub machine-state-in : (j : ℕ) → j < state_count im → machine_state (machine_in T im) j ≡ state_in T im j
  unfolding machine_in
  machine-state-in j h = tabulate-at (state_in T im) (state_count im) j blank h

  pub machine-signal : (j : ℕ) → j < state_count im → signal_at (machine_in T im) j ≡ signal_in T.cats im j
  machine-signal j h = ap (λ e. e.pair.signal) (machine-state-in j h)

  pub machine-target : (j k : ℕ) → j < state_count im → k < symbol_count im → target (machine_in T im) j k ≡ target_in T.cats im j k
  machine-target j k h i = ap (λ e. get_or e.row k 0) (machine-state-in j h) ∙ tabulate-at (target_in T.cats im j) (symbol_count im) k 0 i

-- wherever the form is right, the walk stays among the states and is the walk of the machine in the image
module _ (T : Table) (im : List ℕ) (ok : Formed T im) where
  listed : (u : Urn) → Used T u → symbol_index (symbol_of (nodes T) u) (symbols T) < symbol_count im
  listed u h = rw (form-symbols T im ok) (symbol-at-index T u h).0

  step_same : (j : ℕ) → j < state_count im → (u : Urn) → Used T u → walk_step T (machine_in T im) j u ≡ step_in T im j u
  step_same j h u used = machine-target T im j (symbol_index (symbol_of (nodes T) u) (symbols T)) h (listed u used)

  pub step-below : (j : ℕ) → j < state_count im → (u : Urn) → Used T u → step_in T im j u < state_count im
  step-below j h u used = ok.leads j (symbol_index (symbol_of (nodes T) u) (symbols T)) h (listed u used)

  run-same : (j : ℕ) → j < state_count im → (l : List (Option Urn)) → AllUsed T l
      → (foldl (step_uri (walk_step T (machine_in T im))) j l ≡ foldl (step_uri (step_in T im)) j l) × (foldl (step_uri (step_in T im)) j l < state_count im)
  run-same j h [] used = (refl, h)
  run-same j h (none ∷ l) used = run-same j h l used
  run-same j h (some u ∷ l) used =
      let k = used u (Memᴰ.head refl) in
      rw (step_same j h u k) (run-same (step_in T im j u) (step-below j h u k) l (λ x i. used x (Memᴰ.tail i)))

  pub walk_same : (l : List (Option Urn)) → AllUsed T l → walk T (machine_in T im) l ≡ walk_in T im l
  walk_same l used = (run-same 0 ok.some-state l used).0

  pub walk-below : (l : List (Option Urn)) → AllUsed T l → walk_in T im l < state_count im
  walk-below l used = (run-same 0 ok.some-state l used).1

  pub walk-signal : (l : List (Option Urn)) → AllUsed T l → signal_at (machine_in T im) (walk T (machine_in T im) l) ≡ walk_signal T im l
  walk-signal l used = ap (signal_at (machine_in T im)) (walk_same l used) ∙ machine-signal T im (walk_in T im l) (walk-below l used)

  changes-same : (j : ℕ) → j < state_count im → (l : List (Option Urn)) → AllUsed T l
      → changes (signal_at (machine_in T im)) (step_uri (walk_step T (machine_in T im))) j l ≡ changes (signal_in T.cats im) (step_uri (step_in T im)) j l
  changes-same j h [] used = refl
  changes-same j h (none ∷ l) used = rw (machine-signal T im j h, changes-same j h l used)
  changes-same j h (some u ∷ l) used =
      let k = used u (Memᴰ.head refl) in
      let b = step-below j h u k in
      rw (
        step_same j h u k,
        machine-signal T im j h,
        machine-signal T im (step_in T im j u) b,
        changes-same (step_in T im j u) b l (λ x i. used x (Memᴰ.tail i)),
      )

-- the claim over whole lists of URIs, of every accepted image
pub image-claim : (T : Table) → WellFormed T → (im : List ℕ) → check_of T im ≡ 0
    → (before after : List (Option Urn)) → AllUsed T (before ++ after) → ImageClaim T im before after
image-claim T wf im e before after used =
    record {
      agrees = sym here ∙ c.agrees;
      only-given = λ k p s. c.only-given k p (rw here s);
      still-says = λ k p s. rw (← there) (c.still-says k p (rw here s));
      few-changes = rw (← changes-same T im ok 0 ok.some-state (before ++ after) used) c.few-changes;
    }
  where
    ok : Formed T im
    ok = form-to T im (check-to T im e).0

    c : Claim T (machine_in T im) before after
    c = claim T wf (machine_in T im) (check-to T im e).1 before after used

    here : signal_at (machine_in T im) (walk T (machine_in T im) before) ≡ walk_signal T im before
    here = walk-signal T im ok before (λ u i. used u (rw (used-append before after) (Memᴰ.append_left (used_of after) i)))

    there : signal_at (machine_in T im) (walk T (machine_in T im) (before ++ after)) ≡ walk_signal T im (before ++ after)
    there = walk-signal T im ok (before ++ after) used
