-- What holds of every build and of every image that the checker accepts, for stored tables.
use Prim.Native.Nat.{ℕ, ◌<◌}
use mathlib.Core.Path.{◌≡◌, refl, sym, ap, ◌∙◌}
use mathlib.Core.Bool.{Bool, true, false, cond}
use mathlib.Core.List.{List}
use lib.Dec.{eqb}
use borrow.Author.Tests.{eq-eqb, eqb-true, eqb-false}
use lib.ListN.{replicate}
use Rattle.base_numbers.specs.Numbers.{most_states}
use Rattle.base_bytes.specs.Built.{refused}
use Rattle.theory_resolution.specs.Names.{Parts}
use Rattle.theory_resolution.specs.Nodes.{nodes, is_node}
use Rattle.theory_resolution.specs.Build.{discovered, machine_of}
use Rattle.theory_resolution.proofs.Nodes.{urn-node}
use Rattle.table_decode.specs.Tables.{table_of, table_refusal}
use Rattle.table_decode.proofs.Accepting.{accepted}
use Rattle.machine_image.specs.Image.{machine_image}
use Rattle.machine_image.specs.Refusals.{build_refusal, build_length, buffer_of, check_of}
use Rattle.machine_image.proofs.Build.{few-found, own-storable, reachable-accepted, longest-image, build-fits}
use Rattle.machine_image.proofs.Check.{check-to, check-of}
use Rattle.machine_build.specs.Built.{built_of}
use Rattle.machine_library.specs.Built.{built_from, buffer_from, check_from}
use Rattle.machine_library.specs.Claims.{TooManyStates, Builds, RefusedBuild, RightImage, BuildsClaim, RefusedClaim, CheckedClaim}
use Rattle.machine_library.proofs.FormRight.{form-to-right, right-to-form}

-- each category of a well-formed table has a node
pub all-used : (t : List ℕ) → table_refusal t ≡ 0 → (c : ℕ) → c < (table_of t).cats → (p : Parts) × (is_node (nodes (table_of t)) c p ≡ true)
all-used t e c h =
    let a = accepted t e in
    let w = a.used c h in (
      w.2.path,
      ap (λ z. is_node (nodes (table_of t)) z w.2.path) (sym w.4) ∙ urn-node (table_of t) w.0 w.2 w.1 w.3
          (a.some-part w.0 w.1 w.2 w.3),
    )

module _ (t : List ℕ) (e : table_refusal t ≡ 0) where
  same : eqb (table_refusal t) 0 ≡ true
  same = eq-eqb (table_refusal t) 0 e

  -- a build of a well-formed table with at most 256 reachable states
  builds : (TooManyStates t → ⊥) → Builds t
  unfolding built_from buffer_from check_from
  builds few =
      let a = accepted t e in
      let n = few-found (table_of t) few in
      record {
        short = longest-image (table_of t) (all-used t e) a.few-categories a.few-nodes
            (machine_of (table_of t) (discovered (table_of t) most_states)) (own-storable (table_of t) a.well n);
        built = λ room h.
            let w = build-fits (table_of t) room n h in
            ap (λ b. cond b (built_of (table_of t) room) (refused (table_refusal t))) same ∙ (λ i. record { refusal = w.0 i; len = w.1 i });
        written = λ room h. ap (λ b. cond b (buffer_of (table_of t) room) (replicate room 0)) same ∙ (build-fits (table_of t) room n h).2;
        checked = ap (λ b. cond b (check_of (table_of t) (machine_image (table_of t))) (table_refusal t)) same ∙ reachable-accepted (table_of t) a.well few;
      }

pub every-build : BuildsClaim
every-build = builds

-- a refused build, whatever the bytes and the room
pub refused-build : RefusedClaim
unfolding built_from buffer_from build_length buffer_of
refused-build t room n = go (eqb (table_refusal t) 0) refl
  where
    go : (b : Bool) → eqb (table_refusal t) 0 ≡ b → RefusedBuild t room
    go false e = record { no_length = rw e; cleared = rw e }
    go true e = by (eqb (build_refusal (table_of t) room) 0) refl
      where
        by : (c : Bool) → eqb (build_refusal (table_of t) room) 0 ≡ c → RefusedBuild t room
        by false f = record { no_length = rw (e, f); cleared = rw (e, f) }
        by true f = absurd (n (ap (λ b. (cond b (built_of (table_of t) room) (refused (table_refusal t))).refusal) e
            ∙ eqb-true (build_refusal (table_of t) room) 0 f))

-- the checker accepts exactly the right images
module _ (t im : List ℕ) where
  check-to-right : check_from t im ≡ 0 → RightImage t im
  unfolding check_from
  check-to-right h = go (eqb (table_refusal t) 0) refl
    where
      go : (b : Bool) → eqb (table_refusal t) 0 ≡ b → RightImage t im
      go false e = absurd (eqb-false (table_refusal t) 0 e (sym (ap (λ b. cond b (check_of (table_of t) im) (table_refusal t)) e) ∙ h))
      go true e =
          let w = check-to (table_of t) im (sym (ap (λ b. cond b (check_of (table_of t) im) (table_refusal t)) e) ∙ h) in
          record { well-formed = eqb-true (table_refusal t) 0 e; form = form-to-right (table_of t) im w.0; right = w.1 }

  right-to-check : RightImage t im → check_from t im ≡ 0
  unfolding check_from
  right-to-check r =
      ap (λ b. cond b (check_of (table_of t) im) (table_refusal t)) (eq-eqb (table_refusal t) 0 r.well-formed)
      ∙ check-of (table_of t) im (right-to-form (table_of t) im r.form) r.right

pub checked : CheckedClaim
checked t im = (check-to-right t im, right-to-check t im)
