-- The laws of specs/Laws.antt, proved: for direct resolution, and while only some signals are available.
use Prim.Native.Nat.{ℕ, ◌<◌}
use mathlib.Core.Path.{◌≡◌, refl, sym, ap, ◌∙◌}
use mathlib.Core.Logic.{◌⊎◌, inl, inr, ◌≢◌}
use mathlib.Core.Bool.{Bool, true, false, true≢false}
use mathlib.Core.Option.{some}
use mathlib.Core.List.Memᴰ
use mathlib.Core.List.{List, [], ◌∷◌, ◌++◌, map, Memᴰ}
use lib.ListN.{length}
use native.Mathlib.Omega.{arith}
use Rattle.theory_resolution.specs.Names.{Parts, Above}
use Rattle.theory_resolution.specs.Table.{Urn, urn, Table, Row, find, WellFormed}
use Rattle.theory_resolution.specs.Nodes.{nodes, is_node}
use Rattle.theory_resolution.specs.Direct.{env_of, used_of, Used}
use Rattle.theory_resolution.specs.Says.{Says}
use Rattle.theory_resolution.specs.Machine.{Machine, Accepted}
use Rattle.theory_resolution.specs.Available.{find_available, env_available}
use Rattle.theory_resolution.proofs.Names.{above-self}
use Rattle.theory_resolution.proofs.Table.{find-sound, find-start, find-below}
use Rattle.theory_resolution.proofs.Nodes.{root-free}
use Rattle.theory_resolution.proofs.Says.{still-says}
use Rattle.theory_resolution.proofs.TableStep.{table-laws}
use Rattle.theory_resolution.proofs.Claim.{walk-agrees}
use Rattle.theory_resolution.proofs.Available.{available-live, available-laws, found_in}
use Rattle.theory_kept.specs.Kept.{EachUsed, rung, rung_available, rung_by, Kept}
use Rattle.theory_kept.specs.Decision.{may_precede, first_loss, marks_to, keeps}
use Rattle.theory_kept.specs.Laws.{DecisionLaw, WeightLaw, RingLaw, KeptLaw}
use Rattle.theory_kept.proofs.Paths.{above-either}
use Rattle.theory_kept.proofs.Kept.{decision-law, ring-law}
use Rattle.theory_kept.proofs.ShownWeight.{weight-law}

-- direct resolution
module _ (t : Table) (wf : WellFormed t) where
  listed : (r : Row) (s : ℕ) → find t r ≡ some s → s < length t.signals
  listed r s e = omega (arith, find-below t.cats 0 t.signals r s e)

  pub direct-decision : (c : ℕ) (p : Parts) → c < t.cats → is_node (nodes t) c p ≡ true → DecisionLaw t (env_of t) (rung t) c p
  direct-decision = decision-law t wf (find t) (table-laws t wf) (find-start t wf.some-signal) listed

  pub direct-weight : (c : ℕ) (p : Parts) → c < t.cats → is_node (nodes t) c p ≡ true → WeightLaw t (env_of t) c p
  direct-weight = weight-law t wf (find t) (table-laws t wf) (find-start t wf.some-signal) listed

  pub direct-rings : RingLaw t (env_of t) (rung t)
  direct-rings = ring-law t wf (find t) (table-laws t wf) (find-start t wf.some-signal) listed

-- among the available signals
module _ (t : Table) (wf : WellFormed t) (on : ℕ → Bool) where
  available-listed : (r : Row) (s : ℕ) → find_available t on r ≡ some s → s < length t.signals
  available-listed r s e = (found_in t on r s e).0.0

  pub available-decision : (c : ℕ) (p : Parts) → c < t.cats → is_node (nodes t) c p ≡ true → DecisionLaw t (env_available t on) (rung_available t on) c p
  available-decision = decision-law t wf (find_available t on) (available-laws t on wf) (available-live t on wf) available-listed

  pub available-weight : (c : ℕ) (p : Parts) → c < t.cats → is_node (nodes t) c p ≡ true → WeightLaw t (env_available t on) c p
  available-weight = weight-law t wf (find_available t on) (available-laws t on wf) (available-live t on wf) available-listed

  pub available-rings : RingLaw t (env_available t on) (rung_available t on)
  available-rings = ring-law t wf (find_available t on) (available-laws t on wf) (available-live t on wf) available-listed

-- all of a list are used
used-map : (us : List Urn) → used_of (map some us) ≡ us
used-map [] = refl
used-map (u ∷ us) = ap (λ l. u ∷ l) (used-map us)

module _ (t : Table) (wf : WellFormed t) (c : ℕ) (p : Parts) (known : c < t.cats) (node : is_node (nodes t) c p ≡ true) where
  law : DecisionLaw t (env_of t) (rung t) c p
  law = direct-decision t wf c p known node

  -- URNs of which those of category c are p or its ancestors
  abbrev Towards : List Urn → Type 0
  Towards us = (u : Urn) → Memᴰ u us → u.cat ≡ c → Above u.path p

  at-end : ((us : List Urn) → EachUsed t us → Towards us → Says t (rung t (us ++ urn c p ∷ [])) c p) → Kept t c p
  at-end h = go (keeps t (env_of t) c p) refl
    where
      before : List Urn
      before = marks_to t (env_of t) (may_precede c p) (first_loss t (env_of t) c p)

      go : (b : Bool) → keeps t (env_of t) c p ≡ b → Kept t c p
      go true e = law.kept_of e
      go false e =
          let l = law.lost-of e in
          absurd (l.unsaid (h before (λ u m. l.used u (Memᴰ.append_left (urn c p ∷ []) m)) (λ u m. law.on-way e u (Memᴰ.append_left (urn c p ∷ []) m))))

  to_end : Kept t c p → (us : List Urn) → EachUsed t us → Towards us → Says t (rung t (us ++ urn c p ∷ [])) c p
  to_end k us used towards =
      k (us ++ urn c p ∷ []) (λ u m. is-used u (Memᴰ.append_cases us m))
      (λ u v m n e i. above-either u.path v.path p (is-towards u e (Memᴰ.append_cases us m)) (is-towards v i (Memᴰ.append_cases us n)))
      (record { by = urn c p; listed = Memᴰ.append_right us (Memᴰ.head refl); cat = refl; above = above-self p })
    where
      some-part : p ≢ []
      some-part e = true≢false (sym node ∙ ap (is_node (nodes t) c) e ∙ root-free t c)

      is-used : (u : Urn) → Memᴰ u us ⊎ Memᴰ u (urn c p ∷ []) → Used t u
      is-used u (inl m) = used u m
      is-used u (inr m) = rw (Memᴰ.eq_of_singleton m) (record { known = known; some-part = some-part })

      is-towards : (u : Urn) → u.cat ≡ c → Memᴰ u us ⊎ Memᴰ u (urn c p ∷ []) → Above u.path p
      is-towards u e (inl m) = towards u m e
      is-towards u e (inr m) = rw (Memᴰ.eq_of_singleton m) (above-self p)

  -- a right machine rings as direct resolution does
  rings-as : (m : Machine) → Accepted t m → (us : List Urn) → EachUsed t us → rung_by t m us ≡ rung t us
  rings-as m ok us used = walk-agrees t wf m ok (map some us) (λ u i. used u (rw (used-map us) at i)) ∙ ap (rung t) (used-map us)

  pub kept-law : KeptLaw t c p
  kept-law =
      record {
        goes_on = λ k us vs used o g. still-says t wf (find t) (find-sound t) (find-start t wf.some-signal) us vs c p (k us used o g);
        at-end = (at-end, to_end);
        by-machine = λ m ok.
            (λ k us used o g. rw (← rings-as m ok us used) (k us used o g), λ k us used o g. rw (rings-as m ok us used) (k us used o g));
      }
