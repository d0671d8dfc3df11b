-- What direct resolution says: only what was given, for good, and with few changes. Over lists of any length.
use Prim.Native.Nat.{ℕ, ◌≤◌}
use mathlib.Core.Path.{◌≡◌, refl}
use mathlib.Core.Logic.{◌⊎◌, inl, inr, ◌≢◌}
use mathlib.Core.Option.{Option, some}
use mathlib.Core.List.{List, [], ◌∷◌, ◌++◌, foldl, foldl-append}
use lib.ListN.{get_or}
use native.Mathlib.Omega.{arith}
use Rattle.theory_resolution.specs.Names.{Parts, Above}
use Rattle.theory_resolution.specs.Table.{Urn, Table, Row, place, row_of, most_parts, WellFormed}
use Rattle.theory_resolution.specs.Direct.{State, start, step, Env, env_by, changes}
use Rattle.theory_resolution.specs.Says.{Says, Given}
use Rattle.theory_resolution.proofs.Names.{above-trans}
use Rattle.theory_resolution.proofs.Direct.{grows, only-given, changes-bound}
use Rattle.theory_resolution.proofs.Table.{row-place, total-most}

module _ (t : Table) (wf : WellFormed t) (finder : Row → Option ℕ) (sound : (r : Row) (s : ℕ) → finder r ≡ some s → row_of t s ≡ r)
    (live : finder (row_of t 0) ≡ some 0) where
  abbrev pub env : Env
  env = env_by t finder

  abbrev pub after : List Urn → State
  after us = foldl (step env) (start t.cats) us

  nothing : (p : Parts) → p ≢ [] → Above p [] → ⊥
  nothing [] n a = n refl
  nothing (x ∷ p) n a = let e : x ∷ p ++ a.rest ≡ [] = a.joined in let z : ◌≡◌ {A = ℕ} 0 1 = cc in omega arith

  silent-place : (c : ℕ) → place t 0 c ≡ []
  silent-place c = rw wf.silent

  -- what the signal says was given
  pub says-only-given : (us : List Urn) (c : ℕ) (p : Parts) → Says t (after us).signal c p → Given us c p
  says-only-given us c p s = go (only-given env sound (start t.cats) us c)
    where
      now : get_or (row_of t (after us).signal) c [] ≡ place t (after us).signal c
      now = row-place t (after us).signal c s.known

      go : (get_or (row_of t (after us).signal) c [] ≡ get_or (row_of t 0) c []) ⊎ Given us c (get_or (row_of t (after us).signal) c []) → Given us c p
      go (inl e) =
          let a : Above p [] = rw (← silent-place c, ← row-place t 0 c s.known, ← e, now) s.above in
          absurd (nothing p s.some-part a)
      go (inr g) = record { by = g.by; listed = g.listed; cat = g.cat; above = above-trans s.above (rw now at g.above) }

  -- what it said at an earlier point it still says
  pub still-says : (us vs : List Urn) (c : ℕ) (p : Parts) → Says t (after us).signal c p → Says t (after (us ++ vs)).signal c p
  still-says us vs c p s =
      record {
        known = s.known;
        some-part = s.some-part;
        above =
            rw (foldl-append (step env) (start t.cats) us vs)
            (rw (← row-place t _ c s.known)
            (above-trans (rw (← row-place t _ c s.known) at s.above) (grows env sound (after us) vs c)));
      }

  -- the signal changes at most as often as the largest number of parts that one signal names
  pub few-changes : (us : List Urn) → changes (λ st. st.signal) (step env) (start t.cats) us ≤ most_parts t.signals
  few-changes us = omega (arith, changes-bound env sound (start t.cats) us live, total-most t (after us).signal)
