-- The claim over whole lists of URIs holds of every right machine.
use Prim.Native.Nat.{ℕ, ◌+◌}
use mathlib.Core.Path.{◌≡◌, refl, sym, ap, ◌∙◌}
use mathlib.Core.Option.{Option, none, some}
use mathlib.Core.List.Memᴰ
use mathlib.Core.List.{List, [], ◌∷◌, ◌++◌, foldl}
use lib.Dec.{eqb}
use lib.ListN.{length}
use borrow.Author.Tests.{eq-eqb}
use native.Mathlib.Nat.{zero-add}
use native.Mathlib.Omega.{arith}
use Rattle.theory_resolution.specs.Table.{Urn, Table, row_of, find, WellFormed}
use Rattle.theory_resolution.specs.Direct.{start, step, env_of, direct, used_of, used_count, skipped_count, AllUsed, step_uri, changed, changes}
use Rattle.theory_resolution.specs.Machine.{Machine, Accepted, walk_step, walk, signal_at}
use Rattle.theory_resolution.specs.Claim.{Claim}
use Rattle.theory_resolution.proofs.Table.{find-sound, find-start}
use Rattle.theory_resolution.proofs.Says.{says-only-given, still-says, few-changes}
use Rattle.theory_resolution.proofs.Machine.{walk-right}

-- a run over URIs is a run over the used ones
pub run-used : {S : Type 0} (next : S → Urn → S) (s : S) (l : List (Option Urn)) → foldl (step_uri next) s l ≡ foldl next s (used_of l)
run-used next s [] = refl
run-used next s (none ∷ l) = run-used next s l
run-used next s (some u ∷ l) = run-used next (next s u) l

pub used-append : (k l : List (Option Urn)) → used_of (k ++ l) ≡ used_of k ++ used_of l
used-append [] l = refl
used-append (none ∷ k) l = used-append k l
used-append (some u ∷ k) l = ap (λ i. u ∷ i) (used-append k l)

-- every URI is used or skipped
pub counts-add : (l : List (Option Urn)) → used_count l + skipped_count l ≡ length l
counts-add [] = refl
counts-add (none ∷ l) = omega (arith, counts-add l)
counts-add (some u ∷ l) = omega (arith, counts-add l)

-- two runs that agree after every part of a list change alike
changes-alike : {S R A : Type 0} (f : S → ℕ) (g : R → ℕ) (next : S → A → S) (next' : R → A → R) (s : S) (r : R) (l : List A)
    → f s ≡ g r → ((k j : List A) → k ++ j ≡ l → f (foldl next s k) ≡ g (foldl next' r k)) → changes f next s l ≡ changes g next' r l
changes-alike f g next next' s r [] e h = refl
changes-alike f g next next' s r (a ∷ l) e h =
    let e' : f (next s a) ≡ g (next' r a) = h (a ∷ []) l refl in
    rw (e, e', changes-alike f g next next' (next s a) (next' r a) l e' (λ k j i. h (a ∷ k) j (ap (λ z. a ∷ z) i)))

-- the signal changes at used URIs only
pub changes-used : {S : Type 0} (f : S → ℕ) (next : S → Urn → S) (s : S) (l : List (Option Urn)) → changes f (step_uri next) s l ≡ changes f next s (used_of l)
changes-used f next s [] = refl
changes-used f next s (none ∷ l) = rw (eq-eqb (f s) (f s) refl, zero-add) (changes-used f next s l)
changes-used f next s (some u ∷ l) = ap (λ n. changed (eqb (f (next s u)) (f s)) + n) (changes-used f next (next s u) l)

-- the walk obeys every used URI of a list, one after the other
pub walk-used : (t : Table) (m : Machine) (l : List (Option Urn)) → walk t m l ≡ foldl (walk_step t m) 0 (used_of l)
walk-used t m l = run-used (walk_step t m) 0 l

module _ (t : Table) (wf : WellFormed t) (m : Machine) (ok : Accepted t m) where
  -- the walk's signal is direct resolution's
  pub walk-agrees : (l : List (Option Urn)) → AllUsed t l → signal_at m (walk t m l) ≡ (direct t (used_of l)).signal
  walk-agrees l used = ap (signal_at m) (walk-used t m l) ∙ walk-right t wf m ok (used_of l) used

  pub claim : (before after : List (Option Urn)) → AllUsed t (before ++ after) → Claim t m before after
  claim before after used =
      record {
        agrees = agree;
        only-given = λ c p s. says-only-given t wf (find t) (find-sound t) live (used_of before) c p (rw agree at s);
        still-says = λ c p s.
            rw (walk-agrees (before ++ after) used, used-append before after)
            (still-says t wf (find t) (find-sound t) live (used_of before) (used_of after) c p (rw agree at s));
        few-changes = rw (
          changes-alike (signal_at m) (λ st. st.signal) (step_uri (walk_step t m)) (step_uri (step (env_of t))) 0 (start t.cats) (before ++ after)
              (ap (λ st. st.signal) ok.begins) along,
          changes-used (λ st. st.signal) (step (env_of t)) (start t.cats) (before ++ after),
        )
            (few-changes t wf (find t) (find-sound t) live (used_of (before ++ after)));
      }
    where
      live : find t (row_of t 0) ≡ some 0
      live = find-start t wf.some-signal

      used-part : (k j : List (Option Urn)) → k ++ j ≡ before ++ after → AllUsed t k
      used-part k j i u h = used u (rw (← i, used-append k j) (Memᴰ.append_left (used_of j) h))

      agree : signal_at m (walk t m before) ≡ (direct t (used_of before)).signal
      agree = walk-agrees before (used-part before after refl)

      along : (k j : List (Option Urn)) → k ++ j ≡ before ++ after
          → signal_at m (walk t m k) ≡ (foldl (step_uri (step (env_of t))) (start t.cats) k).signal
      along k j i = walk-agrees k (used-part k j i) ∙ ap (λ st. st.signal) (sym (run-used (step (env_of t)) (start t.cats) k))
