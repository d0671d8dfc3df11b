-- The laws of specs/Tables.antt, proved.
use Prim.Native.Nat.{ℕ, zero, suc, ◌≤◌, ◌<◌}
use mathlib.Core.Path.{◌≡◌, refl, sym, ap, ◌∙◌}
use mathlib.Core.Logic.{◌⊎◌, inl, inr}
use mathlib.Core.Option.{Option}
use mathlib.Core.List.Memᴰ
use mathlib.Core.List.{List, [], ◌∷◌, ◌++◌, map, foldl, foldl-append, Memᴰ}
use lib.ListN.{length, get_or}
use native.Mathlib.Decide.{dec_lt}
use native.Mathlib.Omega.{arith}
use Rattle.base_lists.proofs.Lists.{index_at}
use Rattle.base_lists.specs.Lists.{index_by}
use Rattle.theory_resolution.specs.Table.{Urn, Table, WellFormed}
use Rattle.theory_resolution.specs.Direct.{State, start, same_state, used_of}
use Rattle.theory_resolution.specs.Symbols.{symbols, step_at}
use Rattle.theory_resolution.specs.Machine.{target, Accepted}
use Rattle.theory_resolution.specs.Discovery.{FirstMet}
use Rattle.theory_resolution.specs.Build.{discovered, machine_of}
use Rattle.theory_resolution.proofs.Direct.{state-exact}
use Rattle.theory_resolution.proofs.Discovery.{discover-distinct}
use Rattle.theory_resolution.proofs.FirstMet.{discover-numbered}
use Rattle.theory_resolution.proofs.Symbols.{symbol-at-index}
use Rattle.theory_resolution.proofs.Build.{machine-length, machine-target, built-accepted}
use Rattle.theory_resolution.proofs.Claim.{run-used, walk-agrees}
use Rattle.theory_minimal.specs.Machine.{Machine, Formed, Sequence, run, Reachable}
use Rattle.theory_minimal.specs.Proposal.{small}
use Rattle.theory_minimal.specs.Tables.{numbers_of, symbol_number, walk_by, TableLaw, BuiltLaw}
use Rattle.theory_minimal.proofs.Alike.{sequence-nil, sequence-cons}
use Rattle.theory_minimal.proofs.Fits.{small-right}
use Rattle.theory_minimal.proofs.Theorems.{proposer-law}
use Rattle.theory_resolution.specs.Machine as tables

-- a walk over used URNs is a run of their symbols
pub run-map : (m : Machine) (g : Urn → ℕ) (j : ℕ) (us : List Urn) → foldl (λ i u. m.target i (g u)) j us ≡ run m j (map g us)
run-map m g j [] = refl
run-map m g j (u ∷ us) = run-map m g (m.target j (g u)) us

pub sequence-map : (m : Machine) (g : Urn → ℕ) (us : List Urn) → ((u : Urn) → Memᴰ u us → g u < m.symbols) → Sequence m (map g us)
sequence-map m g [] h = sequence-nil m
sequence-map m g (u ∷ us) h = sequence-cons m (g u) (map g us) (h u (Memᴰ.head refl)) (sequence-map m g us (λ v i. h v (Memᴰ.tail i)))

pub walk-run : (t : Table) (m : Machine) (l : List (Option Urn)) → walk_by t m l ≡ run m 0 (map (symbol_number t) (used_of l))
walk-run t m l = run-used (λ j u. m.target j (symbol_number t u)) 0 l ∙ run-map m (symbol_number t) 0 (used_of l)

module _ (t : Table) (m : tables.Machine) where
  accepted-formed : Accepted t m → Formed (numbers_of t m)
  accepted-formed a = record { some-state = a.some-state; leads = a.leads }

  pub table-law : WellFormed t → TableLaw t m
  table-law wf =
      record {
        formed = accepted-formed;
        small-walks = λ a p f l used.
            let n : Machine = numbers_of t m in
            let w : List ℕ = map (symbol_number t) (used_of l) in
            let s : Sequence n w = sequence-map n (symbol_number t) (used_of l) (λ u i. (symbol-at-index t u (used u i)).0) in
            ap (small n p).signal (walk-run t (small n p) l)
            ∙ small-right n (accepted-formed a) p f w s
            ∙ sym (ap n.signal (walk-run t n l))
            ∙ walk-agrees t wf m a l used;
      }

-- one symbol further
pub reachable-next : (m : Machine) (j k : ℕ) → Reachable m j → k < m.symbols → Reachable m (m.target j k)
reachable-next m j k r h =
    record {
      by = r.by ++ k ∷ [];
      listed = λ x i. at x (Memᴰ.append_cases r.by i);
      leads = foldl-append m.target 0 r.by (k ∷ []) ∙ ap (λ z. m.target z k) r.leads;
    }
  where
    at : (x : ℕ) → Memᴰ x r.by ⊎ Memᴰ x (k ∷ []) → x < m.symbols
    at x (inl i) = r.listed x i
    at x (inr i) = rw (Memᴰ.eq_of_singleton i) h

module _ (t : Table) (n : ℕ) where
  abbrev begin : State
  begin = start t.cats

  abbrev found : List State
  found = discovered t n

  abbrev built : Machine
  built = numbers_of t (machine_of t found)

  own : (i : ℕ) → i < length found → index_by same_state (get_or found i begin) found ≡ i
  own = index_at same_state state-exact begin found (discover-distinct same_state state-exact (step_at t) (length (symbols t)) begin n)

  -- a state of the built machine is reachable if all before it are
  from-earlier : (j : ℕ) → j < length found → ((i : ℕ) → i < j → Reachable built i) → Reachable built j
  from-earlier zero h before = record { by = []; listed = λ k i. absurd (Memᴰ.not-nil i); leads = refl }
  from-earlier (suc j) h before = met (discover-numbered same_state state-exact (step_at t) (length (symbols t)) begin n (suc j) (omega arith) h)
    where
      met : FirstMet (step_at t) (length (symbols t)) begin same_state found (suc j) → Reachable built (suc j)
      met f =
          let a = f.earlier in
          let e : target (machine_of t found) f.from f.symbol ≡ suc j =
          machine-target t found f.from f.symbol (omega arith) f.listed ∙ ap (λ s. index_by same_state s found) f.leads ∙ own (suc j) h in
          rw e at (reachable-next built f.from f.symbol (before f.from a) f.listed)

  pub all-before : (k : ℕ) → k ≤ length found → (i : ℕ) → i < k → Reachable built i
  all-before zero h i a = absurd (omega arith)
  all-before (suc k) h i a = go (dec_lt i k) (all-before k (omega arith))
    where
      go : Dec (i < k) → ((i : ℕ) → i < k → Reachable built i) → Reachable built i
      go (yes b) ih = ih i b
      go (no b) ih = let e : i ≡ k = omega arith in rw e (from-earlier k (omega arith) ih)

  pub built-law : BuiltLaw t n
  built-law h =
      (proposer-law built (accepted-formed t (machine_of t found) (built-accepted t n h))).all-reachable
      (λ j a. all-before (length found) (omega arith) j (omega (arith, machine-length t found)))
