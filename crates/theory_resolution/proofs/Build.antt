-- Laws of the built machine: it is right where the discovery has come to its end, which it does unless too many states
-- are reachable.
use Prim.Native.Nat.{ℕ, ◌≤◌, ◌<◌}
use mathlib.Core.Path.{◌≡◌, ap, ◌∙◌}
use mathlib.Core.List.{List, [], ◌∷◌, foldl, Memᴰ}
use lib.ListN.{length, get_or, length-map}
use native.Mathlib.Omega.{arith}
use Rattle.base_lists.proofs.Tabulated.{tabulate-at}
use Rattle.base_lists.proofs.Lists.{index-member, map_at}
use Rattle.base_lists.specs.Lists.{index_by}
use Rattle.theory_resolution.specs.Table.{Table, WellFormed}
use Rattle.theory_resolution.specs.Direct.{State, start, same_state, StateOf}
use Rattle.theory_resolution.specs.Symbols.{steps_as, symbols, symbol_at, step_at}
use Rattle.theory_resolution.specs.Machine.{MachineState, blank, machine_state, target, Accepted}
use Rattle.theory_resolution.specs.Discovery.{targets}
use Rattle.theory_resolution.specs.Build.{discovered, Reachable, machine_of}
use Rattle.theory_resolution.proofs.Direct.{state-exact}
use Rattle.theory_resolution.proofs.Discovery.{Closed, discover-some, discover-start, discover-closed, discover-reached}
use Rattle.theory_resolution.proofs.TableStep.{state-start, state-step}

module _ (t : Table) where
  abbrev count : ℕ
  count = length (symbols t)

  abbrev begin : State
  begin = start t.cats

  module _ (l : List State) where
    abbrev made : State → MachineState
    made st = record { pair = st; row = targets same_state (step_at t) count l st }

    pub machine-length : length (machine_of t l) ≡ length l
    machine-length = length-map l made

    -- state j of the machine is state j of the list, with its targets' numbers
    pub machine-state : (j : ℕ) → j < length l → machine_state (machine_of t l) j ≡ made (get_or l j begin)
    machine-state j h = map_at made l j begin blank h

    pub machine-target : (j k : ℕ) → j < length l → k < count → target (machine_of t l) j k ≡ index_by same_state (step_at t (get_or l j begin) k) l
    machine-target j k h i =
        ap (λ e. get_or e.row k 0) (machine-state j h)
        ∙ tabulate-at (λ x. index_by same_state (step_at t (get_or l j begin) x) l) count k 0 i

    -- the machine of a list that begins with the start and has every target is right
    pub machine-accepted : 0 < length l → get_or l 0 begin ≡ begin → Closed same_state state-exact (step_at t) count begin (length l) l → Accepted t (machine_of t l)
    machine-accepted some-state begins closed =
        record {
          some-state = rw machine-length some-state;
          begins = ap (λ e. e.pair) (machine-state 0 some-state) ∙ begins;
          leads = λ j k h i. rw (machine-length, machine-target j k (rw machine-length at h) i) (known j k (rw machine-length at h) i).0;
          right = λ j k h i.
              rw (
                machine-target j k (rw machine-length at h) i,
                machine-state (index_by same_state (step_at t (get_or l j begin) k) l) (known j k (rw machine-length at h) i).0,
                machine-state j (rw machine-length at h),
              )
              (known j k (rw machine-length at h) i).1;
        }
      where
        known : (j k : ℕ) → j < length l → k < count
            → (index_by same_state (step_at t (get_or l j begin) k) l < length l)
            × (get_or l (index_by same_state (step_at t (get_or l j begin) k) l) begin ≡ step_at t (get_or l j begin) k)
        known j k h i = index-member same_state state-exact begin (step_at t (get_or l j begin) k) l (closed j k h h i)

  -- the machine of the states discovered is right, if they are no more than n after n turns
  pub built-accepted : (n : ℕ) → length (discovered t n) ≤ n → Accepted t (machine_of t (discovered t n))
  built-accepted n h =
      machine-accepted (discovered t n)
      (discover-some same_state state-exact (step_at t) count begin n) (discover-start same_state state-exact (step_at t) count begin n)
      (λ j k a b d. discover-closed same_state state-exact (step_at t) count begin n j k (omega arith) b d)

-- the states discovered are states of the table, and step at their symbols' nodes
module _ (t : Table) (wf : WellFormed t) where
  pub state-at : (st : State) (k : ℕ) → StateOf t st → StateOf t (step_at t st k)
  state-at st k g = state-step t wf st (steps_as (symbol_at t k)) g

  pub discovered-state : (n : ℕ) (st : State) → Memᴰ st (discovered t n) → StateOf t st
  discovered-state n st m = follow r.by (start t.cats) (state-start t wf) r.leads
    where
      r : Reachable t st
      r = discover-reached same_state state-exact (step_at t) (length (symbols t)) (start t.cats) n st m

      follow : (ks : List ℕ) (from : State) → StateOf t from → foldl (step_at t) from ks ≡ st → StateOf t st
      follow [] from g e = rw (← e) g
      follow (k ∷ ks) from g e = follow ks (step_at t from k) (state-at from k g) e
