-- The laws of specs/Laws.antt, proved.
use Prim.Native.Nat.{ℕ, ◌≤◌, ◌<◌}
use mathlib.Core.Path.{◌≡◌, sym, ap, ◌∙◌}
use mathlib.Core.Option.{some}
use mathlib.Core.List.{[], Memᴰ}
use lib.ListN.{length, get_or}
use lib.Seq.{set-get_or}
use Rattle.base_lists.proofs.Lists.{member-to, index_at}
use Rattle.base_lists.specs.Lists.{index_by}
use Rattle.theory_resolution.specs.Names.{longer}
use Rattle.theory_resolution.specs.Table.{Table, row_of, find, WellFormed}
use Rattle.theory_resolution.specs.Direct.{State, start, env_of, same_state}
use Rattle.theory_resolution.specs.Nodes.{nodes}
use Rattle.theory_resolution.specs.Symbols.{other, symbols, step_at}
use Rattle.theory_resolution.specs.Machine.{Machine}
use Rattle.theory_resolution.specs.Build.{discovered, Reachable}
use Rattle.theory_resolution.specs.Laws.{DirectLaw, NumberLaw, NodeStepLaw, SymbolLaw, MachineLaw, BuildLaw}
use Rattle.theory_resolution.proofs.Table.{find-sound, find-start}
use Rattle.theory_resolution.proofs.Direct.{state-exact, search-last}
use Rattle.theory_resolution.proofs.Says.{says-only-given, still-says, few-changes}
use Rattle.theory_resolution.proofs.Nodes.{node-to, node_of}
use Rattle.theory_resolution.proofs.Numbers.{nodes-ordered, number-at, root-number, number_same, ancestor-less}
use Rattle.theory_resolution.proofs.TableStep.{table-laws, state-valid, state-start, state-step}
use Rattle.theory_resolution.proofs.NodeStep.{direct-at-node, fresh-at-node, symbol-at-node}
use Rattle.theory_resolution.proofs.Symbols.{symbol-known, symbol-listed, same-signals}
use Rattle.theory_resolution.proofs.SymbolCount.{few-symbols}
use Rattle.theory_resolution.proofs.Machine.{accepts-to, accepts-of}
use Rattle.theory_resolution.proofs.Discovery.{discover-start, discover-reached, discover-distinct, discover-complete, over-reached, reached-over}
use Rattle.theory_resolution.proofs.FirstMet.{discover-numbered}
use Rattle.theory_resolution.proofs.Unique.{breadth-first-only}
use Rattle.theory_resolution.proofs.Build.{built-accepted}
use Rattle.theory_resolution.proofs.Claim.{claim}

pub direct-law : (t : Table) → WellFormed t → DirectLaw t
direct-law t wf =
    record {
      finds = λ st g c r.
          search-last (env_of t) (row_of t st.signal) c (longer (get_or (row_of t st.signal) c []) r) (get_or (row_of t st.signal) c []) st.signal
          (rw (set-get_or (row_of t st.signal) c []) g.live);
      only-given = says-only-given t wf (find t) (find-sound t) live;
      still-says = still-says t wf (find t) (find-sound t) live;
      few-changes = few-changes t wf (find t) (find-sound t) live;
    }
  where
    live : find t (row_of t 0) ≡ some 0
    live = find-start t wf.some-signal

pub number-law : (t : Table) → NumberLaw t
number-law t =
    record {
      nodes-are = node-to t;
      all-nodes = node_of t;
      distinct = (nodes-ordered t).distinct;
      numbered = number-at t;
      root-number = root-number t;
      number_same = number_same t;
      ancestors-first = ancestor-less t;
      few-symbols = few-symbols t;
    }

pub node-step-law : (t : Table) → WellFormed t → NodeStepLaw t
node-step-law t wf =
    record {
      starts = state-start t wf;
      stays = state-step t wf;
      direct-step = λ st g. direct-at-node (env_of t) t.cats (nodes t) (table-laws t wf) st (state-valid t st g);
      symbol-step = λ st g. symbol-at-node (env_of t) t.cats (nodes t) (table-laws t wf) st (state-valid t st g);
      other_step = λ st g c known p x fresh.
          fresh-at-node (env_of t) t.cats (nodes t) (table-laws t wf) st (state-valid t st g) c known p x fresh
          ∙ sym (symbol-at-node (env_of t) t.cats (nodes t) (table-laws t wf) st (state-valid t st g) (other c p) known);
    }

pub symbol-law : (t : Table) → WellFormed t → SymbolLaw t
symbol-law t wf =
    record {
      known = symbol-known t;
      listed = symbol-listed t;
      agrees = λ us used. sym (same-signals t wf us (λ u i. (used u i).known));
    }

pub machine-law : (t : Table) → WellFormed t → (m : Machine) → MachineLaw t m
machine-law t wf m = record { accepts-right = accepts-to t m; right-accepted = accepts-of t m; walks = claim t wf m }

pub build-law : (t : Table) (n : ℕ) → BuildLaw t n
build-law t n =
    record {
      begins = discover-start same_state state-exact (step_at t) (length (symbols t)) (start t.cats) n;
      numbered = discover-numbered same_state state-exact (step_at t) (length (symbols t)) (start t.cats) n;
      reachable = discover-reached same_state state-exact (step_at t) (length (symbols t)) (start t.cats) n;
      distinct = λ i j a b e.
          sym (own i a) ∙ ap (λ st. index_by same_state st (discovered t n)) e ∙ own j b;
      over = over-reached same_state state-exact (step_at t) (length (symbols t)) (start t.cats) n;
      found-over = reached-over same_state state-exact (step_at t) (length (symbols t)) (start t.cats) n;
      complete = all_found;
      accepted = built-accepted t n;
      only = λ h l o.
          breadth-first-only same_state state-exact (step_at t) (length (symbols t)) (start t.cats) l (discovered t n) o
          (record {
            begins = discover-start same_state state-exact (step_at t) (length (symbols t)) (start t.cats) n;
            distinct = discover-distinct same_state state-exact (step_at t) (length (symbols t)) (start t.cats) n;
            numbered = discover-numbered same_state state-exact (step_at t) (length (symbols t)) (start t.cats) n;
            complete = all_found h;
          });
    }
  where
    own : (i : ℕ) → i < length (discovered t n) → index_by same_state (get_or (discovered t n) i (start t.cats)) (discovered t n) ≡ i
    own = index_at same_state state-exact (start t.cats) (discovered t n) (discover-distinct same_state state-exact (step_at t)
        (length (symbols t)) (start t.cats) n)

    all_found : length (discovered t n) ≤ n → (st : State) → Reachable t st → Memᴰ st (discovered t n)
    all_found h st r =
        member-to same_state state-exact st (discovered t n) (discover-complete same_state state-exact (step_at t) (length (symbols t)) (start t.cats) n h st r)
