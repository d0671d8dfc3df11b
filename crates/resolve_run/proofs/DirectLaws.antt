-- Direct resolution on node numbers, over a whole value.
use Prim.Native.Nat.{ℕ, ◌+◌}
use mathlib.Core.Path.{◌≡◌, refl, sym, ap, ap₂, ◌∙◌, subst}
use mathlib.Core.List.{List, [], ◌∷◌, foldl}
use native.Mathlib.Omega.{arith}
use Rattle.value_reader.specs.Value.{uris_of}
use Rattle.theory_resolution.specs.Table.{Urn, Table}
use Rattle.theory_resolution.specs.Direct.{env_of, start, step, used_of, StateOf}
use Rattle.theory_resolution.specs.Direct as direct
use Rattle.theory_resolution.specs.Nodes.{nodes}
use Rattle.theory_resolution.specs.Tries.{tries, tries_over}
use Rattle.theory_resolution.proofs.TableStep.{state-valid, state-start, state-step}
use Rattle.node_step.specs.Step.{coded}
use Rattle.node_step.specs.declared.State.{State}
use Rattle.node_step.proofs.Both.{step-direct, coded-start}
use Rattle.node_step.proofs.TriesRight.{tries-direct}
use Rattle.table_decode.specs.Tables.{table_of}
use Rattle.table_decode.specs.Decoded.{Holds}
use Rattle.node_search.specs.declared.decoded.Decoded.{Decoded}
use Rattle.resolve_run.specs.declared.run.Current.{Current}
use Rattle.resolve_run.specs.declared.answer.Ended.{Ended}
use Rattle.resolve_run.specs.Answers.{taken_as}
use Rattle.resolve_run.specs.declared.run.Current.TheVariants.{Direct}
use Rattle.resolve_run.specs.Run.{start_now, moved, ended_from}
use Rattle.resolve_run.proofs.FoldLaws.{Reads, Steps, holds-reads}
use Rattle.resolve_run.proofs.AnswerLaws.{End, value-ends}

-- a state, and the tries so far
pub record Counted : Type 0 where
  pub at : direct.State
  pub count : ℕ

abbrev pub shown : Table → Counted → Current
shown T x = Direct (coded T x.at) x.count

-- one URN more
abbrev pub counts : Table → Counted → Urn → Counted
counts T x u = record { at = step (env_of T) x.at u; count = x.count + tries (env_of T) (nodes T) x.at u }

abbrev pub begun : direct.State → Counted
begun st = record { at = st; count = 0 }

-- over a list: the states are direct resolution's, the tries add up
pub counts-over : (T : Table) (us : List Urn) (st : direct.State) (n : ℕ)
    → foldl (counts T) (record { at = st; count = n }) us ≡ record { at = foldl (step (env_of T)) st us; count = n + tries_over T st us }
counts-over T [] st n = let e : n ≡ n + 0 = omega arith in ap (λ (k : ℕ). record { at = st; count = k }) e
counts-over T (u ∷ us) st n =
    let k = tries (env_of T) (nodes T) st u in
    let e : n + k + tries_over T (step (env_of T) st u) us ≡ n + (k + tries_over T (step (env_of T) st u) us) = omega arith in
    counts-over T us (step (env_of T) st u) (n + k)
    ∙ ap (λ (m : ℕ). record { at = foldl (step (env_of T)) (step (env_of T) st u) us; count = m }) e

module _ (t : List ℕ) (d : Decoded) (h : Holds t (table_of t) d) where
  abbrev table : Table
  table = table_of t

  abbrev reads : Reads t table d
  reads = holds-reads t table d h

  pub direct-steps : Steps t table d reads (λ x. StateOf table x.at) (counts table) (shown table)
  unfolding moved
  direct-steps =
      record {
        moves = λ x u g w.
            ap₂ (λ (s : State) (n : ℕ). Direct s (x.count + n))
            (step-direct d.rows d.parent d.inner d.signals table h.well-formed h.numbers h.inner x.at
            (state-valid table x.at g) u w.known)
            (tries-direct d.rows d.parent d.inner d.signals table h.well-formed h.numbers h.inner x.at g u w.known);
        stays = λ x u g w. state-step table h.well-formed x.at u g;
      }

  -- the whole value, from a state of the table
  pub direct-ends : (v : List ℕ) (st : direct.State) → StateOf table st → {x : Current} → x ≡ Direct (coded table st) 0 → {e : Ended} → e ≡ ended_from t d x v
      → End t v (Direct (coded table (foldl (step (env_of table)) st (used_of (taken_as t (uris_of v))))) (tries_over table st (used_of (taken_as t (uris_of v))))) e
  direct-ends v st g f {e} q =
      let us = used_of (taken_as t (uris_of v)) in
      let z : 0 + tries_over table st us ≡ tries_over table st us = omega arith in
      subst (λ (x : Current). End t v x e)
      (ap (shown table) (counts-over table us st 0) ∙ ap (Direct (coded table (foldl (step (env_of table)) st us))) z)
      (value-ends t table d reads v (λ x. StateOf table x.at) (counts table) (shown table) direct-steps (begun st) g refl f q)

  -- from signal 0 with every category open
  pub plain-ends : (v : List ℕ) → {x : Current} → x ≡ Direct start_now 0 → {e : Ended} → e ≡ ended_from t d x v
      → End t v (Direct (coded table (direct.direct table (used_of (taken_as t (uris_of v)))))
      (tries_over table (start table.cats) (used_of (taken_as t (uris_of v))))) e
  plain-ends v f q =
      direct-ends v (start table.cats) (state-start table h.well-formed)
      (f ∙ ap (λ (x : State). Direct x 0) (sym (coded-start table table.cats))) q
