-- Going through a value by the rows of the available signals comes to direct resolution among these signals.
use Prim.Native.Nat.{ℕ, ◌+◌}
use mathlib.Core.Path.{◌≡◌, refl, sym, ap, ◌∙◌}
use mathlib.Core.Bool.{Bool}
use mathlib.Core.List.{List, [], ◌∷◌, foldl}
use Rattle.value_reader.specs.Value.{uris_of}
use Rattle.theory_resolution.specs.Names.{same_parts}
use Rattle.theory_resolution.specs.Table.{Urn, Table}
use Rattle.theory_resolution.specs.Nodes.{nodes, number, deepest}
use Rattle.theory_resolution.specs.Direct.{State, start, step, used_of}
use Rattle.theory_resolution.specs.Available.{find_available, env_available, direct_available, AvailableState}
use Rattle.theory_resolution.proofs.Available.{available-valid, available-laws, available-start, available-step}
use Rattle.node_step.specs.Step.{coded}
use Rattle.node_step.specs.Tries.{tries_numbers}
use Rattle.node_step.specs.declared.State as code
use Rattle.node_step.proofs.Both.{step_by, coded-start}
use Rattle.table_decode.specs.Tables.{table_of}
use Rattle.table_decode.specs.Decoded.{Holds}
use Rattle.node_search.specs.declared.decoded.Decoded.{Decoded}
use Rattle.resolve_run.specs.declared.run.Current.{Current}
use Rattle.resolve_run.specs.declared.answer.Ended.{Ended}
use Rattle.resolve_run.specs.Answers.{taken_as}
use Rattle.resolve_run.specs.declared.run.Current.TheVariants.{Direct}
use Rattle.resolve_run.specs.Run.{start_now, moved, ended_from}
use Rattle.resolve_run.proofs.FoldLaws.{Reads, Steps, holds-reads}
use Rattle.resolve_run.proofs.AnswerLaws.{End, value-ends}
use Rattle.resolve_run.proofs.DirectLaws.{Counted, shown, begun}
use Rattle.resolve_available.specs.Rows.{rows_among, among}
use Rattle.resolve_available.proofs.RowLaws.{only-searched}

module _ (t : List ℕ) (d : Decoded) (h : Holds t (table_of t) d) (on : ℕ → Bool) where
  abbrev T : Table
  T = table_of t

  abbrev rows : List ℕ
  rows = rows_among on d.rows

  abbrev next : State → Urn → State
  next = step (env_available T on)

  -- one URN more, with the candidates that the search among these rows tries
  abbrev counts : Counted → Urn → Counted
  counts x u =
      record {
        at = next x.at u;
        count = x.count
            + tries_numbers rows d.parent d.signals (coded T x.at) u.cat
            (number (nodes T) u.cat (deepest (nodes T) u.cat u.path)) (same_parts (deepest (nodes T) u.cat u.path) u.path);
      }

  at-over : (us : List Urn) (x : Counted) → (foldl counts x us).at ≡ foldl next x.at us
  at-over [] x = refl
  at-over (u ∷ us) x = at-over us (counts x u)

  abbrev reads : Reads t T (among rows d)
  reads = record { uses = (holds-reads t T d h).uses; used = (holds-reads t T d h).used }

  run-steps : Steps t T (among rows d) reads (λ x. AvailableState T on x.at) counts (shown T)
  unfolding moved
  run-steps =
      record {
        moves = λ x u g w.
            ap (λ (s : code.State). Direct s (counts x u).count)
            (step_by d.rows d.parent d.inner d.signals T h.well-formed h.numbers h.inner (find_available T on)
            (available-laws T on h.well-formed) rows (only-searched on h.numbers) x.at
            (available-valid T on x.at g) u w.known);
        stays = λ x u g w. available-step T on h.well-formed x.at u g;
      }

  abbrev pub last : List ℕ → Counted
  last v = foldl counts (begun (start T.cats)) (used_of (taken_as t (uris_of v)))

  -- the state at the end is direct resolution's
  pub last-right : (v : List ℕ) → (last v).at ≡ direct_available T on (used_of (taken_as t (uris_of v)))
  last-right v = at-over (used_of (taken_as t (uris_of v))) (begun (start T.cats))

  -- the whole value, from signal 0 with every category open
  pub run-right : (v : List ℕ) {x : Current} → x ≡ Direct start_now 0 → {e : Ended} → e ≡ ended_from t (among rows d) x v → End t v (shown T (last v)) e
  run-right v f q =
      value-ends t T (among rows d) reads v (λ x. AvailableState T on x.at) counts (shown T) run-steps (begun (start T.cats))
      (available-start T on h.well-formed) refl
      (f ∙ ap (λ (s : code.State). Direct s 0) (sym (coded-start T T.cats))) q
