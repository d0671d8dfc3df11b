-- The signal of one table alone, by how the value ended.
use Prim.Native.Nat.{ℕ}
use mathlib.Core.Path.{◌≡◌, ap}
use mathlib.Core.List.{List}
use Rattle.value_reader.specs.Value.{refusal_of}
use Rattle.table_decode.specs.Decoded.{DecodedAs}
use Rattle.node_search.specs.declared.decoded.Decoded.{Decoded}
use Rattle.resolve_run.specs.declared.Resolution.{Resolution}
use Rattle.resolve_run.specs.declared.run.Current.{Current}
use Rattle.resolve_run.specs.declared.answer.Ended.{Ended}
use Rattle.resolve_run.specs.declared.run.Current.TheVariants.{Direct}
use Rattle.resolve_run.specs.Run.{start_now, signal_now, ended_from}
use Rattle.resolve_run.proofs.AnswerLaws.{End}
use Rattle.resolve_run.proofs.AnswerLaws as ends
use Rattle.resolve_run.proofs.DirectLaws.{plain-ends}
use Rattle.resolve_pair.specs.Pair.{signal_in}

pub alone-right : (t : List ℕ) (d : Decoded) (v : List ℕ) {x : Current} {e : Ended} → DecodedAs t d → refusal_of v ≡ 0
    → x ≡ Direct start_now 0 → e ≡ ended_from t d x v → e.answer.signal ≡ signal_in t v
unfolding signal_now
alone-right t d v m accepted f q = by (plain-ends t d m.holds v f q)
  where
    by : {x : Current} {e : Ended} → End t v x e → e.answer.signal ≡ signal_now x
    by (ends.not_taken n a) = absurd (n accepted)
    by (ends.taken k l a) = ap (λ (r : Resolution). r.signal) a
