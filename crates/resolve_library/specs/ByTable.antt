-- The plain resolver by what is decoded, whether or not any table decodes so: the arrays are followed as they are.
use Rattle.std.specs.Prelude.{ℕ, cond, List, eqb, Result, Ok, Err}
use Rattle.base_numbers.specs.Refusals.{refusal_number}
use Rattle.base_numbers.specs.declared.refusal.Refusal.{Refusal}
use Rattle.value_reader.specs.Value.{refusal_of}
use Rattle.node_search.specs.declared.decoded.Decoded.{Decoded}
use Rattle.resolve_run.specs.declared.Resolution.{Resolution}
use Rattle.resolve_run.specs.declared.answer.Ended.{Ended}
use Rattle.resolve_run.specs.declared.run.Current.TheVariants.{Direct}
use Rattle.resolve_run.specs.Run.{start_now, tries_of, ended_from}
use Rattle.resolve_library.specs.Resolve.{refused, tried_as}
use Rattle.resolve_library.specs.declared.PlainResolution.{PlainResolution}

-- how direct resolution ends
abbrev pub ended_by : List ℕ → Decoded → List ℕ → Ended
ended_by t d v = ended_from t d (Direct start_now 0) v

-- its answer, with the tries
unfoldable pub tried_by : List ℕ → Decoded → List ℕ → PlainResolution
tried_by t d v = tried_as (ended_by t d v).answer (tries_of (ended_by t d v).last)

-- its answer alone
unfoldable pub accepted_by : List ℕ → Decoded → List ℕ → Resolution
accepted_by t d v = (ended_by t d v).answer

-- the same, or, where a refusal is decoded, the value's number, or else that one
unfoldable pub plain_by : List ℕ → Result Decoded Refusal → List ℕ → Resolution
plain_by t (Ok d) v = accepted_by t d v
plain_by t (Err r) v = refused (cond (eqb (refusal_of v) 0) (refusal_number r) (refusal_of v))
