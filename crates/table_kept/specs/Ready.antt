-- What the search asks of a decoded table, and what is told of a question. Only private functions promise this.
use Rattle.std.specs.Prelude.{ℕ, ◌≡◌, List, Result, Ok, Err}
use Rattle.base_numbers.specs.Refusals.{refusal_number}
use Rattle.base_numbers.specs.declared.refusal.Refusal.{Refusal}
use Rattle.table_decode.specs.Tables.{table_refusal, table_of}
use Rattle.table_decode.specs.Decoded.{Holds}
use Rattle.node_search.specs.declared.decoded.Decoded.{Decoded}
use Rattle.table_kept.specs.declared.kept.Kept.{Kept}
use Rattle.table_kept.specs.declared.rung.Rung.{Rung}
use Rattle.table_kept.specs.Answers.{refused_kept, refused_rung}

-- it is the decoding of well-formed bytes
pub record Ready (d : Decoded) : Type 0 where
  pub bytes : List ℕ
  pub formed : table_refusal bytes ≡ 0
  pub holds : Holds bytes (table_of bytes) d

-- what is told of a question, as the answer with its number
abbrev pub told_kept : Result Kept Refusal → Kept
told_kept (Ok x) = x
told_kept (Err r) = refused_kept (refusal_number r)

abbrev pub told_rung : Result Rung Refusal → Rung
told_rung (Ok x) = x
told_rung (Err r) = refused_rung (refusal_number r)
