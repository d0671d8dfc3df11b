-- What is known while entries are written. Only private functions promise this.
use Rattle.std.specs.Prelude.{ℕ, ◌≡◌, List, map}
use denote.Ref.{Bor}
use Rattle.base_lists.specs.Lists.{joined}
use Rattle.table_decode.specs.Tables.{table_refusal, table_of}
use Rattle.table_decode.specs.Decoded.{Holds}
use Rattle.node_search.specs.declared.decoded.Decoded.{Decoded}

-- the table is well-formed, and decoded
pub record Ready (t : List ℕ) (d : Decoded) : Type 0 where
  pub formed : table_refusal t ≡ 0
  pub holds : Holds t (table_of t) d

-- the bytes of some texts, one text after the other
abbrev pub in_row : List (Bor (List ℕ)) → List ℕ
in_row texts = joined (map (λ s. s.now) texts)
