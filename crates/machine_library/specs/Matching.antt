-- What a URI is to a stored table, as `match_urn` answers it.
use Rattle.std.specs.Prelude.{ℕ, cond, List, eqb, Option, Some, None}
use Rattle.node_search.specs.Uses.{used_urn, use_of}
use Rattle.node_search.specs.declared.uses.Used.{Used}
use Rattle.table_decode.specs.Tables.{table_refusal, table_of, category_names}
use Rattle.machine_library.specs.declared.matching.Match.{Match}

-- the answer to a refused table: all zero but the number
abbrev pub refused_match : ℕ → Match
refused_match k = record { refusal = k; used = 0; category = 0; node = 0; whole = 0; compared = 0 }

-- the answer where the table is well-formed: all zero if the URI is skipped
abbrev pub match_use : Option Used → Match
match_use None = record { refusal = 0; used = 0; category = 0; node = 0; whole = 0; compared = 0 }
match_use (Some x) =
    record { refusal = 0; used = 1; category = x.category; node = x.node; whole = cond x.whole 1 0; compared = x.compared }

-- the answer to a table and a URI
unfoldable pub match_of : List ℕ → List ℕ → Match
match_of t uri =
    cond (eqb (table_refusal t) 0) (match_use (use_of (table_of t) (used_urn (category_names t) uri))) (refused_match (table_refusal t))
