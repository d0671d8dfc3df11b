-- Parts of a line.
-- Assumes nothing.
use Rattle.std.specs.Prelude.{ℕ, zero, suc, List}
use Rattle.base_lists.specs.Cuts.{up_to, past}

-- part k, with an m after each; empty if there is none
unfoldable pub part_of : ℕ → ℕ → List ℕ → List ℕ
part_of m zero l = up_to m l
part_of m (suc k) l = part_of m k (past m l)
