-- The names of categories and the URNs of nodes that the arrays of a decoded table hold, whatever they are.
use Rattle.std.specs.Prelude.{ℕ, min, List, get_or}
use Rattle.base_numbers.specs.Numbers.{most_categories, most_nodes}
use Rattle.base_lists.specs.Cuts.{stretch}
use Rattle.base_lists.specs.Lists.{tabulate}
use Rattle.theory_resolution.specs.Names.{Name}
use Rattle.theory_resolution.specs.Table.{Urn, urn}
use Rattle.base_text.specs.Text.{fields}

-- the names of the first m categories, 8 at most
unfoldable pub held_names : (t at len : List ℕ) → ℕ → List Name
held_names t at len m = tabulate (stretch t at len) (min m most_categories)

-- the URN of the node at index i
abbrev pub held_urn : (t category at len : List ℕ) → ℕ → Urn
held_urn t category at len i = urn (get_or category i 0) (fields 58 (stretch t at len i))

-- the URNs of the first m nodes, 64 at most
unfoldable pub held_urns : (t category at len : List ℕ) → ℕ → List Urn
held_urns t category at len m = tabulate (held_urn t category at len) (min m most_nodes)
