-- The rows of the available signals.
use Rattle.std.specs.Prelude.{ℕ, Bool, cond, List, get_or}
use Rattle.base_numbers.specs.Numbers.{most_signals}
use Rattle.base_lists.specs.Lists.{tabulate}
use Rattle.theory_resolution.specs.Available.{counts}
use Rattle.node_search.specs.declared.decoded.Decoded.{Decoded}

-- the largest number of eight bytes: no signal's row, since no node has number 255
abbrev pub no_row : ℕ
no_row = 18446744073709551615

-- the row of signal s if it is available
abbrev pub row_if : (ℕ → Bool) → List ℕ → ℕ → ℕ
row_if on rows s = cond (counts on s) (get_or rows s 0) no_row

-- the rows of the available signals, each where it was
abbrev pub rows_among : (ℕ → Bool) → List ℕ → List ℕ
rows_among on rows = tabulate (row_if on rows) most_signals

-- the decoded table with these rows
abbrev pub among : List ℕ → Decoded → Decoded
among rows d =
    record {
      categories = d.categories;
      signals = d.signals;
      nodes = d.nodes;
      name_at = d.name_at;
      name_len = d.name_len;
      category = d.category;
      parent = d.parent;
      at = d.at;
      len = d.len;
      shared = d.shared;
      inner = d.inner;
      rows = rows;
    }
