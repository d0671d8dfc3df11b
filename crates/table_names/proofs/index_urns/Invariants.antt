use Rattle.base_numbers.specs.Numbers.{most_table_urns}
use Rattle.base_lists.specs.Cuts.{stretch}
use Rattle.base_lists.specs.Tests.{all}
use Rattle.base_lists.specs.Lists.{tabulate}
use Rattle.table_names.proofs.Indexing.{Rest}
use mathlib.Core.Path.{◌≡◌}
use mathlib.Core.Bool.{true}
use lib.ListN.{length}
use Rattle.table_names.specs.Categories.{is_listed, names_in, Fits, Indexed}
use Rattle.table_names.proofs.index_urns.Given as goal

abbrev pub invariant-loop-i : goal.invariant-loop-i
invariant-loop-i l = (length l.at ≡ most_table_urns) × (length l.len ≡ most_table_urns) × (all (is_listed (names_in l.t l.name_at l.name_len l.n)) (tabulate (stretch l.t l.initial.at l.initial.len) l.i)
    ≡ true) × Rest l.i l.at l.initial.at × Rest l.i l.len l.initial.len
    × (Fits l.t l.n l.m l.initial.category → (length l.category ≡ most_table_urns) × Indexed l.t (names_in l.t l.name_at l.name_len l.n) l.initial.at l.initial.len l.i l.category l.at l.len)
