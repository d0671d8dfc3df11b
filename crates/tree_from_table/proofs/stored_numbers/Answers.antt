use lib.ListN.{replicate}
use native.Mathlib.Omega.{arith}
use mathlib.Core.Path.{refl, subst}
use Rattle.base_numbers.specs.Numbers.{most_nodes, most_table_urns}
use Rattle.std.specs.Prelude.{Result}
use Rattle.base_numbers.specs.declared.refusal.Refusal.{Refusal}
use Rattle.table_sections.specs.Held.{Reads, ReadAs}
use Rattle.table_sections.specs.declared.Counts.{Counts}
use Rattle.table_names.specs.Categories.{Fits}
use Rattle.table_sections.proofs.Padding.{clear}
use Rattle.tree_from_table.proofs.Numbering.{read-well, short, all_listed, numbers-stored}
use Rattle.table_names.proofs.RoomLaws.{listed_in, indexed-in}
use Rattle.tree_from_table.proofs.stored_numbers.Goals as goal

pub unwrap-l-requires : goal.unwrap-l-requires
unwrap-l-requires c = read-well c.args.t.now _ _ _ _ _ _ (c.read-read.ensures (clear 8) (clear 8) (refl, refl, omega arith)) c.requires

pub returns : goal.returns
returns c = let t = c.args.t.now in
    let l = c.unwrap-l.result in
    let h : ReadAs t c.read-read.new.name_at c.read-read.new.name_len c.read-read.new.at c.read-read.new.len c.read-read.new.signal l =
    subst (λ (r : Result Counts Refusal). Reads t c.read-read.new.name_at c.read-read.new.name_len c.read-read.new.at c.read-read.new.len c.read-read.new.signal r)
    c.unwrap-l.ensures (c.read-read.ensures (clear 8) (clear 8) (refl, refl, omega arith)) in
    let f : Fits t l.categories l.urns (replicate most_table_urns 0) = (short t _ _ _ _ _ l h c.requires, h.few-categories, h.few-urns, refl) in
    let X = indexed-in _ _ _ _ _ _ _ f.1
    (c.index_urns.ensures.indexed f (all_listed t _ _ _ _ _ l h c.requires (listed_in _ _ _ _ _ _ _ f.1 c.index_urns.ensures.value f.2))) in record {
      result_after = numbers-stored t _ _ _ _ c.read-read.new.signal l h c.requires X _ _ _ _ _ _ (c.add_all.ensures h.few-urns (
        omega arith,
        clear most_nodes,
        clear most_nodes,
        clear most_nodes,
        clear most_nodes,
      ));
      upper_bound = h.few-urns;
    }
