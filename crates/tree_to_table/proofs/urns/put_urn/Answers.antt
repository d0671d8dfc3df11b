use native.Mathlib.Omega.{arith}
use mathlib.Core.Path.{◌∙◌}
use Rattle.base_lists.proofs.Numbers.{one_byte}
use Rattle.node_search.proofs.TextLaws.{text_in_lem}
use Rattle.tree_bytes.proofs.Laying.{puts_of}
use Rattle.tree_to_table.proofs.Ancestry.{puts-urn}
use Rattle.tree_to_table.proofs.urns.put_urn.Goals as goal

pub put_path-requires : goal.put_path-requires
put_path-requires c = let F = puts_of c.byte.ensures.wrote (omega (arith, c.requires.5)) in
    let H = puts_of c.all.ensures.wrote (omega (arith, c.text_at.ensures.short, F.end, c.requires.5)) in
    (c.requires.4, omega (arith, c.text_at.ensures.short, F.end, H.end, c.requires.5))

pub returns : goal.returns
returns c = let s = c.args.d.now.sections in
    let F = puts_of c.byte.ensures.wrote (omega (arith, c.requires.5)) in
    let H = puts_of c.all.ensures.wrote (omega (arith, c.text_at.ensures.short, F.end, c.requires.5)) in record {
      same_reference = c.put_path.ensures.same_reference ∙ c.all.ensures.same_reference ∙ c.byte.ensures.same_reference;
      puts = puts-urn c.args.t.now s.name_at s.name_len s.category s.parent s.at s.len
          c.args.d.now.size c.args.d.now.depth c.args.k (one_byte c.small.ensures (omega (arith, c.requires.3))) c.from-c.ensures
          (text_in_lem _ _ _ _ _ c.text_at.ensures.result_value (omega (arith, c.from-c.ensures, c.requires.2))) F H c.put_path.ensures.puts;
      upper_bound = omega (arith, F.end, H.end, c.text_at.ensures.short, c.put_path.ensures.upper_bound);
    }
