use Rattle.std.proofs.Common.{refl, ◌∙◌, arith}
use Rattle.base_lists.proofs.Over.{laid-all}
use Rattle.sample_library.proofs.WriteLaws.{put_whole}
use Rattle.sample_library.proofs.entry.put_one.Goals as goal

pub returns : goal.returns
returns c = (refl, put_whole _ _ _ c.requires (c.copy.ensures ∙ laid-all _ _ (omega arith)))
