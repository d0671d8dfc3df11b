use Rattle.std.proofs.Common.{ap, ◌∙◌, arith, length, ◌+◌, [], ◌∷◌, length-append}
use Rattle.std.proofs.lemmas.List.Edits.{sets}
use Rattle.base_lists.specs.Lists.{joined}
use Rattle.table_decode.specs.Tables.{category_names}
use Rattle.sample_names.proofs.SearchLaws.{foreign-held}
use Rattle.sample_library.proofs.WriteLaws.{foreign-row}
use Rattle.sample_library.proofs.entry.foreign_entry.Goals as goal

pub put-requires : goal.put-requires
unfolding joined
put-requires c = omega (arith, length-append c.text.result.now (58 ∷ 97 ∷ 62 ∷ []), c.text.ensures.short, c.requires.1)

pub returns : goal.returns
returns c =
    let row = foreign-row (category_names c.args.t.now) (c.text.ensures.text ∙ foreign-held _ _ _ _ _ c.foreign-z.ensures c.requires.0.holds.names) in
    (c.put.ensures.0 ∙ ap (λ l. c.args.at + length l) row, c.put.ensures.1 ∙ ap (sets c.args.buf.now c.args.at) row)
