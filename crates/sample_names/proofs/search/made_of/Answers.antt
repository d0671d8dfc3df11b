use Rattle.std.proofs.Common.{◌+◌, length, ap, ◌∙◌, sym}
use Rattle.std.proofs.lemmas.Bool.{false≢true}
use borrow.Author.Tests.{eqb-true, eqb-false, le-ltb}
use Rattle.base_lists.proofs.Cuts.{part_end}
use Rattle.theory_resolution.specs.Names.{same_name}
use Rattle.sample_names.proofs.SearchLaws.{made-short, made_other, made-byte, made-rest}
use Rattle.sample_names.proofs.search.made_of.Goals as goal
use Rattle.sample_names.proofs.search.made_of.Goals.{then-k-w, else-k-w, then-same, else-same}

pub returns-then-w-k-eq58 : goal.returns-then-w-k-eq58
returns-then-w-k-eq58 c =
    let p = c.args.p.now in
    let z = c.args.z.now in
    let s = c.args.w.now in
    elim c.if-k-w.branch [
      | then-k-w w ↦ elim c.if-same.branch [
        | then-same v ↦
            made-rest p z s w.if-k-w.true w.same.ensures (sym w.value-is ∙ v.if-same.true) (eqb-true _ _ (sym v.value-is ∙ c.if-w-k-eq58.true))
            (c.same-then-w-k-eq58.ensures ∙ ap (same_name z) (part_end s (length p + 1)))
        | else-same v ↦ absurd (false≢true (sym v.if-same.false ∙ sym v.value-is ∙ c.if-w-k-eq58.true))
      ]
      | else-k-w w ↦ elim c.if-same.branch [
        | then-same v ↦ absurd (false≢true (sym (le-ltb _ _ w.if-k-w.false) ∙ sym w.value-is ∙ v.if-same.true))
        | else-same v ↦ absurd (false≢true (sym v.if-same.false ∙ sym v.value-is ∙ c.if-w-k-eq58.true))
      ]
    ]

pub returns-else-w-k-eq58 : goal.returns-else-w-k-eq58
returns-else-w-k-eq58 c =
    let p = c.args.p.now in
    let z = c.args.z.now in
    let s = c.args.w.now in
    c.if-w-k-eq58.false ∙ elim c.if-k-w.branch [
      | then-k-w w ↦ elim c.if-same.branch [
        | then-same v ↦
            made-byte p z s w.if-k-w.true w.same.ensures (sym w.value-is ∙ v.if-same.true) (eqb-false _ _ (sym v.value-is ∙ c.if-w-k-eq58.false))
        | else-same v ↦ made_other p z s w.if-k-w.true w.same.ensures (sym w.value-is ∙ v.if-same.false)
      ]
      | else-k-w w ↦ made-short p z s w.if-k-w.false
    ]
