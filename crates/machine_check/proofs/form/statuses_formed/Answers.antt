use mathlib.Core.Path.{refl, sym, ◌∙◌}
use native.Mathlib.Omega.{arith}
use Rattle.base_lists.proofs.Below.{all-stop, all_more, all_done}
use Rattle.base_lists.specs.Lists.{all_below}
use Rattle.node_step.specs.StatusByte.{fits_by}
use Rattle.machine_check.proofs.ImageLaws.{test-is}
use Rattle.machine_check.proofs.form.statuses_formed.Goals as goal

pub loop-c-init : goal.loop-c-init
unfolding all_below
loop-c-init c = refl

pub returns-then-not-fits : goal.returns-then-not-fits
returns-then-not-fits c = sym (all-stop _ _ c.loop-c.c c.loop-c-test.true
    (sym (test-is c.args.im.now c.args.categories c.args.j c.requires.2 (fits_by c.args.d.now.rows c.args.d.now.parent c.args.d.now.inner
    c.args.d.now.category c.args.d.now.nodes) c.requires.3 c.loop-c.c c.byte-b.ensures c.fits.ensures) ∙ c.if-not-fits.true))

pub loop-c-preserved : goal.loop-c-preserved
loop-c-preserved c = all_more _ c.loop-c.c c.loop-c.invariant
    (sym (test-is c.args.im.now c.args.categories c.args.j c.requires.2 (fits_by c.args.d.now.rows c.args.d.now.parent c.args.d.now.inner
    c.args.d.now.category c.args.d.now.nodes) c.requires.3 c.loop-c.c c.byte-b.ensures c.fits.ensures) ∙ c.if-not-fits.false)

pub returns : goal.returns
returns c = all_done _ _ c.loop-c.c (omega arith) (omega arith) c.loop-c.invariant
