use Rattle.std.proofs.Common.{ℕ, List, [], get_or, ◌+◌, length, drop, arith, ap, ap₂, sym, ◌∙◌, length-append}
use lib.Seq.{length-sets}
use Rattle.std.proofs.lemmas.List.Edits.{sets}
use Rattle.sample_library.specs.Written.{in_row}
use Rattle.sample_library.proofs.WriteLaws.{row-next, row-end, sets-append}
use Rattle.sample_library.proofs.entry.put.Goals as goal

pub put_one-end-requires : goal.put_one-end-requires
put_one-end-requires c =
    let inv = c.loop-s.invariant in
    let next = row-next c.args.texts.now c.loop-s.s-index (record { ref_ptr = (0, 0); now = [] }) c.loop-s-test.true in
    let rest = in_row (drop (c.loop-s.s-index + 1) c.args.texts.now) in
    omega (arith, inv.0, inv.1, ap length next, length-append (get_or c.args.texts.now c.loop-s.s-index (record { ref_ptr = (0, 0); now = [] })).now rest, c.requires)

pub loop-s-preserved : goal.loop-s-preserved
loop-s-preserved c =
    let inv = c.loop-s.invariant in
    let one = c.put_one-end.ensures in
    let item = (get_or c.args.texts.now c.loop-s.s-index (record { ref_ptr = (0, 0); now = [] })).now in
    let rest = in_row (drop (c.loop-s.s-index + 1) c.args.texts.now) in
    let next = row-next c.args.texts.now c.loop-s.s-index (record { ref_ptr = (0, 0); now = [] }) c.loop-s-test.true in (
      ap length one.1 ∙ length-sets c.loop-s.buf c.loop-s.end item ∙ inv.0,
      omega (arith, inv.1, one.0, ap length next, length-append (get_or c.args.texts.now c.loop-s.s-index (record { ref_ptr = (0, 0); now = [] })).now rest),
      inv.2 ∙ ap (sets c.loop-s.buf c.loop-s.end) next ∙ sets-append c.loop-s.buf c.loop-s.end item rest
          ∙ ap₂ (λ (b : List ℕ) (k : ℕ). sets b k rest) (sym one.1) (sym one.0),
    )

pub returns : goal.returns
returns c =
    let inv = c.loop-s.invariant in
    let none = row-end c.args.texts.now c.loop-s.s-index c.loop-s-test.false in
    (omega (arith, inv.1, ap length none), sym (inv.2 ∙ ap (sets c.loop-s.buf c.loop-s.end) none))
