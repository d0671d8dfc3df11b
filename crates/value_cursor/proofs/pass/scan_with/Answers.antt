use mathlib.Core.Path.{ap, sym, ◌∙◌}
use native.Mathlib.Omega.{arith}
use Rattle.std.specs.Prelude.{Some}
use mathlib.Core.Path.{◌≡◌, refl}
use Prim.Native.Nat.{◌+◌}
use Rattle.value_cursor.specs.Reading.{reading_from, reading_of}
use Rattle.value_cursor.specs.Pass.{summary, scan_of}
use Rattle.value_cursor.specs.declared.pass.Scan.{Scan}
use Rattle.value_cursor.proofs.PassLaws.{scan-more, summary-last}
use Rattle.value_cursor.proofs.ReadingLaws.{reading-last, reading-more, reading-none}
use Rattle.value_cursor.proofs.pass.scan_with.Goals as goal

pub loop-found-smaller : goal.loop-found-smaller
loop-found-smaller c = omega (arith, reading-more c.args.v.now c.loop-found.c.at _ c.entry_with.ensures _ _ (c.in_ok-found.was ∙ ap Some c.in-More.is))

pub loop-found-preserved : goal.loop-found-preserved
loop-found-preserved c =
    let s = c.args.v.now in
    let k = c.args.k in
    let l = c.loop-found in
    let m = reading-more c.args.v.now c.loop-found.c.at _ c.entry_with.ensures _ _ (c.in_ok-found.was ∙ ap Some c.in-More.is) in
    let n : c.note-t.result.entries ≡ l.t.entries + 1 = ap (λ (x : Scan). x.entries) c.note-t.ensures in (
      scan-more k l.t c.note-t.result c.in-More.span (scan_of s k) (reading_from s l.c.at) (reading_from s c.in-More.next.at) l.invariant.0 m.0 c.note-t.ensures,
      omega arith,
      m.2,
    )

pub returns-in-Last : goal.returns-in-Last
returns-in-Last c = ap Some c.note.ensures
    ∙ sym (c.loop-found.invariant.0
    ∙ ap (summary c.args.k c.loop-found.t) (reading-last c.args.v.now c.loop-found.c.at _ c.entry_with.ensures _ (c.in_ok-found.was ∙ ap Some c.in-Last.is)).0
    ∙ summary-last c.args.k c.loop-found.t _)

pub returns-in_err-found : goal.returns-in_err-found
returns-in_err-found c = c.from_residual.ensures
    ∙ sym (c.loop-found.invariant.0 ∙ ap (summary c.args.k c.loop-found.t) (reading-none c.args.v.now c.loop-found.c.at _ c.entry_with.ensures c.in_err-found.was))

pub loop-found-init : goal.loop-found-init
unfolding scan_of reading_of
loop-found-init c = (refl, omega arith, omega arith)
