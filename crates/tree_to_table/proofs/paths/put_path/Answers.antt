use native.Mathlib.Omega.{arith}
use Prim.Native.Nat.{ℕ}
use mathlib.Core.Path.{refl, ap, ◌∙◌}
use Rattle.tree_to_table.specs.Urns.{part_bytes, last_of}
use Rattle.tree_bytes.proofs.Laying.{each_start, each_next, each-end, puts_of}
use Rattle.tree_to_table.proofs.Ancestry.{puts-part}
use Rattle.tree_to_table.proofs.paths.put_path.Goals as goal

pub loop-d-init : goal.loop-d-init
loop-d-init c = let s = c.args.s.now in
    (omega arith, refl, each_start (part_bytes c.args.t.now s.parent s.at s.len c.args.k c.args.n) (λ (d : ℕ). d) _ _)

pub loop-d-preserved : goal.loop-d-preserved
loop-d-preserved c = let s = c.args.s.now in
    let t = c.args.t.now in
    let l = c.loop-d.invariant in
    let F = puts_of c.byte.ensures.wrote (omega (arith, l.0, c.requires.0, c.requires.1)) in
    let H = puts_of c.all.ensures.wrote (omega (arith, l.0, c.requires.0, c.requires.1, F.end, c.last_of.ensures.short)) in (
      omega (arith, l.0, F.end, H.end, c.last_of.ensures.short),
      c.all.ensures.same_reference ∙ c.byte.ensures.same_reference ∙ l.1,
      each_next (part_bytes t s.parent s.at s.len c.args.k c.args.n) (λ (d : ℕ). d) c.loop-d.d l.2
          (puts-part F H (c.last_of.ensures.result_value ∙ ap (last_of t s.at s.len) c.ancestor-a.ensures)) refl,
    )

pub returns : goal.returns
returns c = let s = c.args.s.now in
    let n = c.args.n in
    let inv = c.loop-d.invariant in record {
      same_reference = inv.1;
      puts = each-end (part_bytes c.args.t.now s.parent s.at s.len c.args.k n) (λ (d : ℕ). d) c.loop-d.d n c.loop-d.auto.d-end c.loop-d-test.false inv.2;
      upper_bound = omega (arith, inv.0, c.loop-d.auto.d-end, c.requires.0);
    }
