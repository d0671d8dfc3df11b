use native.Mathlib.Omega.{arith}
use Prim.Native.Nat.{ℕ, ◌-◌}
use mathlib.Core.Bool.{Bool}
use mathlib.Core.Path.{◌≡◌, refl, ◌∙◌}
use lib.ListN.{get_or}
use lib.Dec.{leb}
use Rattle.std.proofs.Common.{rules}
use Rattle.std.specs.List.{list_all, range_with_len}
use Rattle.std.proofs.lemmas.Iterator.{YieldsList-from_range}
use Rattle.std.proofs.lemmas.Iterator.Search.{all_from_yields_List}
use Rattle.tree_nodes.proofs.Ranges.{all_from_zero}
use Rattle.tree_decode.proofs.sizes.all_within.Goals as goal

pub returns : goal.returns
returns c = let s = c.args.s.now in
    let n = s.counts.numbers in
    let p : ℕ → Bool = λ i. leb (get_or c.args.out.now (get_or s.number i 0 - 1) 0) c.args.most in
    let e : c.all.result ≡ list_all p (range_with_len 0 n) =
    all_from_yields_List p _ _ _ c.all.ensures.ran (YieldsList-from_range 0 n n refl (omega arith)) (λ x b q k. search rules) in
    e ∙ all_from_zero p (λ k. leb (get_or c.args.out.now (k - 1) 0) c.args.most) (λ i. get_or s.number i 0) n (λ i h. refl)
