use mathlib.Core.Path.{◌≡◌, ap, ◌∙◌}
use mathlib.Core.List.{[], ◌∷◌, ◌++◌}
use Prim.Native.Nat.{◌*◌, ◌/◌, ◌%◌}
use native.Mathlib.Omega.{arith}
use lib.ListN.{length}
use lib.Seq.{length-take-le}
use Rattle.machine_build.proofs.WriteLaws.{head-put}
use Rattle.machine_build.proofs.put_head.Goals as goal

pub returns : goal.returns
returns c =
    let l : length c.copy_from_slice.new.self ≡ 3 * c.args.count = ap length c.copy_from_slice.ensures.after ∙ length-take-le (3 * c.args.count) c.args.symbols.now.bytes (omega arith) in
    head-put c.args.head.now c.copy_from_slice.new.self c.args.count _ _ (omega (arith, c.requires.2)) (omega arith) (omega arith) (omega arith)
    ∙ ap (λ y. c.args.count ∷ y ++ c.args.n % 256 ∷ c.args.n / 256 ∷ []) c.copy_from_slice.ensures.after
