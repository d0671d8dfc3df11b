use mathlib.Core.Path.{refl}
use Prim.Native.Nat.{◌-◌}
use native.Mathlib.Omega.{arith}
use Rattle.machine_symbols.proofs.SymbolLaws.{index-none, index-put, index-skip, index-all, slot-of}
use Rattle.machine_symbols.proofs.Symbols.slots.Goals as goal

pub loop-k-init : goal.loop-k-init
loop-k-init c = index-none _ _ _ refl c.min-k.ensures

pub loop-k-preserved-then-s-lt-SLOTS : goal.loop-k-preserved-then-s-lt-SLOTS
loop-k-preserved-then-s-lt-SLOTS c = index-put _ _ _ c.loop-k.invariant c.loop-k-test.true (omega arith) (slot-of c.args.self.now.bytes (c.loop-k.k - 1) c.at.ensures c.slot-s.ensures)

pub loop-k-preserved : goal.loop-k-preserved
loop-k-preserved c = index-skip _ _ _ c.loop-k.invariant c.loop-k-test.true (omega arith) (slot-of c.args.self.now.bytes (c.loop-k.k - 1) c.at.ensures c.slot-s.ensures) c.if-s-lt-SLOTS.false

pub returns : goal.returns
returns c = index-all _ _ _ c.loop-k.invariant c.loop-k-test.false
