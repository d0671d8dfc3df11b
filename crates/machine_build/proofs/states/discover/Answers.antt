use native.Mathlib.Omega.{arith}
use Prim.Native.Nat.{ℕ}
use mathlib.Core.Path.{refl}
use Rattle.std.proofs.lemmas.Result.{err_from_is_err_and}
use lib.ListN.{length-replicate}
use Rattle.base_numbers.specs.Numbers.{most_states, most_symbols}
use Rattle.machine_symbols.specs.Steps.{next_state, begin}
use Rattle.machine_build.specs.States.{found}
use Rattle.machine_build.proofs.DiscoverLaws.{discovering-start, discovering-over, discovering-more, discovering-end}
use Rattle.machine_build.proofs.states.discover.Goals as goal

pub loop-i-init : goal.loop-i-init
loop-i-init c = (
  discovering-start (next_state c.args.d.now.rows c.args.d.now.parent c.args.d.now.inner c.args.d.now.signals c.args.symbols.now.bytes) c.args.categories c.args.count
      c.args.part.now _ (length-replicate most_states begin) (length-replicate {A = ℕ} 4096 0) refl refl,
  length-replicate {A = ℕ} most_symbols 0,
)

pub returns-in_err-turn : goal.returns-in_err-turn
returns-in_err-turn c = let next = next_state c.args.d.now.rows c.args.d.now.parent c.args.d.now.inner c.args.d.now.signals c.args.symbols.now.bytes in
    let p = err_from_is_err_and c.from_residual.result c.from_residual.ensures.1 in
    rw (p.1, p.2) (discovering-over next c.args.categories c.args.count c.args.part.now c.loop-i.part c.loop-i.states c.loop-i.i c.loop-i.invariant.0 c.loop-i-test.true
    (c.in_err-turn.ensures.turned (found next c.args.count c.loop-i.i) c.loop-i.invariant.0.kept))

pub loop-i-preserved : goal.loop-i-preserved
loop-i-preserved c = let next = next_state c.args.d.now.rows c.args.d.now.parent c.args.d.now.inner c.args.d.now.signals c.args.symbols.now.bytes in (
  discovering-more next c.args.categories c.args.count c.args.part.now c.loop-i.part c.loop-i.states c.loop-i.i c.loop-i.invariant.0 c.loop-i-test.true
      c.turn.new.numbers (c.in_ok-turn.ensures.turned (found next c.args.count c.loop-i.i) c.loop-i.invariant.0.kept)
      (omega (arith, c.turn.ensures.upper_bound.1, c.requires.1)) c.write_state.new.part c.write_state.ensures,
  c.turn.ensures.upper_bound.1,
)

pub returns : goal.returns
returns c = discovering-end (next_state c.args.d.now.rows c.args.d.now.parent c.args.d.now.inner c.args.d.now.signals c.args.symbols.now.bytes) c.args.categories c.args.count
    c.args.part.now c.loop-i.part c.loop-i.states c.loop-i.i c.loop-i.invariant.0 c.loop-i-test.false
