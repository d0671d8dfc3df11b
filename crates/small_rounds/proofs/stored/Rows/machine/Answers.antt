use Rattle.std.proofs.Common.{sym, ◌∙◌}
use Rattle.small_rounds.proofs.TestLaws.{stored_of}
use Rattle.small_rounds.proofs.stored.Rows.machine.Goals as goal

pub invariant_of-result : goal.invariant_of-result
invariant_of-result c = record {
  stored = stored_of c.args.self.bytes.now c.args.self.states c.args.self.head c.args.self.symbols (sym c.is_stored.ensures ∙ c.if-is_stored.true);
}
