use Rattle.machine_symbols.proofs.SymbolLaws.{triple-is}
use Rattle.machine_symbols.proofs.Lent.is.Goals as goal

pub returns : goal.returns
returns c = triple-is _ c.args.s c.args.k c.symbol.ensures c.eq.ensures
