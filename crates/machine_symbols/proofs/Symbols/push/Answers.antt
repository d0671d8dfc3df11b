use Rattle.machine_symbols.proofs.SymbolLaws.{listed-full, listed_more}
use Rattle.machine_symbols.proofs.Symbols.push.Goals as goal

pub returns-then-self-lt-MOST_SYMBOLS-clause-by_index : goal.returns-then-self-lt-MOST_SYMBOLS-clause-by_index
returns-then-self-lt-MOST_SYMBOLS-clause-by_index c = λ l v. listed_more _ _ l v _ _ _ c.if-self-lt-MOST_SYMBOLS.true

pub returns-else-self-lt-MOST_SYMBOLS-clause-by_index : goal.returns-else-self-lt-MOST_SYMBOLS-clause-by_index
returns-else-self-lt-MOST_SYMBOLS-clause-by_index c = λ l v. listed-full _ _ l v _ _ _ c.if-self-lt-MOST_SYMBOLS.false c.requires
