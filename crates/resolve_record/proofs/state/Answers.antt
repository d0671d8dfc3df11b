use Rattle.std.proofs.Common.{ap, sym, arith}
use Rattle.node_step.specs.declared.Progress.{Progress}
use Rattle.node_step.specs.declared.Status.TheVariants.{Open}
use Rattle.base_lists.proofs.Tabulated.{tabulate-entries}
use Rattle.resolve_record.specs.Coded.{progress_at}
use Rattle.resolve_record.proofs.state.Goals as goal

abbrev blank : Progress
blank = record { status = Open }

pub returns : goal.returns
returns c =
    ap (λ l. record { signal = c.args.carried.signal; categories = l })
    (sym (tabulate-entries blank c.map.result (progress_at c.args.carried.status) 8 c.map.ensures.items.long
    (λ k h. let e = c.map.ensures.items.at k 0 blank h in grind (arith, e.2))))
