use Rattle.std.proofs.Common.{ap, sym, arith}
use Rattle.node_step.specs.declared.Status.TheVariants.{Open}
use Rattle.base_lists.proofs.Tabulated.{tabulate-entries}
use Rattle.resolve_record.specs.Coded.{byte_at}
use Rattle.resolve_record.proofs.after.Goals as goal

pub returns : goal.returns
returns c =
    ap (λ l. record { signal = c.args.st.signal; status = l; values = c.args.values })
    (sym (tabulate-entries 0 c.map.result (byte_at c.args.st.categories) 8 c.map.ensures.items.long
    (λ k h. let e = c.map.ensures.items.at k (record { status = Open }) 0 h in grind (arith, e.2))))
