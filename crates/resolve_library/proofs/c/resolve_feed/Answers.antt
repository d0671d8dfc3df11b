use mathlib.Core.Path.{ap, ◌∙◌}
use Rattle.resolve_record.specs.Record.{carried_bytes}
use Rattle.resolve_record.specs.declared.Carried.{Carried}
use Rattle.resolve_library.specs.Feed.{feed_of}
use Rattle.resolve_library.specs.declared.Fed.{Fed}
use Rattle.resolve_library.proofs.c.resolve_feed.Goals as goal

pub returns : goal.returns
returns c = let e = c.feed-f.ensures
    ∙ ap (λ (x : Carried). feed_of c.args.t.now x
    c.args.v.now) c.load.ensures in record { value = ap (λ (x : Fed). x.answer) e; b_after = c.store.ensures ∙ ap (λ (x : Fed). carried_bytes x.carried) e }
