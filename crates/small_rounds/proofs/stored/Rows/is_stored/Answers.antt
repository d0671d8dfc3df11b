use Rattle.std.proofs.Common.{◌≡◌, false, ◌∙◌, sym}
use Rattle.small_rounds.proofs.TestLaws.{no-room, test-rest}
use Rattle.small_rounds.proofs.stored.Rows.is_stored.Goals as goal

pub returns-then-has_room : goal.returns-then-has_room
returns-then-has_room c =
    c.all_lead.ensures
    ∙ sym (test-rest c.args.self.bytes.now c.args.self.states c.args.self.head c.args.self.symbols (c.has_room.ensures.0 c.if-has_room.true))

pub returns-else-has_room : goal.returns-else-has_room
returns-else-has_room c =
    let e : c.has_room.result ≡ false = c.if-has_room.false in
    e ∙ no-room c.args.self.bytes.now c.args.self.states c.args.self.head c.args.self.symbols c.has_room.ensures e
