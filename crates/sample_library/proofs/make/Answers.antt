use Rattle.table_sections.proofs.Readings.{passed-on}
use Rattle.sample_library.proofs.WholeValue.{made-refused, made-short, made-whole}
use Rattle.sample_library.proofs.make.Goals as goal

pub returns-in_err-d : goal.returns-in_err-d
returns-in_err-d c = rw (passed-on c.from_residual.result c.from_residual.ensures) (made-refused _ _ _ _ c.in_err-d.ensures)

pub returns-then-buf-lt-SAMPLE_ROOM : goal.returns-then-buf-lt-SAMPLE_ROOM
returns-then-buf-lt-SAMPLE_ROOM c = made-short _ _ _ c.in_ok-d.ensures.refusal c.if-buf-lt-SAMPLE_ROOM.true

pub returns : goal.returns
returns c = made-whole _ _ _ c.in_ok-d.ensures.refusal c.if-buf-lt-SAMPLE_ROOM.false c.entries.ensures
