use Rattle.tree_bytes.proofs.Laying.{byte-in, byte_past, byte-stays}
use Rattle.tree_bytes.proofs.put.put_byte.Goals as goal

pub returns-then-at-buf : goal.returns-then-at-buf
returns-then-at-buf c = byte-in _ _ _ c.if-at-buf.true

pub returns-then-at-lt-FARTHEST : goal.returns-then-at-lt-FARTHEST
returns-then-at-lt-FARTHEST c = byte_past _ _ _ c.if-at-buf.false c.if-at-lt-FARTHEST.true

pub returns-else-at-lt-FARTHEST : goal.returns-else-at-lt-FARTHEST
returns-else-at-lt-FARTHEST c = byte-stays _ _ _ c.if-at-buf.false c.if-at-lt-FARTHEST.false
