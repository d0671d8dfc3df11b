use Rattle.value_cursor.proofs.QuoteLaws.{quote-closed, quote-stray, quote-escape, quote-here}
use Rattle.value_cursor.proofs.cursor.Cursor.quoted_text.Goals as goal

pub returns-then-peek-eq92 : goal.returns-then-peek-eq92
returns-then-peek-eq92 c = quote-here _ _ c.peek.ensures c.if-peek-eq92.true c.escaped.ensures

pub returns-then-b-eq34 : goal.returns-then-b-eq34
returns-then-b-eq34 c = quote-closed _ _ _ c.run-t.ensures _ c.peek-b.ensures c.if-b-eq34.true

pub returns-then-b-ne92 : goal.returns-then-b-ne92
returns-then-b-ne92 c = quote-stray _ _ _ c.run-t.ensures _ c.peek-b.ensures c.if-b-eq34.false c.if-b-ne92.true

pub returns : goal.returns
returns c = quote-escape _ _ _ c.run-t.ensures _ c.peek-b.ensures c.if-b-eq34.false c.if-b-ne92.false c.escaped-2.ensures
