use Rattle.std.proofs.Common.{◌+◌, ◌*◌, refl, ap, ◌∙◌, length, rules, arith}
use lib.ListN.{length-append}
use Rattle.small_rounds.specs.Rows.{machine_in}
use Rattle.small_write.proofs.WriteLaws.{is-stored, fitting, first_below, rows-part, three-parts, small-short, small-done, size_small, one_more}
use Rattle.small_write.proofs.write_small.Goals as goal

pub overflow_add-size : goal.overflow_add-size
overflow_add-size c = let r = c.args.rows in omega (arith, (is-stored r.bytes.now r.states r.head r.symbols c.args.p.now c.requires).narrow)

pub overflow_mul-size : goal.overflow_mul-size
overflow_mul-size c = let r = c.args.rows in
    omega (
      arith,
      size_small c.highest_class-count.result r.symbols c.highest_class-count.ensures.1
          (omega (arith, (is-stored r.bytes.now r.states r.head r.symbols c.args.p.now c.requires).narrow)),
    )

pub overflow_add-size-2 : goal.overflow_add-size-2
overflow_add-size-2 c = let r = c.args.rows in
    omega (
      arith,
      c.well_formed.0.1,
      size_small c.highest_class-count.result r.symbols c.highest_class-count.ensures.1
          (omega (arith, (is-stored r.bytes.now r.states r.head r.symbols c.args.p.now c.requires).narrow)),
    )

pub invariant_of-m : goal.invariant_of-m
invariant_of-m c = let r = c.args.rows in record { stored = is-stored r.bytes.now r.states r.head r.symbols c.args.p.now c.requires }

pub returns-then-buf-size : goal.returns-then-buf-size
returns-then-buf-size c = let e = small-short c.args.front.now (machine_in c.args.rows) c.args.p.now (c.highest_class-count.result + 1)
    (length c.args.buf.now) (one_more _ _ c.highest_class-count.ensures.0) c.if-buf-size.true in
    record { value = c.refuse.ensures.value ∙ e.0; buf_after = c.refuse.ensures.buf_after ∙ e.1 }

pub put_rows-requires : goal.put_rows-requires
put_rows-requires c = let front = c.args.front.now in let r = c.args.rows in let p = c.args.p.now in
    let h = c.highest_class-count.ensures in
    let w = (c.highest_class-count.result + 1) * (1 + r.symbols) in (
      (fitting r.bytes.now r.states r.head r.symbols p c.requires).sized,
      omega (arith, h.1),
      rows-part c.args.buf.now c.put_head.new.head (length front + 2) w c.if-buf-size.false (ap length c.put_head.ensures ∙ length-append front _) _ refl,
      λ d l. first_below r.bytes.now r.states r.head r.symbols p c.requires d (omega (arith, l, h.0)),
    )

pub returns : goal.returns
returns c = let front = c.args.front.now in let r = c.args.rows in let p = c.args.p.now in let buf = c.args.buf.now in
    let count = c.highest_class-count.result + 1 in
    let from = length front + 2 in
    let size = from + count * (1 + r.symbols) in
    let e = one_more _ _ c.highest_class-count.ensures.0 in
    let w = small-done front (machine_in r) p _ count (length buf) size e refl c.if-buf-size.false
    (three-parts front (machine_in r) p buf c.put_head.new.head c.put_rows.new.out c.fill.new.self count from size e refl refl c.if-buf-size.false
    c.put_head.ensures c.put_rows.ensures _ _ _ (search rules) refl refl refl) in record { value = w.0; buf_after = w.1 }
