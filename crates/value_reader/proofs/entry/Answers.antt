use mathlib.Core.Path.{refl, ap}
use native.Mathlib.Omega.{arith}
use Rattle.value_cursor.specs.declared.alert_param.Span.{Span}
use Rattle.value_reader.proofs.JudgedLaws.{span_fits, entry-of}
use Rattle.value_reader.proofs.entry.Goals as goal

pub overflow_add-result : goal.overflow_add-result
overflow_add-result c = omega (arith, span_fits c.args.v.now c.args.k _ c.place-p.ensures)

pub slice_bounds-result-end : goal.slice_bounds-result-end
slice_bounds-result-end c = span_fits c.args.v.now c.args.k _ c.place-p.ensures

pub returns : goal.returns
returns c = let place = ap (λ (p : Span). p.start) c.place-p.ensures in record { result_value = entry-of c.args.v.now c.args.k _ c.place-p.ensures; ref_ptr_value = (refl, omega (arith, place)) }
