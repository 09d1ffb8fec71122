-- A division says which number q lies in; where it is none of them, all are there.
use Rattle.std.proofs.Common.{◌<◌, sym, subst, arith}
use Rattle.names.proofs.Divided.{each_fits, in_run, past_run, run_fits, some_bytes, some_numbers}
use Rattle.names.proofs.runs.elements.Goals as goal

pub nonzero_div-i : goal.nonzero_div-i
nonzero_div-i c = subst (λ n. 0 < n) (sym c.width-width.ensures) (some_bytes c.args.element)

pub nonzero_div-rows : goal.nonzero_div-rows
nonzero_div-rows c = subst (λ n. 0 < n) (sym c.numbers-each.ensures) (some_numbers c.args.element)

pub nonzero_rem-result : goal.nonzero_rem-result
nonzero_rem-result c = subst (λ n. 0 < n) (sym c.numbers-each.ensures) (some_numbers c.args.element)

pub returns-then-rows-count : goal.returns-then-rows-count
returns-then-rows-count c = in_run _ _ _ _ c.args.s.now _ c.args.element _ c.numbers-each.ensures _ c.width-width.ensures _ c.bytes_up_to.ensures c.if-rows-count.true _ c.advance.ensures _ c.begin-row.ensures.row

pub overflow_mul-result : goal.overflow_mul-result
overflow_mul-result c = let h = each_fits c.numbers-each.result c.width-width.result c.args.count c.bytes_up_to.result (omega arith) in let x = c.bytes_up_to.ensures in omega arith

pub overflow_mul-result-2 : goal.overflow_mul-result-2
overflow_mul-result-2 c = let h = run_fits c.numbers-each.result c.width-width.result c.args.count c.bytes_up_to.result (omega arith) in let x = c.bytes_up_to.ensures in omega arith

pub overflow_add-result : goal.overflow_add-result
overflow_add-result c = let h = run_fits c.numbers-each.result c.width-width.result c.args.count c.bytes_up_to.result (omega arith) in let x = c.bytes_up_to.ensures in omega arith

pub returns : goal.returns
returns c = past_run _ _ _ _ c.args.s.now _ c.args.element _ c.numbers-each.ensures _ c.width-width.ensures _ c.bytes_up_to.ensures (omega arith) _ c.advance-2.ensures
