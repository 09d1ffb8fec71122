use native.Mathlib.Omega.{arith}
use Rattle.primitives_put.specs.Put.{size_of}
use Rattle.primitives_put.proofs.Answered.{answered}
use Rattle.primitives_calls.proofs.Judged.{count_good, count_null, count_wide}
use Rattle.primitives_put.proofs.Parts.{length_small}
use Rattle.primitives_calls.proofs.write.count.Goals as goal

pub returns-in_default : goal.returns-in_default
returns-in_default c = rw c.in_default.is (count_null (size_of c.args.form) _ _ c.null_length.ensures)

pub returns-then-n-limit : goal.returns-then-n-limit
returns-then-n-limit c = rw c.in-Some.is (count_good (size_of c.args.form) _ _ c.limit.ensures _ c.if-n-limit.true (answered _ _ _ _ c.answer.result (omega (arith, length_small (size_of c.args.form) c.in-Some.n)) c.length.ensures c.answer.ensures))

pub returns : goal.returns
returns c = rw c.in-Some.is (count_wide (size_of c.args.form) _ _ c.limit.ensures _ c.if-n-limit.false c.at.ensures)
