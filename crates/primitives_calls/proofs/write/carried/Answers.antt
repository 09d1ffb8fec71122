use native.Mathlib.Omega.{arith}
use lib.ListN.{length}
use Rattle.primitives_put.specs.Put.{size_of}
use Rattle.primitives_put.proofs.Answered.{answered}
use Rattle.primitives_calls.proofs.Judged.{behind_length_lem, too_long_lem}
use Rattle.primitives_put.proofs.Parts.{length_small}
use Rattle.primitives_calls.proofs.write.carried.Goals as goal

pub overflow_add-all : goal.overflow_add-all
overflow_add-all c = omega (arith, length_small (size_of c.args.form) (length c.args.value.now))

pub returns-then-all-gt-MOST : goal.returns-then-all-gt-MOST
returns-then-all-gt-MOST c = too_long_lem _ _ _ c.at.ensures (omega (arith, behind_length_lem (size_of c.args.form) c.args.value.now c.length_size.ensures))

pub returns : goal.returns
returns c = answered _ _ _ _ c.answer.result (omega (arith, behind_length_lem (size_of c.args.form) c.args.value.now c.length_size.ensures)) c.sized.ensures c.answer.ensures
