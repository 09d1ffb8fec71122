-- Three cells for each partition that the row tells, and not so many that the product is too big.
use native.Mathlib.Omega.{arith}
use Rattle.fetch_request.proofs.Judgement.{cells_are}
use Rattle.fetch_request.proofs.judge.cells.Goals as goal

pub overflow_mul-result : goal.overflow_mul-result
overflow_mul-result c = omega (arith, cells_are c.args.topics.now c.rows_told.ensures, c.requires.1)

pub returns : goal.returns
returns c = cells_are _ c.rows_told.ensures
