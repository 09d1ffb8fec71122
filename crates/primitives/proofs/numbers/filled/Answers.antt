-- Below 2 * half the quotient is 0 or 1, so `fill` is added from half on and nothing runs over.
use Rattle.primitives.proofs.Cells.{filled_fits, filled_is_lem}
use Rattle.primitives.proofs.numbers.filled.Goals as goal

pub overflow_mul-result : goal.overflow_mul-result
overflow_mul-result c = record { fits = (filled_fits _ _ _ c.requires.0 c.requires.1).0 }

pub overflow_add-result : goal.overflow_add-result
overflow_add-result c = record { fits = (filled_fits _ _ _ c.requires.0 c.requires.1).1 }

pub returns : goal.returns
returns c = filled_is_lem _ _ _ c.requires.0
