use Rattle.primitives_calls.proofs.Judged.{field_bad, field_good, field_wide}
use Rattle.primitives_calls.proofs.write.sized.Goals as goal

pub returns-then-too_long : goal.returns-then-too_long
returns-then-too_long c = field_wide _ _ _ _ _ c.too_long.ensures _ _ c.if-too_long.true c.at.ensures

pub returns-then-good : goal.returns-then-good
returns-then-good c = field_good _ _ _ _ _ c.too_long.ensures c.if-too_long.false _ _ c.if-good.true c.carried.ensures

pub returns : goal.returns
returns c = field_bad _ _ _ _ _ c.too_long.ensures c.if-too_long.false _ _ c.if-good.false c.at-2.ensures
