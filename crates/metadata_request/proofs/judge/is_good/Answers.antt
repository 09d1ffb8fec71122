-- The count tells the rows that the table has, and all names are inside.
use native.Mathlib.Omega.{arith}
use Rattle.metadata_request.proofs.Request.{other_count, same_count}
use Rattle.metadata_request.proofs.judge.is_good.Goals as goal

pub returns-then-rows_told-topics : goal.returns-then-rows_told-topics
returns-then-rows_told-topics c = other_count _ _ _ c.rows_told.ensures c.if-rows_told-topics.true

pub returns : goal.returns
returns c = same_count _ _ _ c.rows_told.ensures c.if-rows_told-topics.false (omega arith) _ c.all_ranged.ensures
