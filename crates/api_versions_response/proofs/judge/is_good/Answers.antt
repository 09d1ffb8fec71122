-- Each way out settles the definition's test of all tables.
use mathlib.Core.Path.{◌∙◌}
use native.Mathlib.Omega.{arith}
use Rattle.api_versions_response.proofs.Good.{good_few, good_last, good_other, good_untold}
use Rattle.api_versions_response.proofs.judge.is_good.Goals as goal

pub returns-then-count-items : goal.returns-then-count-items
returns-then-count-items c = good_other _ _ _ _ _ c.if-count-items.true

pub returns-then-rows-k : goal.returns-then-rows-k
returns-then-rows-k c = good_few _ _ _ _ _ c.rows_told-k.ensures c.if-rows-k.true

pub returns-else-do_items_tell : goal.returns-else-do_items_tell
returns-else-do_items_tell c = c.if-do_items_tell.false ∙ good_untold _ _ _ _ _ c.rows_told-k.ensures c.if-count-items.false c.if-rows-k.false (omega arith) (omega arith) _ c.do_items_tell.ensures c.if-do_items_tell.false

pub returns-then-do_items_tell : goal.returns-then-do_items_tell
returns-then-do_items_tell c = good_last _ _ _ _ _ c.rows_told-k.ensures c.if-count-items.false c.if-rows-k.false (omega arith) (omega arith) _ c.do_items_tell.ensures c.if-do_items_tell.true _ c.all_ranged.ensures
