use mathlib.Core.Path.{◌∙◌}
use borrow.Author.Tests.{ne_eqb}
use Rattle.tagged_fields.proofs.Tags.{other_count, same_count}
use borrow.Author.Rules.{rules}
use Rattle.tagged_fields.proofs.writing.is_good.Goals as goal

pub returns-then-rows_told-table : goal.returns-then-rows_told-table
returns-then-rows_told-table c = search (rules, same_count)

pub returns-else-rows_told-table : goal.returns-else-rows_told-table
returns-else-rows_told-table c = ne_eqb _ _ c.if-rows_told-table.false ∙ other_count _ _ _ c.rows_told.ensures c.if-rows_told-table.false
