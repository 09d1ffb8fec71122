-- An item without tags; else the numbers, the tags after them, and one store of the numbers and the number of tags.
use native.Mathlib.Omega.{arith}
use Rattle.primitives.proofs.Up.{is_err_of}
use Rattle.api_versions_response.proofs.BareRows.{bare_item, item_no, item_no_tags, item_took}
use Rattle.api_versions_response.proofs.items.item_at.Goals as goal

pub overflow_add-result : goal.overflow_add-result
overflow_add-result c = omega (arith, c.is_bare.ensures.whole c.if-is_bare.true)

pub bare_in-requires : goal.bare_in-requires
bare_in-requires c = omega (arith, c.is_bare.ensures.whole c.if-is_bare.true)

pub returns-then-is_bare : goal.returns-then-is_bare
returns-then-is_bare c = bare_item _ _ _ _ _ _ _ _ c.is_bare.ensures c.if-is_bare.true _ _ c.bare_in.ensures

pub returns-in_err-key : goal.returns-in_err-key
returns-in_err-key c = rw (is_err_of _ _ c.from_residual.ensures) (item_no _ _ _ _ _ _ _ _ c.in_err-key.ensures)

pub returns-in_err-own : goal.returns-in_err-own
returns-in_err-own c = rw (is_err_of _ _ c.from_residual-in_err-own.ensures) (item_no_tags _ _ _ _ _ _ _ _ _ _ _ c.in_ok-key.ensures _ _ c.tags_if.ensures _ c.in_err-own.was)

pub returns : goal.returns
returns c = item_took _ _ _ _ _ _ _ _ _ _ _ c.in_ok-key.ensures _ _ c.tags_if.ensures _ c.in_ok-own.was _ _ c.store_row.ensures
