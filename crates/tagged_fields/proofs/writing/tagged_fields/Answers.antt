-- 13 by the tables; and else what is answered of the bytes that the walk measures and then writes.
use mathlib.Core.Path.{◌∙◌, sym}
use native.Mathlib.Omega.{arith}
use Rattle.primitives_put.proofs.Measured.{measured_long, measured_short, measured_written}
use Rattle.tagged_fields.proofs.Tags.{told_bad, told_good_lem}
use Rattle.tagged_fields.proofs.writing.tagged_fields.Goals as goal

pub returns-then-not-is_good : goal.returns-then-not-is_good
returns-then-not-is_good c = told_bad c.args.lent.now c.args.table.now _ _ (λ i. omega (arith, c.type_inv.table i)) (omega arith) (omega arith) _ c.at.ensures (sym c.is_good.ensures ∙ c.if-not-is_good.true)

pub returns-then-all-gt-MOST : goal.returns-then-all-gt-MOST
returns-then-all-gt-MOST c = told_good_lem c.args.lent.now c.args.table.now _ _ (λ i. omega (arith, c.type_inv.table i)) (omega arith) (omega arith) (sym c.is_good.ensures ∙ c.if-not-is_good.false) _ (measured_long c.tag_buffer-all.ensures _ _ c.at-then-all-gt-MOST.ensures c.if-all-gt-MOST.true)

pub returns-then-out-all : goal.returns-then-out-all
returns-then-out-all c = told_good_lem c.args.lent.now c.args.table.now _ _ (λ i. omega (arith, c.type_inv.table i)) (omega arith) (omega arith) (sym c.is_good.ensures ∙ c.if-not-is_good.false) _ (measured_short c.tag_buffer-all.ensures _ c.if-all-gt-MOST.false _ c.no_room.ensures c.if-out-all.true)

pub returns : goal.returns
returns c = told_good_lem c.args.lent.now c.args.table.now _ _ (λ i. omega (arith, c.type_inv.table i)) (omega arith) (omega arith) (sym c.is_good.ensures ∙ c.if-not-is_good.false) _ (measured_written c.tag_buffer-all.ensures _ c.if-all-gt-MOST.false c.if-out-all.false c.tag_buffer.ensures)
