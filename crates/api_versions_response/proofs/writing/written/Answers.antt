-- A number refuses; and else the walk's bytes are measured, judged and written.
use native.Mathlib.Omega.{arith}
use lib.ListN.{length}
use Rattle.primitives_put.proofs.Measured.{measured_long, measured_short, measured_written}
use Rattle.primitives_put.proofs.Answered.{answered_alone, refused_alone}
use Rattle.api_versions_response.proofs.Good.{none_tags}
use Rattle.api_versions_response.proofs.Whole.{fault_told}
use Rattle.api_versions_response.proofs.writing.written.Goals as goal

pub returns-then-e-ne0 : goal.returns-then-e-ne0
returns-then-e-ne0 c = refused_alone _ _ _ _ c.at.ensures c.if-e-ne0.true (fault_told c.args.throttle c.args.error c.args.n c.args.items.now (λ i. omega (arith, c.type_inv.items i)) (omega arith) c.args.lent.now c.args.flexible c.args.count c.args.own c.args.tags.now (omega arith) (λ i. omega (arith, c.type_inv.tags i)) c.refusal-e.ensures)

pub body-all-requires : goal.body-all-requires
body-all-requires c = none_tags (length c.args.lent.now) c.args.count c.args.own c.args.items.now c.args.tags.now _ c.refusal-e.ensures c.if-e-ne0.false

pub returns-then-all-gt-MOST : goal.returns-then-all-gt-MOST
returns-then-all-gt-MOST c = answered_alone _ _ _ (fault_told c.args.throttle c.args.error c.args.n c.args.items.now (λ i. omega (arith, c.type_inv.items i)) (omega arith) c.args.lent.now c.args.flexible c.args.count c.args.own c.args.tags.now (omega arith) (λ i. omega (arith, c.type_inv.tags i)) c.refusal-e.ensures) c.if-e-ne0.false (measured_long c.body-all.ensures _ _ c.at-then-all-gt-MOST.ensures c.if-all-gt-MOST.true)

pub returns-then-out-all : goal.returns-then-out-all
returns-then-out-all c = answered_alone _ _ _ (fault_told c.args.throttle c.args.error c.args.n c.args.items.now (λ i. omega (arith, c.type_inv.items i)) (omega arith) c.args.lent.now c.args.flexible c.args.count c.args.own c.args.tags.now (omega arith) (λ i. omega (arith, c.type_inv.tags i)) c.refusal-e.ensures) c.if-e-ne0.false (measured_short c.body-all.ensures _ c.if-all-gt-MOST.false _ c.no_room.ensures c.if-out-all.true)

pub body-requires : goal.body-requires
body-requires c = none_tags (length c.args.lent.now) c.args.count c.args.own c.args.items.now c.args.tags.now _ c.refusal-e.ensures c.if-e-ne0.false

pub returns : goal.returns
returns c = answered_alone _ _ _ (fault_told c.args.throttle c.args.error c.args.n c.args.items.now (λ i. omega (arith, c.type_inv.items i)) (omega (arith, c.well_formed.1.1.1.1.1.1.1.1.0.1)) c.args.lent.now c.args.flexible c.args.count c.args.own c.args.tags.now (omega arith) (λ i. omega (arith, c.type_inv.tags i)) c.refusal-e.ensures) c.if-e-ne0.false (measured_written c.body-all.ensures _ c.if-all-gt-MOST.false c.if-out-all.false c.body.ensures)
