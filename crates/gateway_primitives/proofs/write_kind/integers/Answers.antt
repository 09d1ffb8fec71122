-- Each kind is written by its own call.
use mathlib.Core.Path.{refl}
use native.Mathlib.Omega.{arith}
use borrow.Author.Rules.{rules}
use Rattle.layout.specs.Primitives.{w16, w32, w64, w8}
use Rattle.gateway_primitives.proofs.ByKind.{integer_written, signed_by}
use Rattle.gateway_primitives.specs.Kinds.{write_kind, write_of}
use Rattle.gateway_primitives.proofs.write_kind.integers.Goals as goal

pub returns-in-0 : goal.returns-in-0
unfolding write_kind write_of
returns-in-0 c = signed_by c.args.kind 0 c.in-0.is _ _ _ _ _ (integer_written w8 c.args.out.now) refl (search rules) _ c.signed.ensures c.int8.ensures

pub returns-in-1 : goal.returns-in-1
unfolding write_kind write_of
returns-in-1 c = signed_by c.args.kind 1 c.in-1.is _ _ _ _ _ (integer_written w16 c.args.out.now) refl (search rules) _ c.signed-in-1.ensures c.int16.ensures

pub returns-in-2 : goal.returns-in-2
unfolding write_kind write_of
returns-in-2 c = signed_by c.args.kind 2 c.in-2.is _ _ _ _ _ (integer_written w32 c.args.out.now) refl (search rules) _ c.signed-in-2.ensures c.int32.ensures

pub returns-in_default : goal.returns-in_default
unfolding write_kind write_of
returns-in_default c = signed_by c.args.kind 3 (omega arith) _ _ _ _ _ (integer_written w64 c.args.out.now) refl (search rules) _ c.signed-in_default.ensures c.int64.ensures
