-- Each kind is written by its own call.
use mathlib.Core.Bool.{Bool}
use mathlib.Core.Path.{◌∙◌, ap, refl}
use native.Mathlib.Omega.{arith}
use borrow.Author.Rules.{rules}
use Rattle.layout.specs.Answers.{write_alone}
use Rattle.layout.specs.Primitives.{flag_bytes}
use Rattle.gateway_primitives.proofs.ByKind.{signed_by, varint_written, varlong_written, write_by}
use Rattle.gateway_primitives.specs.Kinds.{write_kind, write_of}
use Rattle.gateway_primitives.proofs.write_kind.others.Goals as goal

pub returns-in-4 : goal.returns-in-4
unfolding write_kind write_of
returns-in-4 c = write_by _ 4 c.in-4.is _ _ _ _ _ _ refl (c.boolean.ensures ∙ ap (λ (b : Bool). write_alone 0 (flag_bytes b) c.args.out.now) c.is_set.ensures)

pub returns-in-5 : goal.returns-in-5
unfolding write_kind write_of
returns-in-5 c = write_by _ 5 c.in-5.is _ _ _ _ _ _ refl c.unsigned_varint.ensures

pub returns-in-6 : goal.returns-in-6
unfolding write_kind write_of
returns-in-6 c = signed_by c.args.kind 6 c.in-6.is _ _ _ _ _ (varint_written c.args.out.now) refl (search rules) _ c.signed.ensures c.varint.ensures

pub returns-in_default : goal.returns-in_default
unfolding write_kind write_of
returns-in_default c = signed_by c.args.kind 7 (omega arith) _ _ _ _ _ (varlong_written c.args.out.now) refl (search rules) _ c.signed-in_default.ensures c.varlong.ensures
