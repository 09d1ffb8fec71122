-- Each kind is written by its own call.
use mathlib.Core.List.{List}
use mathlib.Core.Option.{Option}
use mathlib.Core.Path.{◌∙◌, ap, refl}
use Prim.Native.Nat.{ℕ}
use Rattle.layout.specs.Answers.{write_alone}
use Rattle.layout.specs.Primitives.{compact, fixed, kept, w16}
use Rattle.layout.specs.Rows.{text}
use Rattle.layout.specs.Write.{basic_fault, write_basic}
use native.Mathlib.Omega.{arith}
use Rattle.gateway_primitives.proofs.ByKind.{given_or, write_by}
use Rattle.gateway_primitives.specs.Kinds.{write_kind, write_of}
use Rattle.gateway_primitives.proofs.write_kind.texts.Goals as goal

pub returns-in-14 : goal.returns-in-14
unfolding write_kind write_of
returns-in-14 c = write_by c.args.kind 14 c.in-14.is _ _ _ _ _ _ refl c.string.ensures

pub returns-in-15 : goal.returns-in-15
unfolding write_kind write_of
returns-in-15 c = write_by c.args.kind 15 c.in-15.is _ _ _ _ _ _ refl (c.nullable_string.ensures ∙ ap (λ (v : Option (List ℕ)). write_alone (basic_fault (text (fixed w16 kept)) v) (write_basic (text (fixed w16 kept)) v) c.args.out.now) (given_or c.args.null c.args.content _ c.then_some-value.ensures))

pub returns-in-16 : goal.returns-in-16
unfolding write_kind write_of
returns-in-16 c = write_by c.args.kind 16 c.in-16.is _ _ _ _ _ _ refl c.compact_string.ensures

pub returns-in_default : goal.returns-in_default
unfolding write_kind write_of
returns-in_default c = write_by c.args.kind 17 (omega arith) _ _ _ _ _ _ refl (c.compact_nullable_string.ensures ∙ ap (λ (v : Option (List ℕ)). write_alone (basic_fault (text (compact kept)) v) (write_basic (text (compact kept)) v) c.args.out.now) (given_or c.args.null c.args.content _ c.then_some-value.ensures))
