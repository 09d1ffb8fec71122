-- Each kind is written by its own call.
use mathlib.Core.List.{List}
use mathlib.Core.Option.{Option}
use mathlib.Core.Path.{◌∙◌, ap, refl}
use Prim.Native.Nat.{ℕ}
use Rattle.layout.specs.Answers.{write_alone}
use Rattle.layout.specs.Primitives.{fixed, kept, w32}
use Rattle.layout.specs.Rows.{blob}
use Rattle.layout.specs.Write.{basic_fault, write_basic}
use native.Mathlib.Omega.{arith}
use Rattle.gateway_primitives.proofs.ByKind.{given_or, write_by}
use Rattle.gateway_primitives.specs.Kinds.{write_kind, write_of}
use Rattle.gateway_primitives.proofs.write_kind.blobs.Goals as goal

pub returns-in-10 : goal.returns-in-10
unfolding write_kind write_of
returns-in-10 c = write_by c.args.kind 10 c.in-10.is _ _ _ _ _ _ refl c.bytes.ensures

pub returns-in-11 : goal.returns-in-11
unfolding write_kind write_of
returns-in-11 c = write_by c.args.kind 11 c.in-11.is _ _ _ _ _ _ refl (c.nullable_bytes.ensures ∙ ap (λ (v : Option (List ℕ)). write_alone (basic_fault (blob (fixed w32 kept)) v) (write_basic (blob (fixed w32 kept)) v) c.args.out.now) (given_or c.args.null c.args.content _ c.then_some-value.ensures))

pub returns-in-12 : goal.returns-in-12
unfolding write_kind write_of
returns-in-12 c = write_by c.args.kind 12 c.in-12.is _ _ _ _ _ _ refl c.compact_bytes.ensures

pub returns-in_default : goal.returns-in_default
unfolding write_kind write_of
returns-in_default c = write_by c.args.kind 13 (omega arith) _ _ _ _ _ _ refl c.records.ensures
