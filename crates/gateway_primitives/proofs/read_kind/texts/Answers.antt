-- Each kind is read by its own call.
use mathlib.Core.Bool.{false}
use mathlib.Core.Path.{refl}
use native.Mathlib.Omega.{arith}
use Rattle.layout.specs.Answers.{alone}
use Rattle.layout.specs.Primitives.{compact, fixed, kept, w16}
use Rattle.layout.specs.Read.{by_place, read_basic}
use Rattle.layout.specs.Rows.{text}
use Rattle.gateway_primitives.proofs.ByKind.{nullable_by, read_by}
use Rattle.gateway_primitives.specs.Kinds.{part_cells, read_kind, read_of}
use Rattle.gateway_primitives.proofs.read_kind.texts.Goals as goal

pub returns-in-14 : goal.returns-in-14
unfolding read_kind read_of
returns-in-14 c = read_by _ 14 c.in-14.is _ _ part_cells _ _ c.string.ensures refl c.of_part.ensures

pub returns-in-15 : goal.returns-in-15
unfolding read_kind read_of
returns-in-15 c = nullable_by _ 15 c.in-15.is _ _ _ (alone (read_basic (by_place false) (text (fixed w16 kept))) c.args.msg.now) c.nullable_string.ensures refl c.of_nullable.ensures

pub returns-in-16 : goal.returns-in-16
unfolding read_kind read_of
returns-in-16 c = read_by _ 16 c.in-16.is _ _ part_cells _ _ c.compact_string.ensures refl c.of_part-in-16.ensures

pub returns-in_default : goal.returns-in_default
unfolding read_kind read_of
returns-in_default c = nullable_by c.args.kind 17 (omega arith) _ _ _ (alone (read_basic (by_place false) (text (compact kept))) c.args.msg.now) c.compact_nullable_string.ensures refl c.of_nullable-in_default.ensures
