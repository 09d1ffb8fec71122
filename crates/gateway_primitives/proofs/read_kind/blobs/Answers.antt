-- Each kind is read by its own call.
use mathlib.Core.Bool.{false}
use mathlib.Core.Path.{refl}
use native.Mathlib.Omega.{arith}
use Rattle.layout.specs.Answers.{alone}
use Rattle.layout.specs.Primitives.{fixed, kept, w32}
use Rattle.layout.specs.Read.{by_place, read_basic}
use Rattle.layout.specs.Rows.{blob}
use Rattle.gateway_primitives.proofs.ByKind.{nullable_by, read_by}
use Rattle.gateway_primitives.specs.Kinds.{part_cells, read_kind, read_of}
use Rattle.gateway_primitives.proofs.read_kind.blobs.Goals as goal

pub returns-in-10 : goal.returns-in-10
unfolding read_kind read_of
returns-in-10 c = read_by _ 10 c.in-10.is _ _ part_cells _ _ c.bytes.ensures refl c.of_part.ensures

pub returns-in-11 : goal.returns-in-11
unfolding read_kind read_of
returns-in-11 c = nullable_by _ 11 c.in-11.is _ _ _ (alone (read_basic (by_place false) (blob (fixed w32 kept))) c.args.msg.now) c.nullable_bytes.ensures refl c.of_nullable.ensures

pub returns-in-12 : goal.returns-in-12
unfolding read_kind read_of
returns-in-12 c = read_by _ 12 c.in-12.is _ _ part_cells _ _ c.compact_bytes.ensures refl c.of_part-in-12.ensures

pub returns-in_default : goal.returns-in_default
unfolding read_kind read_of
returns-in_default c = read_by c.args.kind 13 (omega arith) _ _ part_cells _ _ c.records.ensures refl c.of_part-in_default.ensures
