-- Each kind is read by its own call.
use mathlib.Core.Path.{refl}
use native.Mathlib.Omega.{arith}
use Rattle.gateway_primitives.proofs.ByKind.{read_by}
use Rattle.gateway_primitives.specs.Kinds.{flag_cells, integer_cells, number_cells, read_kind, read_of}
use Rattle.gateway_primitives.proofs.read_kind.numbers.Goals as goal

pub returns-in-4 : goal.returns-in-4
unfolding read_kind read_of
returns-in-4 c = read_by _ 4 c.in-4.is _ _ flag_cells _ _ c.boolean.ensures refl c.of_flag.ensures

pub returns-in-5 : goal.returns-in-5
unfolding read_kind read_of
returns-in-5 c = read_by _ 5 c.in-5.is _ _ number_cells _ _ c.unsigned_varint.ensures refl c.of_number.ensures

pub returns-in-6 : goal.returns-in-6
unfolding read_kind read_of
returns-in-6 c = read_by _ 6 c.in-6.is _ _ integer_cells _ _ c.varint.ensures refl c.of_integer.ensures

pub returns-in_default : goal.returns-in_default
unfolding read_kind read_of
returns-in_default c = read_by c.args.kind 7 (omega arith) _ _ integer_cells _ _ c.varlong.ensures refl c.of_integer-in_default.ensures
