-- Each kind is read by its own call.
use mathlib.Core.Path.{refl}
use native.Mathlib.Omega.{arith}
use Rattle.gateway_primitives.proofs.ByKind.{read_by}
use Rattle.gateway_primitives.specs.Kinds.{integer_cells, read_kind, read_of}
use Rattle.gateway_primitives.proofs.read_kind.integers.Goals as goal

pub returns-in-0 : goal.returns-in-0
unfolding read_kind read_of
returns-in-0 c = read_by _ 0 c.in-0.is _ _ integer_cells _ _ c.int8.ensures refl c.of_integer.ensures

pub returns-in-1 : goal.returns-in-1
unfolding read_kind read_of
returns-in-1 c = read_by _ 1 c.in-1.is _ _ integer_cells _ _ c.int16.ensures refl c.of_integer-in-1.ensures

pub returns-in-2 : goal.returns-in-2
unfolding read_kind read_of
returns-in-2 c = read_by _ 2 c.in-2.is _ _ integer_cells _ _ c.int32.ensures refl c.of_integer-in-2.ensures

pub returns-in_default : goal.returns-in_default
unfolding read_kind read_of
returns-in_default c = read_by c.args.kind 3 (omega arith) _ _ integer_cells _ _ c.int64.ensures refl c.of_integer-in_default.ensures
