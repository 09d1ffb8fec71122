-- Each kind is read by its own call.
use mathlib.Core.Path.{refl}
use native.Mathlib.Omega.{arith}
use Rattle.gateway_primitives.proofs.ByKind.{read_by}
use Rattle.gateway_primitives.specs.Kinds.{count_cells, read_kind, read_of}
use Rattle.gateway_primitives.proofs.read_kind.counts.Goals as goal

pub returns-in-8 : goal.returns-in-8
unfolding read_kind read_of
returns-in-8 c = read_by _ 8 c.in-8.is _ _ count_cells _ _ c.array_count.ensures refl c.of_count.ensures

pub returns-in_default : goal.returns-in_default
unfolding read_kind read_of
returns-in_default c = read_by c.args.kind 9 (omega arith) _ _ count_cells _ _ c.compact_array_count.ensures refl c.of_count-in_default.ensures
