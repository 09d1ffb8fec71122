use Prim.Native.Nat.{◌/◌}
use native.Mathlib.Omega.{arith}
use Rattle.layout.specs.Primitives.{w32}
use Rattle.metadata_response.proofs.NodeRows.{filling_end, filling_next, filling_start, filling_there, nodes_missing}
use Rattle.metadata_response.proofs.There.{cell_cut}
use Rattle.metadata_response.proofs.nodes.nodes_in.Goals as goal

pub returns-then-there-count : goal.returns-then-there-count
returns-then-there-count c = nodes_missing _ _ _ _ _ (c.less-there.result / 4) (omega arith) (λ z. omega arith) (omega arith) _ c.at.ensures

pub loop-row-init : goal.loop-row-init
loop-row-init c = filling_start _ _ _ _ _ _ c.passed-after.ensures

pub slice_bounds-int32_there-count : goal.slice_bounds-int32_there-count
slice_bounds-int32_there-count c = let h = filling_there _ _ _ _ _ _ _ _ _ c.loop-row.invariant (λ z. omega arith) (omega arith) in
    omega arith

pub slice_bounds-int32_there-start : goal.slice_bounds-int32_there-start
slice_bounds-int32_there-start c = let h = filling_there _ _ _ _ _ _ _ _ _ c.loop-row.invariant (λ z. omega arith) (omega arith) in
    omega arith

pub slice_bounds-int32_there-end : goal.slice_bounds-int32_there-end
slice_bounds-int32_there-end c = let h = filling_there _ _ _ _ _ _ _ _ _ c.loop-row.invariant (λ z. omega arith) (omega arith) in
    omega arith

pub int32_there-requires : goal.int32_there-requires
int32_there-requires c = let h = filling_there _ _ _ _ _ _ _ _ _ c.loop-row.invariant (λ z. omega arith) (omega arith) in
    omega arith

pub overflow_add-place : goal.overflow_add-place
overflow_add-place c = let h = filling_there _ _ _ _ _ _ _ _ _ c.loop-row.invariant (λ z. omega arith) (omega arith) in
    omega arith

pub loop-row-preserved : goal.loop-row-preserved
loop-row-preserved c = filling_next _ _ _ _ _ _ _ _ _ c.loop-row.invariant (λ z. omega arith) (omega arith) (omega arith) _ (cell_cut w32 _ _ _ c.int32_there.ensures)

pub returns : goal.returns
returns c = filling_end _ _ _ _ _ _ _ _ _ c.loop-row.invariant (λ z. omega arith) (omega arith) (omega arith)
