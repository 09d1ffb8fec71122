-- Three numbers, and two arrays of nodes, each passed over at once.
use mathlib.Core.Path.{◌∙◌, ap, refl}
use Rattle.primitives.proofs.Up.{up}
use Rattle.names.specs.Walks.{count_up_to, numbers, of_sought}
use Rattle.names.proofs.Ways.{array_found, array_last, array_out, array_past, field_goes, field_out, null_is_none}
use Rattle.metadata_response.specs.TopicShapes.{node_shape, partition_shape}
use Rattle.metadata_response.proofs.naming.partition.Goals as goal

pub returns-in_err-p : goal.returns-in_err-p
unfolding partition_shape node_shape numbers
returns-in_err-p c = up (of_sought _) _ _ c.from_residual.ensures ∙ field_out _ _ _ _ _ _ _ _ _ c.int16.ensures _ c.in_err-p.ensures.value _ refl

pub returns-in_err-p-2 : goal.returns-in_err-p-2
unfolding partition_shape node_shape numbers
returns-in_err-p-2 c = up (of_sought _) _ _ c.from_residual-in_err-p-2.ensures ∙ field_goes _ _ _ _ _ _ _ _ _ c.int16.ensures _ c.in_ok-p.ensures.ok_part _ (field_out _ _ _ _ _ _ _ _ _ c.int32.ensures _ c.in_err-p-2.ensures.value _ refl)

pub returns-in_err-p-3 : goal.returns-in_err-p-3
unfolding partition_shape node_shape numbers
returns-in_err-p-3 c = up (of_sought _) _ _ c.from_residual-in_err-p-3.ensures ∙ field_goes _ _ _ _ _ _ _ _ _ c.int16.ensures _ c.in_ok-p.ensures.ok_part _ (field_goes _ _ _ _ _ _ _ _ _ c.int32.ensures _ c.in_ok-p-2.ensures.ok_part _ (field_out _ _ _ _ _ _ _ _ _ c.int32-2.ensures _ c.in_err-p-3.ensures.value _ refl))

pub returns-in_err-replicas : goal.returns-in_err-replicas
unfolding partition_shape node_shape numbers
returns-in_err-replicas c = up (of_sought _) _ _ c.from_residual-in_err-replicas.ensures ∙ field_goes _ _ _ _ _ _ _ _ _ c.int16.ensures _ c.in_ok-p.ensures.ok_part _ (field_goes _ _ _ _ _ _ _ _ _ c.int32.ensures _ c.in_ok-p-2.ensures.ok_part _ (field_goes _ _ _ _ _ _ _ _ _ c.int32-2.ensures _ c.in_ok-p-3.ensures.ok_part _ (array_out _ _ _ _ _ _ _ _ _ _ _ (c.count.ensures ∙ ap (count_up_to _) (null_is_none _ _)) _ c.in_err-replicas.ensures.value _ refl)))

pub returns-in_err-p-4 : goal.returns-in_err-p-4
unfolding partition_shape node_shape numbers
returns-in_err-p-4 c = up (of_sought _) _ _ c.from_residual-in_err-p-4.ensures ∙ field_goes _ _ _ _ _ _ _ _ _ c.int16.ensures _ c.in_ok-p.ensures.ok_part _ (field_goes _ _ _ _ _ _ _ _ _ c.int32.ensures _ c.in_ok-p-2.ensures.ok_part _ (field_goes _ _ _ _ _ _ _ _ _ c.int32-2.ensures _ c.in_ok-p-3.ensures.ok_part _ (array_found _ _ _ _ _ _ _ _ _ _ _ (c.count.ensures ∙ ap (count_up_to _) (null_is_none _ _)) _ c.in_ok-replicas.ensures.ok_part c.elements.new.begun _ c.in_err-p-4.ensures _ refl)))

pub returns-in_err-in_sync : goal.returns-in_err-in_sync
unfolding partition_shape node_shape numbers
returns-in_err-in_sync c = up (of_sought _) _ _ c.from_residual-in_err-in_sync.ensures ∙ field_goes _ _ _ _ _ _ _ _ _ c.int16.ensures _ c.in_ok-p.ensures.ok_part _ (field_goes _ _ _ _ _ _ _ _ _ c.int32.ensures _ c.in_ok-p-2.ensures.ok_part _ (field_goes _ _ _ _ _ _ _ _ _ c.int32-2.ensures _ c.in_ok-p-3.ensures.ok_part _ (array_past _ _ _ _ _ _ _ _ _ _ _ (c.count.ensures ∙ ap (count_up_to _) (null_is_none _ _)) _ c.in_ok-replicas.ensures.ok_part _ _ c.in_ok-p-4.ensures _ refl _ (array_out _ _ _ _ _ _ _ _ _ _ _ (c.count-2.ensures ∙ ap (count_up_to _) (null_is_none _ _)) _ c.in_err-in_sync.ensures.value _ refl))))

pub returns : goal.returns
unfolding partition_shape node_shape numbers
returns c = field_goes _ _ _ _ _ _ _ _ _ c.int16.ensures _ c.in_ok-p.ensures.ok_part _ (field_goes _ _ _ _ _ _ _ _ _ c.int32.ensures _ c.in_ok-p-2.ensures.ok_part _ (field_goes _ _ _ _ _ _ _ _ _ c.int32-2.ensures _ c.in_ok-p-3.ensures.ok_part _ (array_past _ _ _ _ _ _ _ _ _ _ _ (c.count.ensures ∙ ap (count_up_to _) (null_is_none _ _)) _ c.in_ok-replicas.ensures.ok_part _ _ c.in_ok-p-4.ensures _ refl _ (array_last _ _ _ _ _ _ _ _ _ _ (c.count-2.ensures ∙ ap (count_up_to _) (null_is_none _ _)) _ c.in_ok-in_sync.ensures.ok_part _ c.elements-2.ensures))))
