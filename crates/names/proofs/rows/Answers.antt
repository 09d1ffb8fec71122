use Rattle.std.proofs.Common.{rules, refl, ◌∙◌}
use Rattle.primitives.proofs.Up.{up}
use Rattle.names.specs.Walks.{of_sought}
use Rattle.names.proofs.Ways.{turns_done, turns_found, turns_next}
use Rattle.names.proofs.rows.Goals as goal

pub returns-in_err-next : goal.returns-in_err-next
returns-in_err-next g c = λ q l s w. up (of_sought _) _ _ c.from_residual.ensures ∙ turns_found q l _ _ _ s _ _ _ _ (c.loop.invariant.0 q l s w) c.loop-test.true _ c.begin-row.ensures.row _ c.begin-row.ensures.counted c.walk.new.arg4 _ (w.law _ _ _ _ _ c.in_err-next.ensures) _ refl

pub loop-preserved : goal.loop-preserved
loop-preserved g c = (λ q l s w. turns_next q l _ _ _ s _ _ _ _ (c.loop.invariant.0 q l s w) c.loop-test.true _ c.begin-row.ensures.row _ c.begin-row.ensures.counted c.walk.new.arg4 _ (w.law _ _ _ _ _ c.in_ok-next.ensures) _ refl, search rules)

pub returns : goal.returns
returns g c = λ q l s w. turns_done q l _ _ _ s _ _ _ _ (c.loop.invariant.0 q l s w) c.loop-test.false
