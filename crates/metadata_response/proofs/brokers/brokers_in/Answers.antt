use mathlib.Core.Path.{refl}
use Rattle.metadata_response.specs.Brokers.{at_brokers, filled_is}
use Rattle.body_reading.proofs.Turns.{runs_up, turned_end, turned_next, turned_no, turned_start}
use Rattle.metadata_response.proofs.brokers.brokers_in.Goals as goal

pub loop-init : goal.loop-init
loop-init c = turned_start _ _ _ _ _

pub returns-in_err-all : goal.returns-in_err-all
returns-in_err-all c = runs_up (filled_is _) _ _ c.from_residual.ensures (turned_no _ _ _ _ _ _ _ _ c.loop.invariant c.loop-test.true _ c.in_err-all.ensures (λ e. refl))

pub loop-preserved : goal.loop-preserved
loop-preserved c = turned_next _ _ _ _ _ _ _ _ c.loop.invariant c.loop-test.true _ c.in_ok-all.ensures (at_brokers _ _) (λ e. refl)

pub returns : goal.returns
returns c = turned_end _ _ _ _ _ _ _ _ c.loop.invariant c.loop-test.false
