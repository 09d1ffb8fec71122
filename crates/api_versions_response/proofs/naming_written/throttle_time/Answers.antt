-- The throttle time is compared at versions that have it.
use mathlib.Core.Path.{◌∙◌, ap}
use mathlib.Core.Bool.{Bool}
use Rattle.layout.specs.Primitives.{w32}
use Rattle.layout.specs.Write.{unless}
use Rattle.primitives_put.proofs.Carried.{is_held}
use Rattle.api_versions_response.proofs.Blamed.{throttle_here, throttle_lacking, throttle_past}
use Rattle.api_versions_response.proofs.naming_written.throttle_time.Goals as goal

pub returns-then-not-throttle : goal.returns-then-not-throttle
returns-then-not-throttle c = throttle_lacking _ _ c.args.throttle c.if-not-throttle.true

pub returns-then-number_fault-e : goal.returns-then-number_fault-e
returns-then-number_fault-e c = throttle_here _ _ c.args.throttle c.if-not-throttle.false _ (c.number_fault.ensures ∙ ap (λ (b : Bool). unless b 11) (is_held w32 _)) c.if-number_fault-e.true

pub returns : goal.returns
returns c = throttle_past _ _ c.args.throttle c.if-not-throttle.false _ (c.number_fault.ensures ∙ ap (λ (b : Bool). unless b 11) (is_held w32 _)) c.if-number_fault-e.false
