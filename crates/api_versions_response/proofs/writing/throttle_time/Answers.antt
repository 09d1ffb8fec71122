-- A version that lacks the field writes nothing.
use Rattle.api_versions_response.proofs.Whole.{throttle_lacking, throttle_there}
use Rattle.api_versions_response.proofs.writing.throttle_time.Goals as goal

pub returns-then-throttle : goal.returns-then-throttle
returns-then-throttle c = throttle_there _ _ c.if-throttle.true c.lowest.ensures

pub returns : goal.returns
returns c = throttle_lacking _ _ c.if-throttle.false _
