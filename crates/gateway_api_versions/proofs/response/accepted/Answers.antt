-- The cells of the throttle time stand among the others.
use Rattle.gateway_api_versions.proofs.Rows.{time_told}
use Rattle.gateway_api_versions.proofs.response.accepted.Goals as goal

pub returns : goal.returns
returns c = time_told _ _ _ _ c.args.body.throttle _ _ c.kind.ensures c.given.ensures
