-- The cells of the throttle time, and the number of topics behind them.
use Rattle.gateway_fetch.proofs.Rows.{time_told}
use Rattle.gateway_fetch.proofs.response.accepted.Goals as goal

pub returns : goal.returns
returns c = time_told _ _ c.args.body.throttle _ _ _ c.accepted.ensures c.kind.ensures c.given.ensures
