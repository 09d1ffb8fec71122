-- The cells of the two texts, one behind the other.
use Rattle.gateway_api_versions.proofs.Rows.{texts_told}
use Rattle.gateway_api_versions.proofs.request.accepted.Goals as goal

pub returns : goal.returns
returns c = texts_told c.args.body.name c.args.body.version _ _ _ _ _ _ _ _ c.kind.ensures c.start.ensures c.length.ensures c.kind-2.ensures c.start-2.ensures c.length-2.ensures
