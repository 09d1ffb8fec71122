-- The cells of the client name among the others.
use Rattle.gateway_frame.proofs.Rows.{client_told}
use Rattle.gateway_frame.proofs.request.accepted.Goals as goal

pub returns : goal.returns
returns c = client_told _ _ _ _ _ _ _ c.args.frame.header.client_id _ _ _ _ c.accepted.ensures c.field_kind.ensures c.field_start.ensures c.field_length.ensures
