-- Each way out settles the definition's test of client name and tags.
use mathlib.Core.Path.{◌∙◌}
use Rattle.frame.proofs.RequestWritten.{request_last, request_out}
use Rattle.frame.proofs.writing.is_request_good.Goals as goal

pub returns-then-is_client_good : goal.returns-then-is_client_good
returns-then-is_client_good c = request_last c.args.header c.args.tags.now _ _ c.is_client_good.ensures c.if-is_client_good.true _ c.is_good.ensures

pub returns-else-is_client_good : goal.returns-else-is_client_good
returns-else-is_client_good c = c.if-is_client_good.false ∙ request_out c.args.header c.args.tags.now _ _ c.is_client_good.ensures c.if-is_client_good.false
