-- One kind after the other.
use Rattle.gateway_frame.proofs.Rows.{null_client, present_client, unset_client}
use borrow.Author.Rules.{rules}
use Rattle.gateway_frame.proofs.request.client_of.Goals as goal

pub returns-in-0 : goal.returns-in-0
returns-in-0 c = unset_client _ _ _ c.in-0.is

pub returns-in-1 : goal.returns-in-1
returns-in-1 c = null_client _ _ _ c.in-1.is

pub returns-in_default : goal.returns-in_default
returns-in_default c = present_client _ _ _ (search rules) (search rules)
