-- Wait and min bytes go to the rest behind the replica.
use Rattle.fetch_request.proofs.Walk.{lead_put}
use borrow.Author.Rules.{rules}
use Rattle.fetch_request.proofs.writing.lead.Goals as goal

pub returns : goal.returns
returns c = search (rules, lead_put)
