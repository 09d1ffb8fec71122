-- With tags an item is walked over, without them all are passed over at once.
use Rattle.api_versions_response.proofs.Sought.{tagged, untagged}
use borrow.Author.Rules.{rules}
use Rattle.api_versions_response.proofs.naming.items.Goals as goal

pub returns-then-flexible : goal.returns-then-flexible
returns-then-flexible c = tagged _ _ _ _ _ _ _ c.if-flexible.true (c.rows.ensures _ _ _ (record { law = λ n row b r d h. search rules }))

pub returns : goal.returns
returns c = search (rules, untagged)
