-- A count of −1 is null, and every other goes in front of the names.
use Rattle.metadata_request.proofs.Request.{asked_names, asked_null}
use borrow.Author.Rules.{rules}
use Rattle.metadata_request.proofs.writing.asked.Goals as goal

pub returns-then-count-eq-MINUS_ONE : goal.returns-then-count-eq-MINUS_ONE
returns-then-count-eq-MINUS_ONE c = search (rules, asked_null)

pub returns : goal.returns
returns c = search (rules, asked_names)
