-- Inside the slice its end from there on, and behind it nothing.
use Rattle.primitives.proofs.Behind.{rest_in, rest_out}
use borrow.Author.Rules.{rules}
use Rattle.primitives.proofs.parts.rest.Goals as goal

pub returns-then-used-s : goal.returns-then-used-s
returns-then-used-s c = rest_in c.args.s.now c.args.used

pub returns-else-used-s : goal.returns-else-used-s
returns-else-used-s c = rest_out c.args.s.now c.args.used (search rules)
