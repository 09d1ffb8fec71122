use borrow.Author.Rules.{rules}
use Rattle.utf8.proofs.class.Goals as goal

pub returns : goal.returns
returns c = c.requires.at c.args.b (search rules)
