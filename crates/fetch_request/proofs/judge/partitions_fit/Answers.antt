-- What is small fits.
use mathlib.Core.Path.{◌∙◌, sym}
use Rattle.fetch_request.proofs.Judgement.{sure}
use Rattle.fetch_request.proofs.judge.partitions_fit.Goals as goal

pub returns-then-all_small : goal.returns-then-all_small
returns-then-all_small c = sym c.if-all_small.true ∙ sure c.all_small.ensures c.if-all_small.true

pub returns : goal.returns
returns c = c.all_fit.ensures
