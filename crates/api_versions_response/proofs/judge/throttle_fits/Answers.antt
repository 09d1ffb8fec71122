-- A version that lacks the field asks nothing of it.
use Rattle.layout.specs.Primitives.{holds}
use Rattle.body_writing.proofs.Judged.{if_there}
use Rattle.primitives_put.specs.Answers.{within}
use Rattle.api_versions_response.proofs.judge.throttle_fits.Goals as goal

pub returns-else-not-throttle : goal.returns-else-not-throttle
unfolding holds within
returns-else-not-throttle c = if_there c.args.throttle _ c.if-not-throttle.false _ c.fits.ensures
