-- What a walk over scratch tells of the message.
use Rattle.metadata_response.proofs.Replies.{measured}
use Rattle.metadata_response.proofs.reading.walked.Goals as goal

pub returns : goal.returns
returns c = measured _ _ _ _ _ _ _ c.requires.0 c.requires.1 _ _ _ _ _ c.body_at.result c.body_at.ensures
