-- A number refuses; and else the bytes are stored.
use Rattle.primitives_put.proofs.Answered.{answered_alone, refused_alone}
use Rattle.fetch_request.proofs.Judgement.{fault_good, good_enough}
use Rattle.fetch_request.proofs.writing.written.Goals as goal

pub returns-then-e-ne0 : goal.returns-then-e-ne0
returns-then-e-ne0 c = refused_alone _ _ _ _ c.at.ensures c.if-e-ne0.true c.refusal-e.ensures

pub stored-requires : goal.stored-requires
stored-requires c = good_enough _ _ _ _ (fault_good _ _ _ _ _ c.refusal-e.ensures c.if-e-ne0.false)

pub returns : goal.returns
returns c = answered_alone _ _ _ c.refusal-e.ensures c.if-e-ne0.false c.stored.ensures
