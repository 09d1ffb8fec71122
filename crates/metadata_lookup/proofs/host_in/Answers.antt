-- The front of the body is read where the brokers' reader reads it, and the brokers after it.
use Rattle.metadata_lookup.proofs.Bodies.{among, front_no}
use Rattle.metadata_lookup.proofs.host_in.Goals as goal

pub returns-in_err-front : goal.returns-in_err-front
returns-in_err-front c = front_no _ _ _ _ _ _ c.in_err-front.ensures

pub returns : goal.returns
returns c = among _ _ _ _ _ _ _ _ c.in_ok-front.ensures c.seek.ensures
