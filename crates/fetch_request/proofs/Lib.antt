-- bytes one behind the other
pub mod Walk
-- 13, the faults of the own row, 11 and 7 of a topic, and numbers that fit
pub mod Judgement
-- topics off the front of their table
pub mod Topics
-- the most bytes that a request can have
pub mod Most
-- the field that is blamed
pub mod Blamed
-- the answer to the call
pub mod Call
-- the name of the call's refusal
pub mod CallNamed
-- a promise determines reply and output
pub mod Unique
