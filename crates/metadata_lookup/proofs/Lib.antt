-- each way out of the search for a host; what it finds is what the lookup tells, and so the whole answer
pub mod Bodies
-- the answer is the only one
pub mod Unique
