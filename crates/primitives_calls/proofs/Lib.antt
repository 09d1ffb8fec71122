-- a number that came through its 64 bits
pub mod Passed
-- a length, a count or what is after a length, written by a call of its own
pub mod Judged
