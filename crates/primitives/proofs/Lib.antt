-- big-endian numbers, and what a cell's reader gives; signed numbers
pub mod Cells
pub mod Signed
-- the loop of an unsigned varint, and zigzag
pub mod Varint
-- lengths and counts, what is after them, and what is left of a slice
pub mod Behind
-- versions, and a Boolean as a number
pub mod Versions
-- a primitive called by itself
pub mod Alone
-- a promise determines the reply: numbers, and counts, data and texts
pub mod Unique
pub mod UniqueParts
-- what a `?` hands up
pub mod Up
