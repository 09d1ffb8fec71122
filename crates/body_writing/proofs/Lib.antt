-- 13: rows off the front of a table, ranges and parts of the lent bytes, counts, cells; and of one table and of two, as code checks it
pub mod Fronts
pub mod Inside
pub mod Counts
pub mod Lent
-- 11 and 7: all rows of a table tested, and faults that all have the same number
pub mod Judged
pub mod Faults
-- rows one by one: what they mean, the first fault, and bytes one after the other
pub mod Turns
-- rows as they are written: a text, an array after its number, and null; rows that all have the same number of bytes
pub mod Even
-- the bytes and the first fault of what tables mean: rows with no arrays, and rows that take rows of another table, as those that end with an array of them do
pub mod Writes
pub mod Nested
-- from what a body's writer promises to the call's answer
pub mod Called
-- the first field that has a fault, step by step; in rows that take rows of another table; and the name of a refusal, from what the walk came to
pub mod Blaming
pub mod BlamingRows
pub mod NamedFaults
