-- tools: tests of numbers, what every step of a reader keeps, a reader's steps backward, what it gives, what holds of all texts of a value, sums, the rows of a table
pub mod Tests
pub mod Kept
pub mod Steps
pub mod Gives
pub mod Every
pub mod Sums
pub mod Chunks
-- primitives: numbers as cells, text by the grammar
pub mod Cells
pub mod Text
-- an accepted read rests on the bytes it used; a refused one tells a number and a place in the message
pub mod Local
pub mod Refusals
pub mod BadLetter
-- a value that is refused is named by its first field with a fault
pub mod Blamed
-- a refusal's name is the field that refused
pub mod Found
-- what is written reads back, zigzag too
pub mod Back
-- with shortest varints, what is read is written the same; and what was read has no 7 or 11
pub mod Strict
pub mod Clean
-- readers that differ in what a text is, or in how rows are kept, give the same
pub mod Link
-- the rows that a read keeps are those that a write takes, and mean the value
pub mod Same
pub mod Decode
pub mod Parts
pub mod Trip
-- what is written comes back settled: absent where the version lacks it, at its default where it was unset
pub mod Settled
pub mod SettledRows
-- what each table holds, and the need; 13 is not given for what was read
pub mod Contents
pub mod Good
-- messages: what each owes, and the laws of its calls
pub mod Proper
pub mod Calls
-- every row that was written comes back
pub mod AllRows
pub mod Returned
-- ApiVersions responses: no body is good at two layouts, what was read is written again, and the mission's third demand
pub mod Exclusive
pub mod Demand3
-- frames: what is after one has no part; what was written comes back
pub mod Frames
pub mod Headers
-- names of refusals, in bodies and in frames
pub mod Named
-- version agreement and address lookup
pub mod FirstRow
pub mod Agreed
pub mod Looked
-- the worked examples, computed
pub mod Examples
