-- what a writer leaves, the lowest bytes of a number, and the shortest form of an unsigned varint
pub mod Stored
pub mod Shortest
-- bytes copied, at once and in parts, and what is after its length
pub mod Parts
-- the cell of a number, and the width that holds it
pub mod Carried
-- a step after another, and item after item; the same for walks, whose counts stop above the limit
pub mod Capped
-- the answer of a call: of a primitive by itself, and of a body, which is a refusal or its bytes
pub mod Answered
-- one walk, run twice: measured, and then written
pub mod Measured
-- a promise determines the reply and the output
pub mod Unique
