-- readers, and what they refuse
pub mod Reading
-- text by RFC 3629
pub mod Utf8
-- the primitives, read and written
pub mod Primitives
-- layouts as rows, their versions and values
pub mod Rows
-- the one reader and the one writer of all layouts
pub mod Read
pub mod Write
-- values as rows of cells in lent tables, and which tables can be written
pub mod Tables
-- the row and the field of a refusal
pub mod Names
-- the whole reply of every call
pub mod Answers
-- frames: size, header and body
pub mod Frames
-- what comes back of what was written, cell by cell
pub mod Settled
-- the rows of each message
pub mod Messages
-- version agreement and address lookup
pub mod Agreement
pub mod Lookup
