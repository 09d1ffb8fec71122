-- the kinds of primitives, read and written
pub mod Kinds
-- the structs of numbers, for each answer of the definitions
pub mod Replies
