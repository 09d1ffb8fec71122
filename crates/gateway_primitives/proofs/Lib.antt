-- from what the reader and the writer of a kind promise to the answer by kind
pub mod ByKind
-- a promise determines the reply: by kind, and of the entry points
pub mod UniqueKinds
pub mod Unique
