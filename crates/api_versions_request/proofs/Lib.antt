-- a request into its row and table, and the whole reply of a read
pub mod Replies
-- the walk to a field
pub mod Sought
-- a request that is written, part by part
pub mod Request
-- the name of a refused write
pub mod NamedWritten
-- a promise determines reply, table and output
pub mod Unique
-- what stands behind the used bytes has no part in the answer
pub mod Local
