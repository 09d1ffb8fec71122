-- what a `?` hands up
pub mod Handed
-- aborted transactions, and arrays of them
pub mod AbortedRows
pub mod AbortedCounts
-- partitions
pub mod PartitionRows
-- topics
pub mod TopicRows
-- the walk over a body
pub mod Whole
-- the whole reply of a read
pub mod Replies
-- the promises determine the replies
pub mod Unique
-- what stands behind the used bytes, and versions of one layout
pub mod Local
-- the walk to a refused field
pub mod Sought
