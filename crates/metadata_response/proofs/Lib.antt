-- a broker, read and stored
pub mod BrokerRows
-- numbers whose bytes are there
pub mod There
-- marks, nodes, and arrays of nodes
pub mod NodeRows
-- partitions
pub mod PartitionCells
-- topics
pub mod TopicRows
-- what stands around brokers and topics
pub mod Around
-- the whole reply of a read
pub mod Replies
-- the promises determine the replies
pub mod Unique
-- what stands behind the used bytes, and versions of one layout
pub mod Local
-- the walk to a refused field
pub mod Sought
