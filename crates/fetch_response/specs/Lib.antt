-- what the answers of the calls say in the definition's words
pub mod Answers
-- the layouts of topics, partitions and aborted transactions, and of the body
pub mod TopicShapes
pub mod Shapes
-- what the walks over them say
pub mod TopicWalks
pub mod Walks
-- the part of a partition that a walk to a field takes by itself
pub mod Seek
