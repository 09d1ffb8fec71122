-- what the answers of the calls say in the definition's words
pub mod Answers
-- a broker's layout, and what the walks over brokers say
pub mod Brokers
-- the layouts of topics, partitions and nodes, and of the body
pub mod TopicShapes
pub mod Shapes
-- what the walks over them say
pub mod TopicWalks
pub mod Walks
-- marks
pub mod Numbers
-- the parts that a walk to a field takes by themselves
pub mod Seek
