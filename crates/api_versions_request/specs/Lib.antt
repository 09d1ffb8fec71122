-- what the answers of the calls say in the definition's words
pub mod Answers
-- what the walk over a request says
pub mod Walks
-- the layout of a version
pub mod Shapes
