-- what the request says in the definition's words
pub mod Answers
-- the layout of a version
pub mod Shapes
