-- what the answers of the calls say in the definition's words
pub mod Answers
-- what the walks over headers say
pub mod Walks
-- the parts of a header's layout
pub mod Shapes
