-- what the answers of the calls say in the definition's words
pub mod Answers
-- the layouts of the versions, by what sets them apart: of the items, and of the body
pub mod ItemShapes
pub mod Shapes
-- what the walks over items and over a body say
pub mod ItemWalks
pub mod Walks
-- what the walk to a field passes over
pub mod Seek
-- what the walk to a faulty field says
pub mod Blames
