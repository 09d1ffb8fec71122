-- what the walk over the rows of a layout answers
pub mod Walks
-- what a walk over tags answers that begins their rows at once
pub mod AtOnce
-- what answers with the name of a refusal say
pub mod Answers
