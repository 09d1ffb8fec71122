-- what a writer leaves in what is left of an output: of one primitive, and of a step of a walk
pub mod Put
pub mod Step
-- what the answers of the calls that write say in the definition's words
pub mod Answers
