-- what is asked of lent rows and bytes
pub mod Asked
-- what a writer of a part of a body promises
pub mod Writes
-- what a walk to a faulty field answers
pub mod Blames
