-- where a field ends
pub mod Ends
-- the walk, step by step
pub mod Ways
-- the name that is given
pub mod Given
-- elements of numbers of one width
pub mod Divided
-- rows of tags that are begun at once
pub mod AtOnce
-- the answers determine what they say
pub mod Unique
