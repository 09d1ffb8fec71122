-- the first row of a key, and the three rows, as the code finds them
pub mod FirstRow
-- what agreement promises, in the words of the rules
pub mod Choices
