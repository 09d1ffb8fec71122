-- the structs of numbers, for each answer of the definitions; and the rows that are lent
pub mod Replies
-- the numbers of the agreement, row after row
pub mod Agreed
