-- the struct of numbers, for each answer of the definitions; and the row that is lent
pub mod Replies
