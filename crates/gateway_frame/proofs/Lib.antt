-- the entry points: their replies, and rows as they are lent
pub mod Rows
-- a promise determines the reply
pub mod Unique
