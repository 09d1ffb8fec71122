-- the rule of the table
pub mod Lines
-- the bytes behind the first, and the whole text
pub mod Steps
-- eight bytes in one number
pub mod Eight
