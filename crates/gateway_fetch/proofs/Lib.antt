-- own rows
pub mod Rows
-- a promise determines the reply
pub mod Unique
