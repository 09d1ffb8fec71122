-- from what a library's call promises to the numbers that an entry point hands back
pub mod Told
-- a promise determines the reply
pub mod Unique
