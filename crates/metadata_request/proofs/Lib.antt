-- a request part by part, and the answer to the call
pub mod Request
-- the field that is blamed
pub mod Blamed
-- a promise determines reply and output
pub mod Unique
