-- read: a tag's row, the number of tags and the tags, and the whole reply
pub mod Replies
-- written: part by part, from a row to the answer of the call
pub mod Tags
-- written: they have no part in the name of a refusal
pub mod Blamed
-- the promise determines the reply and the table
pub mod Unique
