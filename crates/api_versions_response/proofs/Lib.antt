-- read: an item into the tables, and one without tags
pub mod BareRows
-- read: throttle time, the body's own tags, and the whole body
pub mod AroundItems
-- the walk to a field
pub mod Sought
-- the whole reply of a read, and the only one
pub mod Replies
pub mod Unique
-- demand 3 and what is after the used bytes, of the calls themselves
pub mod FearedNight
-- written: 13 of a response, and 11 of its numbers
pub mod Good
pub mod Fits
-- written: an item, the loop over items, and items without tags
pub mod ItemsWritten
pub mod Untagged
-- written: a whole response part by part, the answer to the call, and the only one
pub mod Whole
-- written: the walk to a field with a fault, and the name of a refusal
pub mod Blamed
pub mod NamedWritten
pub mod UniqueWritten
