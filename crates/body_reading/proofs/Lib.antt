-- a primitive at a place of the message: on the rest from there, and on just its bytes
pub mod Moves
pub mod FrontAt
-- counts, texts and data there, and data after a length with no null
pub mod DataAt
-- a field that the version may lack, read alone, and from its cells
pub mod Alone
pub mod Unique
-- readers one after the other, a field as a step of a walk, a loop over items, and a row read as its cells
pub mod Chains
-- loops over items that count up, and refusals that are handed up
pub mod Turns
pub mod RowCells
-- stores one after the other, and how many cells a body lays
pub mod Stores
pub mod Bound
-- the parts of a row: all of it as one read and one store, the fields at its front, two parts, its end and its arrays, an array whose table is beside that of the row
pub mod Front
pub mod Joined
pub mod Arrays
pub mod Beside
-- the front of a body, and bodies that begin so
pub mod Fronts
-- two ways of keeping rows; from a walk to the rows that it read, and to the answer of a call, with room table by table
pub mod Close
pub mod Reply
pub mod OneTable
-- a read that measures first: what is checked before it, and the measure
pub mod Admission
pub mod Metered
