-- how code keeps the tables of a body, and what a walk over a part of it promises
pub mod Store
pub mod Walk
-- what the answers of walks say
pub mod Walked
-- what is checked before a walk, and what is known of a message before any room is looked at
pub mod Admission
pub mod Meter
-- a primitive at a place of the message
pub mod Moved
-- the cells of fields that a version may lack, and the front of a body
pub mod Cells
pub mod Fronts
-- the layout of tagged fields, for every message
pub mod Tagged
