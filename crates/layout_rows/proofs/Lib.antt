-- a row and those after it
pub mod Steps
-- the rows are the definition's layouts
pub mod Guide
