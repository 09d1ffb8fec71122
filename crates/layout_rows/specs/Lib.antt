-- the rows of all layouts
pub mod Rows
-- the layout that rows give at a version
pub mod Shapes
