-- the class of a byte, by the grammar of text
pub mod Class
