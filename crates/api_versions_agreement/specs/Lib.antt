-- agreement, with its numbers shown
pub mod Agreed
