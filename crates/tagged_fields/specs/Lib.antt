-- what the readers of tagged fields answer, in the definition's words
pub mod Read
