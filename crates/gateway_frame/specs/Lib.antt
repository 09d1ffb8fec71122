-- what the entry points hand back
pub mod Replies
