-- own rows, and agreement's rows one after the other
pub mod Rows
pub mod NineNumbers
-- a promise determines the reply: of the bodies, and of the agreement
pub mod Unique
pub mod UniqueAgreed
