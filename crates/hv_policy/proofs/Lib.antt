pub mod Filters
pub mod Frames
pub mod Pairs
pub mod Places
pub mod Rows
pub mod SameMail
pub mod Subtrees
pub mod Unmet
