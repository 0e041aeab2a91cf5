pub mod Outputs
pub mod Rows
pub mod WrittenText
pub mod TableOfState
