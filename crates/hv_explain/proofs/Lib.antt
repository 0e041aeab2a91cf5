pub mod WrittenLines
pub mod AskedActions
pub mod BrokenOff
pub mod Lines
pub mod Following
mod LastEntry
pub mod RunLines
