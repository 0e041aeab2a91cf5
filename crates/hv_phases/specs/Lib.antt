pub mod Begun
pub mod Lines
pub mod PassMap
pub mod Read
pub mod Schedule
pub mod Stops
pub mod Turns
