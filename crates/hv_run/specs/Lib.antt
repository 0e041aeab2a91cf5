pub mod Failure
pub mod Written
pub mod Usage
