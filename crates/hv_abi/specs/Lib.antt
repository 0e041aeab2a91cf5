pub mod CallRow
pub mod Check
pub mod InputValue
pub mod Status
