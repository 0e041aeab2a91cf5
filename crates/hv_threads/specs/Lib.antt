pub mod Acted
pub mod Perform
pub mod Phase
