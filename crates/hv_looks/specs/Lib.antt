pub mod Look
pub mod Rows
