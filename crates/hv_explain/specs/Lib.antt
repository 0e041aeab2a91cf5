pub mod Cut
pub mod First
pub mod Followed
pub mod Part
pub mod Written
