pub mod Beside
pub mod History
pub mod Justified
pub mod Kept
pub mod Row
pub mod Run
