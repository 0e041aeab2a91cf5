pub mod Elements
pub mod PairedHistories
pub mod Rows
pub mod Runs
