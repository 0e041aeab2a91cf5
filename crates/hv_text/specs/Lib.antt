pub mod Audit
pub mod Fault
pub mod Rows
pub mod Table
