pub mod Links
pub mod Partition
