pub mod PageOwners
pub mod PartitionLooks
pub mod ProcessorLooks
pub mod LooksAsAccesses
