pub mod Bits
pub mod Field
pub mod Flags
pub mod Registers
pub mod Slot
pub mod Vectors
