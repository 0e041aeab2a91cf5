pub mod Registers
pub mod Vp
pub mod Vps
