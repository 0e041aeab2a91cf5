pub mod Copies
pub mod Decoded
pub mod Numbers
