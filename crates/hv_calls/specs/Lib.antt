pub mod Bytes
pub mod Call
pub mod Fields
pub mod Params
