pub mod Frames
pub mod ListContents
pub mod Lists
pub mod Registers
pub mod Texts
pub mod Words
