pub mod Flags
pub mod Mail
pub mod Message
pub mod Queue
pub mod Slot
pub mod Tally
pub mod Words
