pub mod NarrowedFamilies
pub mod FlagLines
pub mod Policies
pub mod NewProcessor
pub mod Takers
