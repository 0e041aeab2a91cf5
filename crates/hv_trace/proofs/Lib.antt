mod Framing
mod WrittenParts
mod JoinedMembers
pub mod JoinedNumbers
pub mod NoTag
mod Notes
pub mod PartsInOrder
pub mod WrittenObject
pub mod WrittenRow
