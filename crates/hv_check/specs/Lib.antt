pub mod From
pub mod Legal
pub mod Parted
pub mod Tail
pub mod Takes
pub mod Verdict
