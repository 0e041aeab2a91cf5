pub mod Change
pub mod Given
pub mod MaySet
pub mod PoolChange
