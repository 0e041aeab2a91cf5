pub mod Bounded
pub mod StateInvariant
