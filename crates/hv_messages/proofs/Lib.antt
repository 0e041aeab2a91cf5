pub mod Outcomes
pub mod VpEffects
