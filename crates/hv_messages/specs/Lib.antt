pub mod Processor
pub mod ResolvedPort
