pub mod AccessSteps
pub mod BootedMachine
pub mod Integrity
pub mod BootedRoot
pub mod SoundMachine
pub mod Steps
pub mod Plans
