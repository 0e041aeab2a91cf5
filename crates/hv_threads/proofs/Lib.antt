pub mod ActOutcomes
pub mod OwnReceipts
pub mod TaskOutcomes
pub mod WorkSteps
