pub mod AfterLine
mod AuditEnd
mod Compared
mod Digits
mod LastEntry
mod LineTexts
mod NamedProcessor
mod NextEvent
mod Phases
pub mod Reading
mod RemainingActions
mod Runs
mod ScriptTexts
mod Steps
mod WholeAudit
