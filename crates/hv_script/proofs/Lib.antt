pub mod CutLemmas
pub mod LineLemmas
pub mod NumberLemmas
mod RecordLemmas
pub mod WordLemmas
pub mod CallerLemmas
