pub mod BlockLists
pub mod Places
pub mod Rising
pub mod Tables
