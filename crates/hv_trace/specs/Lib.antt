pub mod Effect
pub mod Framed
pub mod Members
pub mod Perfetto
pub mod Report
pub mod Trace
