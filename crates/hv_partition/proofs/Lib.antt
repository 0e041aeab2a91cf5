pub mod Disjoint
pub mod ReplacedPages
