pub mod Choice
pub mod Chosen
pub mod Drawn
pub mod Graph
pub mod Head
pub mod Sequence
pub mod Shapes
