pub mod Asked
pub mod Place
