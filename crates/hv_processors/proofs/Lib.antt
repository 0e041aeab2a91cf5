pub mod WrittenRegister
pub mod CreatedProcessor
