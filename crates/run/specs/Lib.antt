pub mod Outcomes
pub mod Tops
pub mod One
