pub mod Exponents
pub mod Ranges
