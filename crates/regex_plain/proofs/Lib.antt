pub mod Codes
pub mod Texts
