pub mod Chars
pub mod Classes
pub mod Laws
