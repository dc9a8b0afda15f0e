pub mod Places
pub mod Loops
pub mod Unique
pub mod Shapes
pub mod Bits
