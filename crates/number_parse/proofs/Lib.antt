pub mod Signed
pub mod Ints
pub mod Wholes
pub mod Chars
pub mod Fractions
pub mod Exponents
pub mod Values
pub mod Together
