pub mod Round
pub mod Unique
pub mod Bits
pub mod Decimal
