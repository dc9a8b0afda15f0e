pub mod Near
pub mod Round
pub mod Unique
pub mod Decided
pub mod Bits
pub mod Decimal
