pub mod OfChars
pub mod OfItems
pub mod OfCounts
pub mod Stores
