pub mod Reads
pub mod Bools
pub mod Lists
pub mod Stores
