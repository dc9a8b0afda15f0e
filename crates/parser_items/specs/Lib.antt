pub mod Reads
pub mod Laws
pub mod Follow
pub mod Ranges
