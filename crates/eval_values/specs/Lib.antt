pub mod Means
pub mod Members
pub mod Ranks
pub mod Alike
pub mod Floats
pub mod Values
pub mod Same
pub mod Near
