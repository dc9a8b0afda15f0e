pub mod Items
pub mod Forms
pub mod Tallies
pub mod Meets
pub mod Series
pub mod Taken
