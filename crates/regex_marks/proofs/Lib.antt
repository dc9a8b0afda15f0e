pub mod Turns
pub mod Frames
pub mod Hollow
pub mod Moved
pub mod Laws
pub mod Runs
pub mod Words
