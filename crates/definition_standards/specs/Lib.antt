pub mod Walks
pub mod Loops
pub mod Signs
pub mod Slices
pub mod Ends
