pub mod Signs
pub mod Bounds
pub mod Turning
pub mod Answers
pub mod Stepping
