pub mod Middle
pub mod Sizes
