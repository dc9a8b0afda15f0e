pub mod Steps
pub mod Picks
pub mod Lists
pub mod Logic
pub mod Enclosed
pub mod Operands
pub mod Basics
pub mod Chains
