pub mod Lists
pub mod Parts
pub mod Leaves
pub mod Queries
pub mod Operands
pub mod Relations
pub mod Tests
pub mod One
