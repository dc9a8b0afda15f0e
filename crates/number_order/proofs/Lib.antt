pub mod Orders
pub mod Signs
pub mod Patterns
pub mod Shifts
pub mod Mixed
