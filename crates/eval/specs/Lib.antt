pub mod Calls
pub mod Answers
pub mod Queries
pub mod Loops
pub mod Columns
pub mod Fronts
pub mod Alone
pub mod Aheads
