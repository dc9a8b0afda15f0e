pub mod Cells
pub mod Loops
pub mod Steps
pub mod Tables
pub mod Writes
pub mod Traces
pub mod Answers
pub mod Interchange
