pub mod Lent
pub mod Asks
pub mod Steady
pub mod Kinds
pub mod Cells
pub mod Rows
