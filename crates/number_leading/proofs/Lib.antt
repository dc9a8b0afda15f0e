pub mod Interval
pub mod Shifts
