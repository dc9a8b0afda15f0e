pub mod States
pub mod Ready
pub mod Texts
pub mod Rooms
