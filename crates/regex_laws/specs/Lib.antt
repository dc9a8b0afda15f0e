pub mod Steps
pub mod Complete
pub mod Sound
pub mod Reading
pub mod Bytes
