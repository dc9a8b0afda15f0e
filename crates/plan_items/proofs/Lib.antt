pub mod Words
pub mod Laws
pub mod Sliced
pub mod Called
pub mod Related
