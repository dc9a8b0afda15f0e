pub mod Walks
pub mod Laws
pub mod Walking
pub mod Meaning
