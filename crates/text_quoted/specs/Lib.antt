pub mod Quoted
pub mod Pieces
pub mod Laws
