pub mod Follow
pub mod Numbers
pub mod Leaves
pub mod Pieces
pub mod Blanks
