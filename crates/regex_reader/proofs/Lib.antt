pub mod Parts
pub mod OfClasses
pub mod OfAtoms
pub mod OfNested
