pub mod Ends
pub mod EndLaws
pub mod Leaves
pub mod LeafLaws
pub mod SliceLaws
pub mod Regexes
pub mod OpLaws
