pub mod Steps
pub mod LawsSel
pub mod LawsSegs
pub mod LawsOper
pub mod LawsTest
pub mod LawsTop
