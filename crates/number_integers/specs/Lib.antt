pub mod Signed
pub mod Compare
pub mod Tests
pub mod Signs
