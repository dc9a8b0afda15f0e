pub mod Operations
pub mod Powers
pub mod Places
