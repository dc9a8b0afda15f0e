pub mod Chars
pub mod Words
pub mod Regexp
pub mod Laws
pub mod Agree
pub mod Scope
pub mod Grammar
pub mod Read
