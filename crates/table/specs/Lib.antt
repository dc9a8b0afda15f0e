pub mod Buckets
pub mod Chains
pub mod Distinct
pub mod Outcomes
pub mod Words
