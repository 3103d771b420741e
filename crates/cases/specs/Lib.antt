pub mod Words
pub mod Ranges
pub mod Chains
pub mod Meaning
pub mod View
pub mod Trails
