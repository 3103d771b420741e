pub mod Reads
pub mod Visits
pub mod Copies
