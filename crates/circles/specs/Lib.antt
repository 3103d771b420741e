pub mod Ways
pub mod Circles
pub mod Visits
