pub mod Elements
mod Fresh
pub mod Links
pub mod Slots
mod Walks
