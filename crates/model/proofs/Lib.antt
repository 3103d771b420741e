pub mod Reading
pub mod Mapping
pub mod Working
pub mod Counting
