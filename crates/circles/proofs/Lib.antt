pub mod Numbers
pub mod Steps
pub mod Marks
pub mod Closed
pub mod Named
