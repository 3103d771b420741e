mod Openings
pub mod Steps
pub mod Accepting
pub mod Completing
