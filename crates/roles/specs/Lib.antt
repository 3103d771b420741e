pub mod Roles
pub mod Trees
