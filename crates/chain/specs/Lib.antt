pub mod Lists
pub mod Nodes
