pub mod Spelled
pub mod Schema
pub mod Scopes
pub mod Binding
pub mod Onward
pub mod Faults
