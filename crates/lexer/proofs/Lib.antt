mod Steps
mod Next
mod Splits
mod Found
pub mod Laws
mod Respacing
