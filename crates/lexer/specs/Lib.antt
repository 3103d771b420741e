pub mod Runs
pub mod Keywords
pub mod Names
pub mod Signs
pub mod Numbers
pub mod Tokens
pub mod Lexing
pub mod Layout
