pub mod Repeats
pub mod Clauses
pub mod Tables
pub mod States
pub mod Statements
pub mod Whole
pub mod Trees
pub mod Grammar
