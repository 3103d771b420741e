pub mod Pull
pub mod Readers
pub mod Shapes
pub mod Terms
pub mod Trees
pub mod Grammar
