pub mod Marks
pub mod Spelling
pub mod Reading
pub mod Answers
