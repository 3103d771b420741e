mod Fours
mod Rows
mod Walks
