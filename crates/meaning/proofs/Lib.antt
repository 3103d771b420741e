-- Missing values, lists and tables.
pub mod Basics
pub mod Members
pub mod Rows
pub mod Lawful
-- A write that passes its tests keeps tables lawful.
pub mod Safety
pub mod Performs
-- The list of a path means that the run follows it; judging; one path.
pub mod Moves
pub mod Moving
pub mod Meaning
pub mod States
pub mod Symbols
pub mod Defining
pub mod Marking
pub mod Walking
pub mod Opening
pub mod Judging
pub mod OnePath
-- Following and tracing; what runs and registers keep.
pub mod Coming
pub mod Followed
pub mod Runs
pub mod Ranges
pub mod RunRanges
pub mod Cursors
pub mod Lives
-- The theorems and the worked cases.
pub mod Theorems
pub mod Worked
-- For code that is held to the definitions: loops over rows, references and lines; rows at their places; arrays and rows as functions;
-- drawing, fitting and judging step by step; following and tracing by single steps.
pub mod Loops
pub mod Places
pub mod Arrays
pub mod Drawing
pub mod Fitting
pub mod Folding
pub mod Stepping
