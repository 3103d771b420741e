-- The numbers that bound the bench, each in one place. Assumes nothing.
use Rattle.std.specs.Prelude.{ℕ, ℤ, pos, negsuc}

-- a value is from −1,000,000,000
abbrev pub lowest : ℤ
lowest = negsuc 999999999

-- to 1,000,000,000
abbrev pub highest : ℤ
highest = pos 1000000000

-- a row has room for 8 values: a table has at most as many attributes
abbrev pub row_width : ℕ
row_width = 8

-- the row limit is from 1 to 64
abbrev pub greatest_limit : ℕ
greatest_limit = 64

-- a call that names no row limit takes 64
abbrev pub default_limit : ℕ
default_limit = 64

-- a path has at most 512 marks, and a longer buffer for a trace counts as 512
abbrev pub longest_path : ℕ
longest_path = 512
