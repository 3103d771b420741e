-- What a view of a case file shows.
use Rattle.std.specs.Prelude.{ℕ, Ok, Err, Result}
use Rattle.faults.specs.declared.Fault.{Fault}
use Rattle.meaning.specs.Tables.{Case}
use Rattle.cases.specs.declared.view.Case.{Case as View}
use Rattle.cases.specs.Meaning.{case_of}

-- The case that a view shows.
abbrev pub shown : View → Case
shown v = case_of v.file.bytes.now v.widths.now v.file.records

-- What reading answers, apart from the memory that it borrows.
abbrev pub case_read : Result View Fault → Result ℕ Fault
case_read (Ok v) = Ok v.file.records
case_read (Err f) = Err f
