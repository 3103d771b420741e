-- States that hold a reader: what reads on from one answers, with the place in the reader's stead, what the text gives.
use Rattle.std.specs.Prelude.{◌≡◌, ℕ, ◌+◌, ◌-◌, ◌<◌, ◌≤◌, List, length, Some, None, Ok, Err, Option, Result}
use Rattle.faults.specs.declared.Fault.{Fault}
use Rattle.terms.specs.declared.reader.Reader.{Reader}
use Rattle.syntax.specs.declared.limited.Limited.{Limited}
use Rattle.syntax.specs.declared.tables.Rules as rules
use Rattle.syntax.specs.declared.tables.Schema as schema
use Rattle.syntax.specs.Tables.{Rules, Schema}

-- The state behind.
abbrev pub Goes : {S P : Type 0} → (S → Reader) → (S → P) → (List ℕ → P → Result P Fault) → S → Result S Fault → Type 0
Goes reader plain read s (Ok t) = (Ok (plain t) ≡ read (reader s).text.now (plain s)) × ((reader t).text.now ≡ (reader s).text.now)
Goes reader plain read s (Err f) = Err f ≡ read (reader s).text.now (plain s)

-- The state behind one thing more, which is smaller, if one comes.
abbrev pub GoesMore : {S P : Type 0} → (S → Reader) → (S → P) → (List ℕ → P → ℕ) → (List ℕ → P → Result (Option P) Fault) → S → Result (Option S) Fault → Type 0
GoesMore reader plain size read s (Ok (Some t)) =
    (Ok (Some (plain t)) ≡ read (reader s).text.now (plain s)) × ((reader t).text.now ≡ (reader s).text.now) × (size (reader s).text.now (plain t) < size (reader s).text.now (plain s))
GoesMore reader plain size read s (Ok None) = Ok None ≡ read (reader s).text.now (plain s)
GoesMore reader plain size read s (Err f) = Err f ≡ read (reader s).text.now (plain s)

-- The state behind the one thing that comes.
abbrev pub GoesOne : {S P : Type 0} → (S → Reader) → (S → P) → (List ℕ → P → ℕ) → (List ℕ → P → Result (Option P) Fault) → S → Result S Fault → Type 0
GoesOne reader plain size read s (Ok t) =
    (Ok (Some (plain t)) ≡ read (reader s).text.now (plain s)) × ((reader t).text.now ≡ (reader s).text.now) × (size (reader s).text.now (plain t) < size (reader s).text.now (plain s))
GoesOne reader plain size read s (Err f) = Err f ≡ read (reader s).text.now (plain s)

-- A reader, whose text is left from its place on.
abbrev pub left_of : List ℕ → ℕ → ℕ
left_of text at = length text - at

abbrev pub ReadsMore : (List ℕ → ℕ → Result (Option ℕ) Fault) → Reader → Result (Option Reader) Fault → Type 0
ReadsMore read s answer = GoesMore (λ r. r) (λ r. r.at) left_of read s answer

-- A place with room for so many more.
abbrev pub place_of : Limited → ℕ × ℕ
place_of s = (s.at.at, s.room)

abbrev pub room_of : List ℕ → ℕ × ℕ → ℕ
room_of text s = s.1

abbrev pub Within : Limited → Result Limited Fault → Type 0
Within s (Ok t) = t.room ≤ s.room
Within s (Err f) = Unit {0}

abbrev pub Proceeds : (List ℕ → ℕ × ℕ → Result (ℕ × ℕ) Fault) → Limited → Result Limited Fault → Type 0
Proceeds read s answer = Goes (λ r. r.at) place_of read s answer × Within s answer

abbrev pub ProceedsMore : (List ℕ → ℕ × ℕ → Result (Option (ℕ × ℕ)) Fault) → Limited → Result (Option Limited) Fault → Type 0
ProceedsMore read s answer = GoesMore (λ r. r.at) place_of room_of read s answer

-- The references and checks of a table.
abbrev pub rules_of : rules.Rules → Rules
rules_of s = record { end = s.at.at; references = s.references; checks = s.checks; checked = s.checked }

abbrev pub rules_left : List ℕ → Rules → ℕ
rules_left text s = s.references + s.checks

abbrev pub RulesGo : (List ℕ → Rules → Result Rules Fault) → rules.Rules → Result rules.Rules Fault → Type 0
RulesGo read s answer = Goes (λ r. r.at) rules_of read s answer

abbrev pub Fewer : rules.Rules → Result rules.Rules Fault → Type 0
Fewer s (Ok t) = t.references + t.checks < s.references + s.checks
Fewer s (Err f) = Unit {0}

abbrev pub RulesMore : (List ℕ → Rules → Result (Option Rules) Fault) → rules.Rules → Result (Option rules.Rules) Fault → Type 0
RulesMore read s answer = GoesMore (λ r. r.at) rules_of rules_left read s answer

abbrev pub RulesOne : (List ℕ → Rules → Result (Option Rules) Fault) → rules.Rules → Result rules.Rules Fault → Type 0
RulesOne read s answer = GoesOne (λ r. r.at) rules_of rules_left read s answer

-- The tables of a schema.
abbrev pub schema_of : schema.Schema → Schema
schema_of s = record { end = s.rules.at.at; tables = s.tables; references = s.rules.references; checks = s.rules.checks }

abbrev pub tables_left : List ℕ → Schema → ℕ
tables_left text s = s.tables

abbrev pub TablesMore : (List ℕ → Schema → Result (Option Schema) Fault) → schema.Schema → Result (Option schema.Schema) Fault → Type 0
TablesMore read s answer = GoesMore (λ r. r.rules.at) schema_of tables_left read s answer
