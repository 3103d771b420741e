-- The model g, worked out: a table s of a and b with the key a and the check b < 9, and the program
-- `READ(c); n = CATCH(INSERT INTO s VALUES (c,0)); IF (n = 1) THEN UPDATE s SET b = (b + 1) WHERE (a = c); ELSE ROLLBACK(); ENDIF;`.
-- Assumes nothing.
use Rattle.std.specs.Prelude.{◌≡◌, ℕ, zero, suc, true, false, List, [], ◌∷◌, ℤ, pos, negsuc, codes}
use Rattle.std.proofs.Math.Option.{none, some}
use Rattle.meaning.specs.Limits.{default_limit}
use Rattle.meaning.specs.Values.{add, sub, div, less, same}
use Rattle.meaning.specs.Syntax.{num, var, att, op, cmp, insert, update, silent, Block, stop, ◌⨾◌, read, write, rollback, branch, K, C, Mark, branched, wrote}
use Rattle.meaning.specs.Evaluation.{Row, blank, value}
use Rattle.meaning.specs.Schema.{Schema, Model}
use Rattle.meaning.specs.Tables.{Table, Case}
use Rattle.meaning.specs.State.{Stored}
use Rattle.meaning.specs.Records.{Record, def_i, def_t, fact, is, input, table, after, that, limit, keys, check}
use Rattle.meaning.specs.Conditions.{drawn, conditions}
use Rattle.meaning.specs.Truth.{judging, answers, unfit, Judged}
use Rattle.meaning.specs.Following.{Followed, following, Verdict, follows, departs, halted, unlawful, Traced, tracing, Ending, ended, threw}
use Rattle.meaning.specs.Listing.{lines, listing_text}

-- ---- the model, its path, its cases

-- the table s
abbrev pub schema : Schema
schema = record { tables = record { width = 2; key = 0 } ∷ []; refs = []; checks = record { of = 1; at = 1; order = less; bound = pos 9 } ∷ [] }

-- the program
abbrev pub program : Block
program =
    silent (read 0) ⨾ write (insert 1 (var 0 ∷ num (pos 0) ∷ [])) (some 1) ⨾
    branch (cmp same (var 1) (num (pos 1))) (write (update 1 1 (op add (att 1) (num (pos 1))) (cmp same (att 0) (var 0))) none ⨾ stop) (silent rollback ⨾ stop) ⨾ stop

-- the model g
abbrev pub g : Model
g = record { schema = schema; program = program }

-- the path `K T`
abbrev pub KT : List Mark
KT = wrote (some K) ∷ branched true ∷ []

-- the path `K T W`
abbrev pub KTW : List Mark
KTW = wrote (some K) ∷ branched true ∷ wrote none ∷ []

-- a row of s
abbrev pub row : ℕ → ℕ → Row
row a b = pos a ∷ pos b ∷ []

-- so many rows of s
abbrev pub many : ℕ → List Row
many zero = []
many (suc n) = row n 3 ∷ many n

-- the rows of s, and the numbers to READ
abbrev pub case : List Row → List ℤ → Case
case rs zs = record { rows = λ t. rs; reads = zs; lists = [] }

-- the number 7 to READ
abbrev pub seven : List ℤ
seven = pos 7 ∷ []

-- a register with no rows
abbrev pub no_tables : Stored Table
no_tables = record { now = λ t. []; saved = λ t. [] }

-- judging `K T W`
abbrev pub judge : ℕ → Case → Judged
judge R κ = judging g R κ KTW

-- following `K T W`
abbrev pub follow : ℕ → Case → Followed
follow R κ = following g R κ KTW no_tables

-- its verdict and the marks agreed
abbrev pub verdict : ℕ → Case → Verdict × ℕ
verdict R κ = ((follow R κ).verdict, (follow R κ).agreed)

-- tracing into 512 marks
abbrev pub trace : ℕ → Case → Traced
trace R κ = tracing g R κ 512 no_tables

-- its ending and the marks
abbrev pub ending : ℕ → Case → Ending × List Mark
ending R κ = ((trace R κ).ending, (trace R κ).marks)

-- the eleven records of `K T W`
abbrev pub records : List Record
records =
    def_t 1 (table 1) ∷
    fact true (limit (some 1)) ∷
    fact true (keys 1 (some 1)) ∷
    fact true (check 1 (some 1)) ∷
    def_i 1 (input 1) ∷
    def_t 2 (after (some 1) (insert 1 (var (some 1) ∷ num (pos 0) ∷ []))) ∷
    fact false (keys 1 (some 2)) ∷
    def_i 2 (is (num (pos 1))) ∷
    fact true (that (cmp same (var (some 2)) (num (pos 1)))) ∷
    def_t 3 (after (some 1) (update 1 1 (op add (att 1) (num (pos 1))) (cmp same (att 0) (var (some 1))))) ∷
    fact true (check 1 (some 3)) ∷
    []

-- ---- the cases

-- every case, shown
pub record Worked : Type 0 where
  -- the list of `K T W`, and its text
  pub list : conditions g KTW ≡ drawn records
  pub text : listing_text records ≡ lines (
      codes "1 t1 = TABLE 1" ∷
      codes "2 yes LIMIT t1" ∷
      codes "3 yes KEYS t1" ∷
      codes "4 yes CHECK 1 t1" ∷
      codes "5 i1 = READ 1" ∷
      codes "6 t2 = t1 PLUS (i1,0)" ∷
      codes "7 no KEYS t2" ∷
      codes "8 i2 = 1" ∷
      codes "9 yes (i2 = 1)" ∷
      codes "10 t3 = t1 SET .2 (.2 + 1) WHERE (.1 = i1)" ∷
      codes "11 yes CHECK 1 t3" ∷
      [])
  -- `K T` misses a mark behind its two
  pub short_path : judging g 4 (case (row 7 3 ∷ []) seven) KT ≡ unfit 2
  -- (7,3) and 7 satisfy the list: the path is followed to its end, and the change committed
  pub satisfies : judge 4 (case (row 7 3 ∷ []) seven) ≡ answers 0
  pub follows_it : verdict 4 (case (row 7 3 ∷ []) seven) ≡ (follows, 3)
  pub changed_now : (follow 4 (case (row 7 3 ∷ []) seven)).tables.now 1 ≡ row 7 4 ∷ []
  pub changed_saved : (follow 4 (case (row 7 3 ∷ []) seven)).tables.saved 1 ≡ row 7 4 ∷ []
  pub ends_so : ending 4 (case (row 7 3 ∷ []) seven) ≡ (ended, KTW)
  -- (7,8) and 7 fail at 11, and trace `K T C1`, thrown and rolled back
  pub fails_at_11 : judge 4 (case (row 7 8 ∷ []) seven) ≡ answers 11
  pub departs_there : verdict 4 (case (row 7 8 ∷ []) seven) ≡ (departs, 2)
  pub throws_so : ending 4 (case (row 7 8 ∷ []) seven) ≡ (threw, wrote (some K) ∷ branched true ∷ wrote (some (C 1)) ∷ [])
  pub rolled_back_lem : (trace 4 (case (row 7 8 ∷ []) seven)).tables.now 1 ≡ row 7 8 ∷ []
  -- no rows and 7 trace `W E`, and the insert is rolled back
  pub other_way : ending 4 (case [] seven) ≡ (ended, wrote none ∷ branched false ∷ [])
  pub empty_again : (trace 4 (case [] seven)).tables.now 1 ≡ []
  -- unlawful starts: (7,9) breaks the check, (7,3) and (7,4) share a key
  pub fails_at_4 : judge 4 (case (row 7 9 ∷ []) seven) ≡ answers 4
  pub unlawful_9 : verdict 4 (case (row 7 9 ∷ []) seven) ≡ (unlawful, 0)
  pub fails_at_3 : judge 4 (case (row 7 3 ∷ row 7 4 ∷ []) seven) ≡ answers 3
  pub unlawful_7 : verdict 4 (case (row 7 3 ∷ row 7 4 ∷ []) seven) ≡ (unlawful, 0)
  -- halts: at the limit 1 there is no room for the insert, and without an input READ has no value
  pub fails_at_6 : judge 1 (case (row 7 3 ∷ []) seven) ≡ answers 6
  pub halts_full : verdict 1 (case (row 7 3 ∷ []) seven) ≡ (halted, 0)
  pub fails_at_5 : judge 4 (case (row 7 3 ∷ []) []) ≡ answers 5
  pub halts_unread : verdict 4 (case (row 7 3 ∷ []) []) ≡ (halted, 0)
  -- 64 rows pass record 2 at the limit 64, where the insert then meets the limit; 65 fail
  pub rows_64 : judge default_limit (case (many 64) seven) ≡ answers 6
  pub rows_65 : judge default_limit (case (many 65) seven) ≡ answers 2
  -- `((0 - 5) / 2)` is −2, and `(1000000000 + 1)` has no value
  pub toward_zero : value blank none (op div (op sub (num (pos 0)) (num (pos 5))) (num (pos 2))) ≡ some (negsuc 1)
  pub too_large : value blank none (op add (num (pos 1000000000)) (num (pos 1))) ≡ none
