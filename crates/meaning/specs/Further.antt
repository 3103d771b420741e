-- Further cases: a model with two tables, a reference, a cursor and a loop; and the ways in which a run is over. Assumes nothing.
use Rattle.std.specs.Prelude.{◌≡◌, zero, suc, true, false, List, [], ◌∷◌, pos, codes}
use Rattle.std.proofs.Math.Option.{some, none}
use Rattle.meaning.specs.Values.{add, less, same, more, and}
use Rattle.meaning.specs.Syntax.{num, var, att, head, get, op, con, non, cmp, nil, tru, insert, update, delete, silent, stop, ◌⨾◌, assign, tail, load, select, commit, rollback, next, write, branch, while, K, D, Mark, branched, turned, fetched, wrote}
use Rattle.meaning.specs.Schema.{Model}
use Rattle.meaning.specs.Tables.{Case}
use Rattle.meaning.specs.Conditions.{Drawn, refused, drawn, conditions}
use Rattle.meaning.specs.Truth.{judging, answers}
use Rattle.meaning.specs.Following.{following, follows, departs, halted, tracing, ended, threw, cut}
use Rattle.meaning.specs.Register.{no_rows}
use Rattle.meaning.specs.Listing.{Text, lines, listing_text}
use Rattle.meaning.specs.Worked.{schema, row, no_tables}

-- ---- a sweep

-- a table p of a and b with the key a, a table q of k and r with the key k where r refers to p, and the program
-- `v = SELECT a FROM p WHERE TRUE; n = CATCH(NEXT(v)); WHILE (n = 0) DO m = CATCH(DELETE FROM p WHERE (a = v(a))); n = CATCH(NEXT(v)); ENDWHILE;`,
-- which deletes every row of p that q does not hold
abbrev pub sweep : Model
sweep = record {
  schema = record { tables = record { width = 2; key = 0 } ∷ record { width = 2; key = 0 } ∷ []; refs = record { of = 2; from = 1; to = 1 } ∷ []; checks = [] };
  program =
      silent (select 0 1 tru) ⨾ next 0 (some 0) ⨾
      while (cmp same (var 0) (num (pos 0))) (write (delete 1 (cmp same (att 0) (get 0 0))) (some 1) ⨾ next 0 (some 0) ⨾ stop) ⨾ stop;
}

-- the path `N L D1 N L W X O`
abbrev pub path : List Mark
path = fetched true ∷ turned true ∷ wrote (some (D 1)) ∷ fetched true ∷ turned true ∷ wrote none ∷ fetched false ∷ turned false ∷ []

-- (8,0) and (5,0) in p, of which (1,5) in q holds the second
abbrev pub held : Case
held = record { rows = elim [ zero ↦ [] | suc n ↦ elim n [ zero ↦ row 8 0 ∷ row 5 0 ∷ [] | suc m ↦ row 1 5 ∷ [] ] ]; reads = []; lists = [] }

-- the text of a list
abbrev pub drawn_text : Drawn → Text
drawn_text (refused n) = []
drawn_text (drawn rs) = listing_text rs

-- the same without the row that holds it
abbrev pub free : Case
free = record { rows = elim [ zero ↦ [] | suc n ↦ elim n [ zero ↦ row 8 0 ∷ row 5 0 ∷ [] | suc m ↦ [] ] ]; reads = []; lists = [] }

-- ---- a key changed, then a commit and a rollback

-- the tables p and q, and the program `LOAD(l); x = l.HEAD; l = l.TAIL; UPDATE p SET a = (a + x) WHERE (a > x); COMMIT(); DELETE FROM p WHERE (a = x); ROLLBACK();
-- v = SELECT a FROM p WHERE TRUE; y = m.HEAD; IF ((m = NIL) && (!(x < y))) THEN ELSE ENDIF;`
abbrev pub shift : Model
shift = record {
  schema = sweep.schema;
  program =
      silent (load 0) ⨾ silent (assign 0 (head 0)) ⨾ silent (tail 0 0) ⨾ write (update 1 0 (op add (att 0) (var 0)) (cmp more (att 0) (var 0))) none ⨾ silent commit ⨾
      write (delete 1 (cmp same (att 0) (var 0))) none ⨾ silent rollback ⨾ silent (select 0 1 tru) ⨾ silent (assign 1 (head 1)) ⨾
      branch (con and (nil 1) (non (cmp less (var 0) (var 1)))) stop stop ⨾ stop;
}

-- the path `W W T`
abbrev pub WWT : List Mark
WWT = wrote none ∷ wrote none ∷ branched true ∷ []

-- ---- one row twice

-- the table s, and a program that inserts (1,0) twice: `INSERT INTO s VALUES (1,0); INSERT INTO s VALUES (1,0);`
abbrev pub twice : Model
twice = record { schema = schema; program = write (insert 1 (num (pos 1) ∷ num (pos 0) ∷ [])) none ⨾ write (insert 1 (num (pos 1) ∷ num (pos 0) ∷ [])) none ⨾ stop }

-- the path `W K`
abbrev pub WK : List Mark
WK = wrote none ∷ wrote (some K) ∷ []

-- the path `W W`
abbrev pub WW : List Mark
WW = wrote none ∷ wrote none ∷ []

-- ---- the cases

-- every case, shown
pub record Further : Type 0 where
  -- the list of the sweep's path
  pub text : drawn_text (conditions sweep path) ≡ lines (
      codes "1 t1 = TABLE 1" ∷
      codes "2 t2 = TABLE 2" ∷
      codes "3 yes LIMIT t1" ∷
      codes "4 yes KEYS t1" ∷
      codes "5 yes LIMIT t2" ∷
      codes "6 yes KEYS t2" ∷
      codes "7 yes REF 1 t2 t1" ∷
      codes "8 t3 = t1 KEEP TRUE" ∷
      codes "9 yes ROWS t3" ∷
      codes "10 i1 = 0" ∷
      codes "11 yes (i1 = 0)" ∷
      codes "12 t4 = t1 MINUS (.1 = t3.1)" ∷
      codes "13 yes HELD 1 t2 t1 (.1 = t3.1)" ∷
      codes "14 i2 = 1" ∷
      codes "15 t5 = REST t3" ∷
      codes "16 yes ROWS t5" ∷
      codes "17 i3 = 0" ∷
      codes "18 yes (i3 = 0)" ∷
      codes "19 t6 = t1 MINUS (.1 = t5.1)" ∷
      codes "20 no HELD 1 t2 t1 (.1 = t5.1)" ∷
      codes "21 i4 = 0" ∷
      codes "22 t7 = REST t5" ∷
      codes "23 no ROWS t7" ∷
      codes "24 i5 = 1" ∷
      codes "25 no (i5 = 0)" ∷
      [])
  -- the case satisfies it
  pub satisfies : judging sweep 4 held path ≡ answers 0
  -- its trace is that path, and leaves the row that is held
  pub ends : (tracing sweep 4 held 512 no_tables).ending ≡ ended
  pub traces : (tracing sweep 4 held 512 no_tables).marks ≡ path
  pub leaves : (tracing sweep 4 held 512 no_tables).tables.now 1 ≡ row 5 0 ∷ []
  -- without the row that holds it, the path fails where the first delete would be held
  pub fails_at_13 : judging sweep 4 free path ≡ answers 13
  -- a changed key is tested by KEYS and HELD, the commit keeps the symbol t3, and after the rollback it stands again; a list that was not set is NIL
  pub shift_text : drawn_text (conditions shift WWT) ≡ lines (
      codes "1 t1 = TABLE 1" ∷
      codes "2 t2 = TABLE 2" ∷
      codes "3 yes LIMIT t1" ∷
      codes "4 yes KEYS t1" ∷
      codes "5 yes LIMIT t2" ∷
      codes "6 yes KEYS t2" ∷
      codes "7 yes REF 1 t2 t1" ∷
      codes "8 l1 = LOAD 1" ∷
      codes "9 i1 = l1.HEAD" ∷
      codes "10 l2 = l1.TAIL" ∷
      codes "11 t3 = t1 SET .1 (.1 + i1) WHERE (.1 > i1)" ∷
      codes "12 yes KEYS t3" ∷
      codes "13 no HELD 1 t2 t1 (.1 > i1) (.1 + i1)" ∷
      codes "14 t4 = t3 MINUS (.1 = i1)" ∷
      codes "15 no HELD 1 t2 t3 (.1 = i1)" ∷
      codes "16 t5 = t3 KEEP TRUE" ∷
      codes "17 i2 = NIL.HEAD" ∷
      codes "18 yes ((NIL = NIL) && (!(i1 < i2)))" ∷
      [])
  -- an uncaught exception ends the run: the path `W K` is followed, and the row of the first insert rolled back
  pub follows_WK : (following twice 4 no_rows WK no_tables).verdict ≡ follows
  pub thrown_back : (following twice 4 no_rows WK no_tables).tables.now 1 ≡ []
  pub throws : (tracing twice 4 no_rows 512 no_tables).ending ≡ threw
  -- `W W` is left after its first mark, and that too rolls back
  pub departs_WW : (following twice 4 no_rows WW no_tables).verdict ≡ departs
  pub agreed_WW : (following twice 4 no_rows WW no_tables).agreed ≡ 1
  pub left_back : (following twice 4 no_rows WW no_tables).tables.now 1 ≡ []
  -- at the limit 1 the second insert halts before its exception, and that rolls back
  pub halts : (following twice 1 no_rows WK no_tables).verdict ≡ halted
  pub halted_back : (following twice 1 no_rows WK no_tables).tables.now 1 ≡ []
  -- a trace into one mark is cut at the second, and that rolls back
  pub cut_off : (tracing twice 4 no_rows 1 no_tables).ending ≡ cut
  pub cut_back : (tracing twice 4 no_rows 1 no_tables).tables.now 1 ≡ []
