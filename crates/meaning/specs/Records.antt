-- The records of a condition list, and a program's terms with symbols for variables. Symbols are numbered from 1 for each kind.
-- Assumes nothing.
use Rattle.std.proofs.Math.Option.{Option, none, some}
use Rattle.std.specs.Prelude.{ℕ, suc, Bool, List, [], ◌∷◌, map}
use Rattle.meaning.specs.Syntax.{Expression, num, var, att, head, get, op, neg, Condition, tru, fls, con, non, cmp, nil, Write, insert, update, delete}
use Rattle.meaning.specs.State.{Held, with_tables, set_int, set_list, set_cursor, set_table, read_one, load_one, committed, rolled_back}

-- a symbol by its number from 1, or none: `0`, `NIL`, `NONE`
abbrev pub Symbol : Type 0
Symbol = Option ℕ

-- an expression over symbols
abbrev pub SymbolExp : Type 0
SymbolExp = Expression Symbol Symbol Symbol

-- a condition over symbols
abbrev pub SymbolCond : Type 0
SymbolCond = Condition Symbol Symbol Symbol

-- a write over symbols
abbrev pub SymbolWrite : Type 0
SymbolWrite = Write Symbol Symbol Symbol

-- ---- records

-- the right side of an `i` symbol: `e`, `READ n`
pub data IntIs : Type 0 where
  is : SymbolExp → IntIs
  input : ℕ → IntIs

-- the right side of an `l` symbol: `LOAD n`, `l.TAIL`, `NIL`
pub data ListIs : Type 0 where
  loaded : ℕ → ListIs
  tail_of : Symbol → ListIs
  nil_list : ListIs

-- the right side of a `t` symbol: `TABLE N`; `t KEEP c`; `REST t`; `t PLUS ..`, `t SET ..` or `t MINUS ..`
pub data TableIs : Type 0 where
  table : ℕ → TableIs
  keep : Symbol → SymbolCond → TableIs
  rest_of : ℕ → TableIs
  after : Symbol → SymbolWrite → TableIs

-- `c`; `LIMIT t`; `KEYS t`, with the table whose key it is; `REF n t u`; `CHECK n t`; `ROWS t`; `HELD n u t ..`, with the write that loses rows
pub data Fact : Type 0 where
  that : SymbolCond → Fact
  limit : Symbol → Fact
  keys : ℕ → Symbol → Fact
  ref : ℕ → Symbol → Symbol → Fact
  check : ℕ → Symbol → Fact
  rows : ℕ → Fact
  held : ℕ → Symbol → Symbol → SymbolWrite → Fact

-- a record defines a symbol, or says `yes` (true) or `no` (false) of a fact
pub data Record : Type 0 where
  def_i : ℕ → IntIs → Record
  def_l : ℕ → ListIs → Record
  def_t : ℕ → TableIs → Record
  fact : Bool → Fact → Record

-- the `t` symbols that a list defines: judging's scratch is R rows for each
abbrev pub table_symbols : List Record → ℕ
table_symbols [] = 0
table_symbols (def_i n d ∷ rs) = table_symbols rs
table_symbols (def_l n d ∷ rs) = table_symbols rs
table_symbols (def_t n d ∷ rs) = suc (table_symbols rs)
table_symbols (fact b f ∷ rs) = table_symbols rs

-- ---- the symbols of variables and tables

-- a cursor: never selected, before the first row of a symbol's rows, on the first of them
pub data Stand : Type 0 where
  never : Stand
  before on : ℕ → Stand

-- how many symbols of each kind there are: the next has one number more
pub record Used : Type 0 where
  pub i : ℕ
  pub l : ℕ
  pub t : ℕ

-- the symbols that variables and tables have, and how many there are
pub record Symbols : Type 0 where
  pub held : Held Symbol Symbol Stand Symbol
  pub used : Used

module _ (σ : Symbols) where
  -- the next `i`, `l` and `t`
  abbrev pub next_i : ℕ
  next_i = suc σ.used.i

  -- the next `l`
  abbrev pub next_l : ℕ
  next_l = suc σ.used.l

  -- the next `t`
  abbrev pub next_t : ℕ
  next_t = suc σ.used.t

  -- an integer variable has the next `i`
  abbrev pub new_int : ℕ → Symbols
  new_int x = record { held = set_int σ.held x (some next_i); used = record { i = next_i; l = σ.used.l; t = σ.used.t } }

  -- a list variable has the next `l`
  abbrev pub new_list : ℕ → Symbols
  new_list x = record { held = set_list σ.held x (some next_l); used = record { i = σ.used.i; l = next_l; t = σ.used.t } }

  -- the next `t` is used up
  abbrev pub new_table : Symbols
  new_table = record { held = σ.held; used = record { i = σ.used.i; l = σ.used.l; t = next_t } }

  -- a cursor stands elsewhere
  abbrev pub stands : ℕ → Stand → Symbols
  stands v c = record { held = set_cursor σ.held v c; used = σ.used }

  -- a schema table has the symbol n
  abbrev pub becomes : ℕ → ℕ → Symbols
  becomes t n = record { held = set_table σ.held t (some n); used = σ.used }

  -- one READ more
  abbrev pub read_s : Symbols
  read_s = record { held = read_one σ.held; used = σ.used }

  -- one LOAD more
  abbrev pub load_s : Symbols
  load_s = record { held = load_one σ.held; used = σ.used }

  -- COMMIT saves the schema tables' symbols
  abbrev pub commit_s : Symbols
  commit_s = record { held = with_tables σ.held (committed σ.held.tables); used = σ.used }

  -- ROLLBACK restores them
  abbrev pub rollback_s : Symbols
  rollback_s = record { held = with_tables σ.held (rolled_back σ.held.tables); used = σ.used }

-- ---- a program's terms with symbols for variables

-- the symbol whose first row a cursor is on; none is `NONE`
abbrev pub row_symbol : Stand → Symbol
row_symbol never = none
row_symbol (before n) = none
row_symbol (on n) = some n

-- other names for integers, lists and cursors
module _ {I L A I' L' A' : Type 0} (f : I → I') (g : L → L') (h : A → A') where
  -- in an expression
  abbrev pub map_e : Expression I L A → Expression I' L' A'
  map_e (num z) = num z
  map_e (var x) = var (f x)
  map_e (att k) = att k
  map_e (head x) = head (g x)
  map_e (get x k) = get (h x) k
  map_e (op o a b) = op o (map_e a) (map_e b)
  map_e (neg a) = neg (map_e a)

  -- in a condition
  abbrev pub map_c : Condition I L A → Condition I' L' A'
  map_c tru = tru
  map_c fls = fls
  map_c (con o a b) = con o (map_c a) (map_c b)
  map_c (non a) = non (map_c a)
  map_c (cmp o a b) = cmp o (map_e a) (map_e b)
  map_c (nil x) = nil (g x)

  -- in a write
  abbrev pub map_w : Write I L A → Write I' L' A'
  map_w (insert t es) = insert t (map map_e es)
  map_w (update t k e c) = update t k (map_e e) (map_c c)
  map_w (delete t c) = delete t (map_c c)

-- with the symbols as they stand
module _ (σ : Symbols) where
  -- an expression
  abbrev pub exp_of : Expression ℕ ℕ ℕ → SymbolExp
  exp_of = map_e σ.held.vars.ints σ.held.vars.lists (λ v. row_symbol (σ.held.vars.cursors v))

  -- a condition
  abbrev pub cond_of : Condition ℕ ℕ ℕ → SymbolCond
  cond_of = map_c σ.held.vars.ints σ.held.vars.lists (λ v. row_symbol (σ.held.vars.cursors v))

  -- a write
  abbrev pub write_of : Write ℕ ℕ ℕ → SymbolWrite
  write_of = map_w σ.held.vars.ints σ.held.vars.lists (λ v. row_symbol (σ.held.vars.cursors v))
