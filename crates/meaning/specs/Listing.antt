-- The text of records, as lists of character codes. Assumes nothing.
use Rattle.std.proofs.Math.Option.{none, some}
use Rattle.std.specs.Prelude.{ℕ, suc, Bool, true, false, List, [], ◌∷◌, ◌++◌, codes, decimal}
use Rattle.std.specs.Fmt.{signed_decimal}
use Rattle.meaning.specs.Values.{Op, add, sub, mul, div, Order, less, same, more, Connective, and, or}
use Rattle.meaning.specs.Syntax.{num, var, att, head, get, op, neg, tru, fls, con, non, cmp, nil, insert, update, delete}
use Rattle.meaning.specs.Records.{Symbol, SymbolExp, SymbolCond, SymbolWrite, IntIs, is, input, ListIs, loaded, tail_of, nil_list, TableIs, table, keep, rest_of, after, Fact, that, limit, keys, ref, check, rows, held, Record, def_i, def_l, def_t, fact}

-- a text is its character codes
abbrev pub Text : Type 0
Text = List ℕ

-- ---- symbols and attributes

-- an `i` symbol; an integer that was not set is `0`
abbrev pub int_text : Symbol → Text
int_text none = codes "0"
int_text (some n) = codes "i" ++ decimal n

-- an `l` symbol; a list that was not set is `NIL`
abbrev pub list_text : Symbol → Text
list_text none = codes "NIL"
list_text (some n) = codes "l" ++ decimal n

-- a `t` symbol; a table of the schema always has one
abbrev pub table_text : Symbol → Text
table_text none = codes "NONE"
table_text (some n) = codes "t" ++ decimal n

-- `.k`: attributes are shown with numbers from 1
abbrev pub att_text : ℕ → Text
att_text k = codes "." ++ decimal (suc k)

-- `tN.k`; a read with no cursor is `NONE`
abbrev pub read_text : Symbol → ℕ → Text
read_text none k = codes "NONE"
read_text (some n) k = table_text (some n) ++ att_text k

-- ---- signs

-- + - * /
abbrev pub op_text : Op → Text
op_text add = codes " + "
op_text sub = codes " - "
op_text mul = codes " * "
op_text div = codes " / "

-- < = >
abbrev pub order_text : Order → Text
order_text less = codes " < "
order_text same = codes " = "
order_text more = codes " > "

-- && ||
abbrev pub connective_text : Connective → Text
connective_text and = codes " && "
connective_text or = codes " || "

-- `yes` or `no`
abbrev pub saying : Bool → Text
saying true = codes "yes "
saying false = codes "no "

-- ---- terms

-- in brackets
abbrev pub bracket : Text → Text
bracket x = codes "(" ++ (x ++ codes ")")

-- an expression
abbrev pub exp_text : SymbolExp → Text
exp_text (num z) = signed_decimal z
exp_text (var x) = int_text x
exp_text (att k) = att_text k
exp_text (head x) = list_text x ++ codes ".HEAD"
exp_text (get x k) = read_text x k
exp_text (op o e f) = bracket (exp_text e ++ op_text o ++ exp_text f)
exp_text (neg e) = bracket (codes "-" ++ exp_text e)

-- a condition
abbrev pub cond_text : SymbolCond → Text
cond_text tru = codes "TRUE"
cond_text fls = codes "FALSE"
cond_text (con o c d) = bracket (cond_text c ++ connective_text o ++ cond_text d)
cond_text (non c) = bracket (codes "!" ++ cond_text c)
cond_text (cmp o e f) = bracket (exp_text e ++ order_text o ++ exp_text f)
cond_text (nil x) = bracket (list_text x ++ codes " = NIL")

-- expressions with a comma before each
abbrev pub more_text : List SymbolExp → Text
more_text [] = []
more_text (e ∷ es) = (codes "," ++ exp_text e) ++ more_text es

-- expressions parted by commas
abbrev pub comma_text : List SymbolExp → Text
comma_text [] = []
comma_text (e ∷ es) = exp_text e ++ more_text es

-- `PLUS (e,e)`, `SET .k e WHERE c`, `MINUS c`
abbrev pub write_text : SymbolWrite → Text
write_text (insert t es) = codes "PLUS " ++ bracket (comma_text es)
write_text (update t k e c) = codes "SET " ++ att_text k ++ codes " " ++ exp_text e ++ codes " WHERE " ++ cond_text c
write_text (delete t c) = codes "MINUS " ++ cond_text c

-- the rows that a write loses, in HELD: `c`, and ` e` of an UPDATE, meaning that e differs from the key
abbrev pub loss_text : SymbolWrite → Text
loss_text (insert t es) = codes "FALSE"
loss_text (update t k e c) = cond_text c ++ codes " " ++ exp_text e
loss_text (delete t c) = cond_text c

-- ---- records

-- the right side of an `i` symbol
abbrev pub int_is_text : IntIs → Text
int_is_text (is e) = exp_text e
int_is_text (input n) = codes "READ " ++ decimal n

-- of an `l` symbol
abbrev pub list_is_text : ListIs → Text
list_is_text (loaded n) = codes "LOAD " ++ decimal n
list_is_text (tail_of x) = list_text x ++ codes ".TAIL"
list_is_text nil_list = codes "NIL"

-- of a `t` symbol
abbrev pub table_is_text : TableIs → Text
table_is_text (table n) = codes "TABLE " ++ decimal n
table_is_text (keep x c) = table_text x ++ codes " KEEP " ++ cond_text c
table_is_text (rest_of n) = codes "REST " ++ table_text (some n)
table_is_text (after x w) = table_text x ++ codes " " ++ write_text w

-- a fact
abbrev pub fact_text : Fact → Text
fact_text (that c) = cond_text c
fact_text (limit x) = codes "LIMIT " ++ table_text x
fact_text (keys t x) = codes "KEYS " ++ table_text x
fact_text (ref n x y) = codes "REF " ++ decimal n ++ codes " " ++ table_text x ++ codes " " ++ table_text y
fact_text (check n x) = codes "CHECK " ++ decimal n ++ codes " " ++ table_text x
fact_text (rows n) = codes "ROWS " ++ table_text (some n)
fact_text (held n u x w) = codes "HELD " ++ decimal n ++ codes " " ++ table_text u ++ codes " " ++ table_text x ++ codes " " ++ loss_text w

-- a record: `symbol = right side`, `yes fact` or `no fact`
abbrev pub record_text : Record → Text
record_text (def_i n d) = int_text (some n) ++ codes " = " ++ int_is_text d
record_text (def_l n d) = list_text (some n) ++ codes " = " ++ list_is_text d
record_text (def_t n d) = table_text (some n) ++ codes " = " ++ table_is_text d
record_text (fact b f) = saying b ++ fact_text f

-- a line of the listing: the record's number, the record, a newline
abbrev pub line_text : ℕ → Record → Text
line_text n r = decimal n ++ codes " " ++ record_text r ++ codes "\n"

-- the lines of a list, numbered on from n
abbrev pub lines_text : ℕ → List Record → Text
lines_text n [] = []
lines_text n (r ∷ rs) = line_text n r ++ lines_text (suc n) rs

-- lines of text, each with its newline
abbrev pub lines : List Text → Text
lines [] = []
lines (x ∷ xs) = (x ++ codes "\n") ++ lines xs

-- the listing of a list: its records are numbered from 1
abbrev pub listing_text : List Record → Text
listing_text rs = lines_text 1 rs
