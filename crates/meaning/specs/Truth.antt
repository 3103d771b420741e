-- When a record is true, when a case satisfies a list, and judging a list record by record. Assumes nothing.
use Rattle.std.specs.Prelude.{◌≡◌, ℕ, suc, Bool, cond, List, [], ◌∷◌, length, take, ℤ, pos, nat_le}
use Rattle.std.proofs.Math.Option.{Option, none, some}
use Rattle.meaning.specs.Values.{bind, put, numbered, first, rest, same_b}
use Rattle.meaning.specs.Syntax.{Mark, target}
use Rattle.meaning.specs.Evaluation.{Row, Env, value, truth}
use Rattle.meaning.specs.Schema.{Schema, Model, key_of, ref_at}
use Rattle.meaning.specs.Tables.{Table, distinct, finds, keeps, Case, begun}
use Rattle.meaning.specs.Writes.{kept, holds_one, left, lost}
use Rattle.meaning.specs.Run.{some_row}
use Rattle.meaning.specs.Records.{Symbol, IntIs, is, input, ListIs, loaded, tail_of, nil_list, TableIs, table, keep, rest_of, after, Fact, that, limit, keys, ref, check, rows, held, Record, def_i, def_l, def_t, fact}
use Rattle.meaning.specs.Conditions.{refused, drawn, conditions}

-- ---- what symbols stand for

-- what the symbols of each kind stand for
pub record Valuation : Type 0 where
  pub i : ℕ → ℤ
  pub l : ℕ → List ℤ
  pub t : ℕ → Table

-- an integer; no symbol is `0`
abbrev pub int_of : Valuation → Symbol → ℤ
int_of V none = pos 0
int_of V (some n) = V.i n

-- a list; no symbol is `NIL`
abbrev pub list_of : Valuation → Symbol → List ℤ
list_of V none = []
list_of V (some n) = V.l n

-- rows; no symbol has none
abbrev pub table_of : Valuation → Symbol → Table
table_of V none = []
table_of V (some n) = V.t n

-- the row of the least key; none of an empty table, and `NONE` has none
abbrev pub row_of : Valuation → Symbol → Option Row
row_of V none = none
row_of V (some n) = first (V.t n)

-- the symbols as names
abbrev pub given : Valuation → Env Symbol Symbol Symbol
given V = record { int = int_of V; list = list_of V; row = row_of V }

-- ---- when a record is true

module _ (S : Schema) (R : ℕ) (κ : Case) (V : Valuation) where
  -- the value of an `i` symbol's right side; an input that the case does not have is no value
  abbrev pub int_is : IntIs → Option ℤ
  int_is (is e) = value (given V) none e
  int_is (input n) = numbered κ.reads n

  -- of an `l` symbol's; TAIL of NIL has none
  abbrev pub list_is : ListIs → Option (List ℤ)
  list_is (loaded n) = numbered κ.lists n
  list_is (tail_of x) = rest (list_of V x)
  list_is nil_list = some []

  -- of a `t` symbol's; REST of no row has none
  abbrev pub table_is : TableIs → Option Table
  table_is (table n) = some (begun S κ n)
  table_is (keep x c) = kept (λ r. truth (given V) (some r) c) (table_of V x)
  table_is (rest_of n) = rest (V.t n)
  table_is (after x w) = left S R (given V) w (table_of V x)

  -- whether a fact holds
  abbrev pub holds : Fact → Option Bool
  holds (that c) = truth (given V) none c
  holds (limit x) = some (nat_le (length (table_of V x)) R)
  holds (keys t x) = some (distinct (key_of S t) (table_of V x))
  holds (ref n x y) = some (finds S n (table_of V x) (table_of V y))
  holds (check n x) = some (keeps S n (table_of V x))
  holds (rows n) = some (some_row (V.t n))
  holds (held n u x w) = holds_one (key_of S (target w)) (ref_at S n).from (table_of V u) (lost S (given V) w) (table_of V x)

  -- a definition is true if its right side has a value, which the symbol equals; a fact without value is neither yes nor no
  abbrev pub True : Record → Type 0
  True (def_i n d) = int_is d ≡ some (V.i n)
  True (def_l n d) = list_is d ≡ some (V.l n)
  True (def_t n d) = table_is d ≡ some (V.t n)
  True (fact b f) = holds f ≡ some b

  -- every record is true
  abbrev pub AllTrue : List Record → Type 0
  AllTrue [] = Unit {0}
  AllTrue (r ∷ rs) = True r × AllTrue rs

module _ (S : Schema) (R : ℕ) (κ : Case) where
  -- a case satisfies a list when the symbols can stand for something that makes every record true
  abbrev pub Satisfies : List Record → Type 0
  Satisfies rs = (V : Valuation) × AllTrue S R κ V rs

  -- record k + 1 is the first not true: something makes those before it true, and nothing that does makes it true
  abbrev pub FirstNotTrue : List Record → ℕ → Type 0
  FirstNotTrue rs k = (r : Record) × (numbered rs (suc k) ≡ some r) × Satisfies (take k rs) × ((V : Valuation) → AllTrue S R κ V (take k rs) → ¬ True S R κ V r)

-- ---- judging: each definition in turn gives its symbol its value

-- the valuation with another value for an `i` symbol
abbrev pub put_i : Valuation → ℕ → ℤ → Valuation
put_i V n z = record { i = put V.i n z; l = V.l; t = V.t }

-- for an `l` symbol
abbrev pub put_l : Valuation → ℕ → List ℤ → Valuation
put_l V n z = record { i = V.i; l = put V.l n z; t = V.t }

-- for a `t` symbol
abbrev pub put_t : Valuation → ℕ → Table → Valuation
put_t V n z = record { i = V.i; l = V.l; t = put V.t n z }

-- before the first definition
abbrev pub nothing : Valuation
nothing = record { i = λ n. pos 0; l = λ n. []; t = λ n. [] }

module _ (S : Schema) (R : ℕ) (κ : Case) where
  -- what is known after a record that is true; none where it is not
  abbrev pub judged : Valuation → Record → Option Valuation
  judged V (def_i n d) = bind (int_is S R κ V d) (λ z. some (put_i V n z))
  judged V (def_l n d) = bind (list_is S R κ V d) (λ z. some (put_l V n z))
  judged V (def_t n d) = bind (table_is S R κ V d) (λ z. some (put_t V n z))
  judged V (fact b f) = bind (holds S R κ V f) (λ c. cond (same_b b c) (some V) none)

  -- place 0, or one after the place in what follows
  abbrev pub placed : Option Valuation → (Valuation → Option ℕ) → Option ℕ
  placed none f = some 0
  placed (some V) f = bind (f V) (λ k. some (suc k))

  -- the place, from 0, of the first record that is not true
  abbrev pub false_from : Valuation → List Record → Option ℕ
  false_from V [] = none
  false_from V (r ∷ rs) = placed (judged V r) (λ V'. false_from V' rs)

  -- judging a list answers 0, or the number of the first record that is not true
  abbrev pub judgement : List Record → ℕ
  judgement rs = elim (false_from nothing rs) [ none ↦ 0 | some k ↦ suc k ]

-- judging a path: refused, with the count of marks before the place, or an answer
pub data Judged : Type 0 where
  unfit : ℕ → Judged
  answers : ℕ → Judged

-- judging draws the list itself
abbrev pub judging : Model → ℕ → Case → List Mark → Judged
judging M R κ p = elim (conditions M p) [ refused n ↦ unfit n | drawn rs ↦ answers (judgement M.schema R κ rs) ]
