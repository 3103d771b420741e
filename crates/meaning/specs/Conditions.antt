-- The condition list that is drawn of a path, or its refusal. Assumes nothing.
use Rattle.std.proofs.Math.Option.{Option, none, some}
use Rattle.std.specs.Prelude.{ℕ, suc, Bool, true, false, cond, not, List, [], ◌∷◌, ◌++◌, map, length, pos}
use Rattle.meaning.specs.Values.{numbered}
use Rattle.meaning.specs.Syntax.{num, fls, Condition, Write, target, Silent, silent, Block, stop, ◌⨾◌, ◌then◌, assign, empty, tail, read, load, select, next, write, commit, rollback, branch, while, Exception, K, F, C, D, Mark}
use Rattle.meaning.specs.Schema.{Schema, Model, ref_at, tables_of, refs_of, checks_of}
use Rattle.meaning.specs.Writes.{fitting}
use Rattle.meaning.specs.State.{Held}
use Rattle.meaning.specs.Paths.{as_branched, as_turned, as_fetched, as_wrote, hits}
use Rattle.meaning.specs.Records.{Symbol, is, input, loaded, tail_of, nil_list, table, keep, rest_of, after, that, limit, keys, ref, check, rows, held, Record, def_i, def_l, def_t, fact, Stand, never, before, on, Symbols, next_i, next_l, next_t, new_int, new_list, new_table, stands, becomes, read_s, load_s, commit_s, rollback_s, exp_of, cond_of, write_of}

-- a refusal, with the count of marks before the one that is missing, unfit or left over; or the list
pub data Drawn : Type 0 where
  refused : ℕ → Drawn
  drawn : List Record → Drawn

-- a record in front; a refusal stays
infixr 40 ◌▸◌
abbrev pub ◌▸◌ : Record → Drawn → Drawn
r ▸ refused n = refused n
r ▸ drawn rs = drawn (r ∷ rs)

-- records in front
infixr 40 ◌▸▸◌
abbrev pub ◌▸▸◌ : List Record → Drawn → Drawn
[] ▸▸ d = d
(r ∷ rs) ▸▸ d = r ▸ (rs ▸▸ d)

-- what follows a mark: a refusal there has one mark more before it
abbrev pub later : Drawn → Drawn
later (refused n) = refused (suc n)
later (drawn rs) = drawn rs

-- an uncaught exception: the path has to end
abbrev pub over : List Mark → Drawn
over [] = drawn []
over (m ∷ p) = refused 0

-- a mark of another kind does not fit
abbrev pub if_fit : {A : Type 0} → Option A → (A → Drawn) → Drawn
if_fit none f = refused 0
if_fit (some a) f = f a

-- ---- the tests of a write

-- the record that a test of a write has passed (b true), or not: n is the symbol of the table that the write would leave
abbrev pub trial : Schema → Symbols → Write ℕ ℕ ℕ → ℕ → Exception → Bool → Record
trial S σ w n K b = fact b (keys (target w) (some n))
trial S σ w n (F m) b = fact b (ref m (some n) (σ.held.tables.now (ref_at S m).to))
trial S σ w n (C m) b = fact b (check m (some n))
trial S σ w n (D m) b = fact (not b) (held m (σ.held.tables.now (ref_at S m).of) (σ.held.tables.now (target w)) (write_of σ w))

-- after the last test: an exception that none of them threw does not fit
abbrev pub unthrown : Option Exception → Drawn → Drawn
unthrown none d = d
unthrown (some y) d = refused 0

-- the tests in order, each with its record: those that passed, and the one that is thrown, which is turned round and is last
abbrev pub trials : (Exception → Bool → Record) → Option Exception → List Exception → Drawn → Drawn
trials τ o [] d = unthrown o d
trials τ o (x ∷ xs) d = elim (hits o x) [ true ↦ τ x false ▸ d | false ↦ τ x true ▸ trials τ o xs d ]

-- ---- a statement that makes a mark, with what follows the mark: `more`, or `end` after an uncaught exception

module _ (S : Schema) (more : Block → Symbols → Drawn) (end : Drawn) where
  -- nothing is thrown: CATCH adds `i = 0`
  abbrev pub done_s : Option ℕ → Block → Symbols → Drawn
  done_s none k σ = more k σ
  done_s (some v) k σ = def_i (next_i σ) (is (num (pos 0))) ▸ more k (new_int σ v)

  -- an exception: CATCH adds `i = 1`, and without one the path ends
  abbrev pub thrown_s : Option ℕ → Block → Symbols → Drawn
  thrown_s none k σ = end
  thrown_s (some v) k σ = def_i (next_i σ) (is (num (pos 1))) ▸ more k (new_int σ v)

  -- after the tests of a write: the table has the new symbol, or after an exception the old one stays
  abbrev pub outcome_s : Option Exception → Option ℕ → ℕ → Block → Symbols → Drawn
  outcome_s none h u k σ = done_s h k (becomes (new_table σ) u (next_t σ))
  outcome_s (some x) h u k σ = thrown_s h k (new_table σ)

  -- NEXT, by where the cursor stands: never selected; before the first row; from a row, `t = REST t` first
  abbrev pub next_s : Stand → Bool → ℕ → Option ℕ → Block → Symbols → Drawn
  next_s never true v h k σ = fact true (that fls) ▸ done_s h k σ
  next_s never false v h k σ = thrown_s h k σ
  next_s (before n) true v h k σ = fact true (rows n) ▸ done_s h k (stands σ v (on n))
  next_s (before n) false v h k σ = fact false (rows n) ▸ thrown_s h k σ
  next_s (on n) true v h k σ = def_t (next_t σ) (rest_of n) ▸ fact true (rows (next_t σ)) ▸ done_s h k (stands (new_table σ) v (on (next_t σ)))
  next_s (on n) false v h k σ = def_t (next_t σ) (rest_of n) ▸ fact false (rows (next_t σ)) ▸ thrown_s h k (new_table σ)

  -- IF: T is `yes c` and goes on with the one block, E is `no c` and goes on with the other
  abbrev pub branch_s : Mark → Condition ℕ ℕ ℕ → Block → Block → Block → Symbols → Drawn
  branch_s m c x y k σ = if_fit (as_branched m) (λ b. fact b (that (cond_of σ c)) ▸ more (cond b x y then k) σ)

  -- WHILE: L is `yes c` and goes on with its body and itself again, O is `no c`
  abbrev pub while_s : Mark → Condition ℕ ℕ ℕ → Block → Block → Symbols → Drawn
  while_s m c x k σ = if_fit (as_turned m) (λ b. fact b (that (cond_of σ c)) ▸ more (cond b (x then (while c x ⨾ k)) k) σ)

  -- NEXT: N or X
  abbrev pub fetch_s : Mark → ℕ → Option ℕ → Block → Symbols → Drawn
  fetch_s m v h k σ = if_fit (as_fetched m) (λ b. next_s (σ.held.vars.cursors v) b v h k σ)

  -- a write: what it leaves, then its tests, then its outcome
  abbrev pub write_s : Mark → Write ℕ ℕ ℕ → Option ℕ → Block → Symbols → Drawn
  write_s m w h k σ =
      if_fit (as_wrote m) (λ o. def_t (next_t σ) (after (σ.held.tables.now (target w)) (write_of σ w)) ▸ trials (trial S σ w (next_t σ)) o (fitting S w) (outcome_s o h (target w) k σ))

-- ---- a silent statement

-- the record that it gives; COMMIT and ROLLBACK give none
abbrev pub silent_records : Symbols → Silent → List Record
silent_records σ (assign x e) = def_i (next_i σ) (is (exp_of σ e)) ∷ []
silent_records σ (empty x) = def_l (next_l σ) nil_list ∷ []
silent_records σ (tail x y) = def_l (next_l σ) (tail_of (σ.held.vars.lists y)) ∷ []
silent_records σ (read x) = def_i (next_i σ) (input (suc σ.held.taken.reads)) ∷ []
silent_records σ (load x) = def_l (next_l σ) (loaded (suc σ.held.taken.loads)) ∷ []
silent_records σ (select v t c) = def_t (next_t σ) (keep (σ.held.tables.now t) (cond_of σ c)) ∷ []
silent_records σ commit = []
silent_records σ rollback = []

-- the symbols after it
abbrev pub silent_symbols : Symbols → Silent → Symbols
silent_symbols σ (assign x e) = new_int σ x
silent_symbols σ (empty x) = new_list σ x
silent_symbols σ (tail x y) = new_list σ x
silent_symbols σ (read x) = new_int (read_s σ) x
silent_symbols σ (load x) = new_list (load_s σ) x
silent_symbols σ (select v t c) = stands (new_table σ) v (before (next_t σ))
silent_symbols σ commit = commit_s σ
silent_symbols σ rollback = rollback_s σ

-- ---- from mark to mark

-- what a statement that makes a mark gives, and what the program's end gives
pub record Marking : Type 0 where
  pub at_branch : Condition ℕ ℕ ℕ → Block → Block → Block → Symbols → Drawn
  pub at_while : Condition ℕ ℕ ℕ → Block → Block → Symbols → Drawn
  pub at_next : ℕ → Option ℕ → Block → Symbols → Drawn
  pub at_write : Write ℕ ℕ ℕ → Option ℕ → Block → Symbols → Drawn
  pub at_stop : Drawn

-- silent statements give their records at once; the next other one meets the mark
abbrev pub walk : Marking → Block → Symbols → Drawn
walk μ stop σ = μ.at_stop
walk μ (silent x ⨾ k) σ = silent_records σ x ▸▸ walk μ k (silent_symbols σ x)
walk μ (next v h ⨾ k) σ = μ.at_next v h k σ
walk μ (write w h ⨾ k) σ = μ.at_write w h k σ
walk μ (branch c x y ⨾ k) σ = μ.at_branch c x y k σ
walk μ (while c x ⨾ k) σ = μ.at_while c x k σ

-- no mark is left: a statement that makes one misses it, and the end will do
abbrev pub unmarked : Marking
unmarked = record { at_branch = λ c x y k σ. refused 0; at_while = λ c x k σ. refused 0; at_next = λ v h k σ. refused 0; at_write = λ w h k σ. refused 0; at_stop = drawn [] }

-- the mark m is next: the statement that makes it goes on, and at the program's end it is left over
abbrev pub marked : Schema → Mark → (Block → Symbols → Drawn) → Drawn → Marking
marked S m more end = record { at_branch = branch_s S more end m; at_while = while_s S more end m; at_next = fetch_s S more end m; at_write = write_s S more end m; at_stop = refused 0 }

-- the records of a path, from a block and its symbols on
abbrev pub draw : Schema → List Mark → Block → Symbols → Drawn
draw S [] = walk unmarked
draw S (m ∷ p) = walk (marked S m (λ k σ. later (draw S p k σ)) (later (over p)))

-- ---- the opening

-- a table's laws: LIMIT, KEYS, its REFs, its CHECKs
abbrev pub laws_of : Schema → (ℕ → Symbol) → ℕ → List Record
laws_of S now t =
    fact true (limit (now t)) ∷ fact true (keys t (now t)) ∷ (map (λ n. fact true (ref n (now t) (now (ref_at S n).to))) (refs_of S t) ++ map (λ n. fact true (check n (now t))) (checks_of S t))

-- the lists of all numbers in order
abbrev pub joined : {A : Type 0} → (ℕ → List A) → List ℕ → List A
joined f [] = []
joined f (n ∷ ns) = f n ++ joined f ns

-- no variable is set, and the tables have these symbols
abbrev pub start_symbols : (ℕ → Symbol) → Held Symbol Symbol Stand Symbol
start_symbols now = record {
  vars = record { ints = λ x. none; lists = λ x. none; cursors = λ v. never };
  tables = record { now = now; saved = now };
  taken = record { reads = 0; loads = 0 };
}

-- the symbols at the start: table N of the schema has tN
abbrev pub symbols : Schema → Symbols
symbols S = record {
  held = start_symbols (λ t. elim (numbered S.tables t) [ none ↦ none | some h ↦ some t ]);
  used = record { i = 0; l = 0; t = length S.tables };
}

-- `tN = TABLE N` of each table, then each table's laws
abbrev pub opening : Schema → List Record
opening S = map (λ t. def_t t (table t)) (tables_of S) ++ joined (laws_of S (symbols S).held.tables.now) (tables_of S)

-- the list of a path, or its refusal
abbrev pub conditions : Model → List Mark → Drawn
conditions M p = opening M.schema ▸▸ draw M.schema p M.program (symbols M.schema)

-- the count of marks before the first that is missing, unfit or left over, if there is one
abbrev pub refusal : Model → List Mark → Option ℕ
refusal M p = elim (conditions M p) [ refused n ↦ some n | drawn rs ↦ none ]
