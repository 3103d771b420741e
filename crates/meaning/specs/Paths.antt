-- Marks and paths: which marks are the same, which fit which statement, and which paths fit a program. Assumes nothing.
use Rattle.std.proofs.Math.Option.{Option, none, some}
use Rattle.std.specs.Prelude.{ℕ, suc, Bool, true, false, cond, not, ◌&&◌, List, [], ◌∷◌, nat_eq}
use Rattle.meaning.specs.Values.{bind, is_some, any, same_b}
use Rattle.meaning.specs.Syntax.{silent, Statement, Block, stop, ◌⨾◌, ◌then◌, next, write, branch, while, Exception, K, F, C, D, Mark, branched, turned, fetched, wrote}
use Rattle.meaning.specs.Schema.{Schema}
use Rattle.meaning.specs.Writes.{fitting}

-- ---- marks by kind

-- T or E
abbrev pub as_branched : Mark → Option Bool
as_branched (branched b) = some b
as_branched (turned b) = none
as_branched (fetched b) = none
as_branched (wrote o) = none

-- L or O
abbrev pub as_turned : Mark → Option Bool
as_turned (branched b) = none
as_turned (turned b) = some b
as_turned (fetched b) = none
as_turned (wrote o) = none

-- N or X
abbrev pub as_fetched : Mark → Option Bool
as_fetched (branched b) = none
as_fetched (turned b) = none
as_fetched (fetched b) = some b
as_fetched (wrote o) = none

-- W or an exception
abbrev pub as_wrote : Mark → Option (Option Exception)
as_wrote (branched b) = none
as_wrote (turned b) = none
as_wrote (fetched b) = none
as_wrote (wrote o) = some o

-- ---- the same marks

-- whether two exceptions are the same
abbrev pub same_x : Exception → Exception → Bool
same_x K y = elim y [ K ↦ true | F n ↦ false | C n ↦ false | D n ↦ false ]
same_x (F m) y = elim y [ K ↦ false | F n ↦ nat_eq m n | C n ↦ false | D n ↦ false ]
same_x (C m) y = elim y [ K ↦ false | F n ↦ false | C n ↦ nat_eq m n | D n ↦ false ]
same_x (D m) y = elim y [ K ↦ false | F n ↦ false | C n ↦ false | D n ↦ nat_eq m n ]

-- whether both are missing, or both there and the same by s
abbrev pub same_option : {A : Type 0} → (A → A → Bool) → Option A → Option A → Bool
same_option s none o = elim o [ none ↦ true | some b ↦ false ]
same_option s (some a) o = elim o [ none ↦ false | some b ↦ s a b ]

-- whether two marks are the same: they are of one kind and tell the same
abbrev pub same_mark : Mark → Mark → Bool
same_mark m n =
    same_option same_b (as_branched m) (as_branched n) && (same_option same_b (as_turned m) (as_turned n)
    && (same_option same_b (as_fetched m) (as_fetched n) && same_option (same_option same_x) (as_wrote m) (as_wrote n)))

-- ---- marks and statements

-- x is the exception that a write's mark tells; W tells none
abbrev pub hits : Option Exception → Exception → Bool
hits none x = false
hits (some y) x = same_x x y

-- which mark fits which statement: T and E an IF, L and O a WHILE, N and X a NEXT, W a write and also the exceptions of its tests
abbrev pub fits : Schema → Statement → Mark → Bool
fits S (silent x) m = false
fits S (next v h) m = is_some (as_fetched m)
fits S (write w h) m = elim (as_wrote m) [ none ↦ false | some o ↦ elim o [ none ↦ true | some y ↦ any (hits (some y)) (fitting S w) ] ]
fits S (branch c a b) m = is_some (as_branched m)
fits S (while c a) m = is_some (as_turned m)

-- an exception that no CATCH takes
abbrev pub not_caught : Option ℕ → Bool
not_caught none = true
not_caught (some v) = false

-- the mark is that of an uncaught exception of the statement
abbrev pub throws_out : Statement → Mark → Bool
throws_out (silent x) m = false
throws_out (next v h) m = elim (as_fetched m) [ none ↦ false | some b ↦ not b && not_caught h ]
throws_out (write w h) m = elim (as_wrote m) [ none ↦ false | some o ↦ elim o [ none ↦ false | some y ↦ not_caught h ] ]
throws_out (branch c a b) m = false
throws_out (while c a) m = false

-- what is left of the program behind a statement that made a mark, k being what stands behind it
abbrev pub behind : Statement → Mark → Block → Block
behind (silent x) m k = k
behind (next v h) m k = k
behind (write w h) m k = k
behind (branch c x y) m k = elim (as_branched m) [ none ↦ k | some b ↦ cond b x y then k ]
behind (while c x) m k = elim (as_turned m) [ none ↦ k | some b ↦ cond b (x then (while c x ⨾ k)) k ]

-- ---- paths and programs

-- one mark more before it
abbrev pub one_more : Option ℕ → Option ℕ
one_more o = bind o (λ n. some (suc n))

-- a program that is over: any mark is left over
abbrev pub left_over : List Mark → Option ℕ
left_over [] = none
left_over (m ∷ p) = some 0

-- a statement meets the next mark m of a path, p being the marks behind it: one that does not fit is refused; one that fits leads on, or after an uncaught
-- exception to the end
abbrev pub meets : Schema → (Block → Option ℕ) → Statement → Block → Mark → List Mark → Option ℕ
meets S more x k m p = cond (fits S x m) (one_more (cond (throws_out x m) (left_over p) (more (behind x m k)))) (some 0)

-- over silent statements to the first that makes a mark, or to the end
abbrev pub at_marking : Option ℕ → (Statement → Block → Option ℕ) → Block → Option ℕ
at_marking end f stop = end
at_marking end f (silent x ⨾ k) = at_marking end f k
at_marking end f (next v h ⨾ k) = f (next v h) k
at_marking end f (write w h ⨾ k) = f (write w h) k
at_marking end f (branch c x y ⨾ k) = f (branch c x y) k
at_marking end f (while c x ⨾ k) = f (while c x) k

-- the count of marks before the first that is missing (the path is over, the program is not), unfit, or left over (the program is over); none where the
-- path fits
abbrev pub unfit_at : Schema → List Mark → Block → Option ℕ
unfit_at S [] = at_marking none (λ x k. some 0)
unfit_at S (m ∷ p) = at_marking (some 0) (λ x k. meets S (unfit_at S p) x k m p)
