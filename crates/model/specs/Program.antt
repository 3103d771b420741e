-- The blocks that lines stand for.
use Rattle.std.proofs.Math.Option as maybe
use Rattle.std.specs.Prelude.{ℕ, List, [], ◌∷◌, get_or, drop, Some, None, Option, slice_index_or}
use Rattle.meaning.specs.Syntax as syntax
use Rattle.meaning.specs.Syntax.{Statement, Block, stop, ◌⨾◌, silent, next, write, branch, while}
use Rattle.model.specs.declared.program.Item.{Item}
use Rattle.model.specs.declared.program.Line.{Line}
use Rattle.model.specs.declared.program.Line.TheVariants.{Assign, Clear, Tail, Read, Load, Select, Next, Insert, Update, Delete, Commit, Rollback, If, While, End}
use Rattle.model.specs.Terms.{expression_at, condition_at, expressions}

-- The variable of a CATCH, if any.
abbrev pub caught_by : Option ℕ → maybe.Option ℕ
caught_by None = maybe.none
caught_by (Some v) = maybe.some v

-- The block that begins with a line, from those that begin at the lines behind it.
abbrev pub block_from : List Item → Line → List Block → Block
block_from is (Assign v e) bs = silent (syntax.assign v (expression_at is e)) ⨾ get_or bs 0 stop
block_from is (Clear v) bs = silent (syntax.empty v) ⨾ get_or bs 0 stop
block_from is (Tail v w) bs = silent (syntax.tail v w) ⨾ get_or bs 0 stop
block_from is (Read v) bs = silent (syntax.read v) ⨾ get_or bs 0 stop
block_from is (Load v) bs = silent (syntax.load v) ⨾ get_or bs 0 stop
block_from is (Select v t c) bs = silent (syntax.select v t (condition_at is c)) ⨾ get_or bs 0 stop
block_from is (Next v h) bs = next v (caught_by h) ⨾ get_or bs 0 stop
block_from is (Insert t e n h) bs = write (syntax.insert t (expressions n (drop e is))) (caught_by h) ⨾ get_or bs 0 stop
block_from is (Update t k e c h) bs = write (syntax.update t k (expression_at is e) (condition_at is c)) (caught_by h) ⨾ get_or bs 0 stop
block_from is (Delete t c h) bs = write (syntax.delete t (condition_at is c)) (caught_by h) ⨾ get_or bs 0 stop
block_from is Commit bs = silent syntax.commit ⨾ get_or bs 0 stop
block_from is Rollback bs = silent syntax.rollback ⨾ get_or bs 0 stop
block_from is (If c other n) bs = branch (condition_at is c) (slice_index_or bs 0 stop) (slice_index_or bs other stop) ⨾ get_or bs n stop
block_from is (While c n) bs = while (condition_at is c) (slice_index_or bs 0 stop) ⨾ get_or bs n stop
block_from is End bs = stop

-- The block that begins at each line.
abbrev pub blocks : List Item → List Line → List Block
blocks is [] = []
blocks is (l ∷ ls) = block_from is l (blocks is ls) ∷ blocks is ls

-- The block that begins at a line; behind the last line there is none.
abbrev pub block_at : List Item → List Line → ℕ → Block
block_at is ls n = slice_index_or (blocks is ls) n stop
