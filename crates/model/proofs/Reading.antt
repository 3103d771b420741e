-- Items and lines of what is written read back as what it stands for.
use Rattle.std.proofs.Common.{◌≡◌, ℕ, zero, suc, ◌+◌, ◌<◌, ◌≤◌, true, false, cond, List, [], ◌∷◌, ◌++◌, map, length, get_or, drop, Some, None, Option, sym, refl, ap, ◌∙◌, append_assoc, append-nil, arith}
use mathlib.Core.Option as maybe
use Rattle.std.proofs.lemmas.List.{drop-drop, length-append}
use Rattle.std.proofs.lemmas.List.Prefix.{front_rest}
use Rattle.std.proofs.lemmas.Bool.{cond-true, lt-ltb}
use Rattle.terms.specs.Trees.{Tree, depth_of}
use Rattle.terms.specs.Trees as tree
use Rattle.syntax.specs.Trees as written
use Rattle.meaning.specs.Syntax.{var, att, Block, stop, ◌⨾◌, silent, write, branch, while}
use Rattle.meaning.specs.Syntax as syntax
use Rattle.model.specs.declared.program.Item.{Item}
use Rattle.model.specs.declared.program.Item.TheVariants.{Close, Sign, Integer, Attribute, Nil}
use Rattle.model.specs.Machine.{Bracket, State, Read, at, opened, ended, run, term}
use Rattle.model.specs.Terms.{Term, nothing, expression, as_expression, as_condition, trees, expressions, expression_at, condition_at}
use Rattle.model.specs.Elaborate.{Dictionary, operator_of, lone, term_of, expression_of, condition_of, act_of, statement_of, block_of}
use Rattle.model.specs.Flat.{size, lone_item, items_of, values_items, act_items, simple_items, block_items, act_line, simple_line, block_lines}
use Rattle.model.specs.Program.{caught_by, block_from, blocks, block_at}
use Rattle.model.specs.declared.program.Line.{Line}
use Rattle.model.specs.Laws.{ReadsBack}

-- A term ends here, or what follows is read.
abbrev pub onward : State Term → List Item → Read Term
onward s is = ended trees s is (run trees s is)

opens : (bs : List (Bracket Term)) → length bs < 12 → opened trees bs ≡ at (record { sign = None; left = nothing } ∷ bs) nothing
opens bs lt = cond-true _ _ _ (lt-ltb (length bs) 12 lt)

module _ (d : Dictionary) where
  lone_reads : (k : maybe.Option ℕ) (v : List ℕ) (bs : List (Bracket Term)) (h : Term) (rest : List Item) → run trees (at bs h) (lone_item d k v ∷ rest) ≡ onward (at bs (expression (lone d k v))) rest
  lone_reads maybe.none v bs h rest = refl
  lone_reads (maybe.some t) v bs h rest =
      elim (d.hides t v) as (λ b. run trees (at bs h) (cond b (Attribute (d.place t v)) (Integer (d.variable v)) ∷ rest) ≡ onward (at bs (expression (cond b (att (d.place t v)) (var (d.variable v))))) rest) [ true ↦ refl | false ↦ refl ]

  -- The items of a term, wherever they stand, give the term, and what stands behind them is read on.
  pub reads : (k : maybe.Option ℕ) (t : Tree) (bs : List (Bracket Term)) (h : Term) (rest : List Item) → depth_of t + length bs ≤ 12 → run trees (at bs h) (items_of d k t ++ rest) ≡ onward (at bs (term_of d k t)) rest
  reads k (tree.literal n) bs h rest deep = refl
  reads k (tree.lone v) bs h rest deep = lone_reads k v bs h rest
  reads k (tree.head v) bs h rest deep = refl
  reads k (tree.cell v a) bs h rest deep = refl
  reads k (tree.truth b) bs h rest deep = refl
  reads k (tree.is_nil v) bs h rest deep = ap (λ s. onward s (Nil (d.variable v) ∷ Close ∷ rest)) (opens bs (omega arith))
  reads k (tree.only s t) bs h rest deep =
      ap (λ w. onward w (Sign (operator_of s) ∷ (items_of d k t ++ (Close ∷ [])) ++ rest)) (opens bs (omega arith))
      ∙ ap (run trees (at (record { sign = Some (operator_of s); left = nothing } ∷ bs) nothing)) (append_assoc (items_of d k t) (Close ∷ []) rest)
      ∙ reads k t (record { sign = Some (operator_of s); left = nothing } ∷ bs) nothing (Close ∷ rest) (omega arith)
  reads k (tree.pair s l r) bs h rest deep =
      ap (λ w. onward w ((items_of d k l ++ (Sign (operator_of s) ∷ items_of d k r ++ (Close ∷ []))) ++ rest)) (opens bs (omega arith))
      ∙ ap (run trees (at (record { sign = None; left = nothing } ∷ bs) nothing)) (append_assoc (items_of d k l) (Sign (operator_of s) ∷ items_of d k r ++ (Close ∷ [])) rest)
      ∙ reads k l (record { sign = None; left = nothing } ∷ bs) nothing ((Sign (operator_of s) ∷ items_of d k r ++ (Close ∷ [])) ++ rest) (omega arith)
      ∙ ap (run trees (at (record { sign = Some (operator_of s); left = term_of d k l } ∷ bs) nothing)) (append_assoc (items_of d k r) (Close ∷ []) rest)
      ∙ reads k r (record { sign = Some (operator_of s); left = term_of d k l } ∷ bs) nothing (Close ∷ rest) (omega arith)

  -- A term that items begin with is read, and those behind it are left.
  pub reads_term : (k : maybe.Option ℕ) (t : Tree) (rest : List Item) → depth_of t ≤ 12 → term trees (items_of d k t ++ rest) ≡ record { worth = term_of d k t; rest = rest }
  reads_term k t rest deep = reads k t [] nothing rest (omega arith)

-- What stands behind a part of items.
pub further : {X : Type 0} (is : List X) (at : ℕ) (xs ys : List X) → drop at is ≡ xs ++ ys → drop (at + length xs) is ≡ ys
further is at xs ys h = sym (drop-drop (length xs) at is) ∙ front_rest (drop at is) xs ys h

lengths : (xs ys : List Line) (m n : ℕ) → length xs ≡ m → length ys ≡ n → length (xs ++ ys) ≡ m + n
lengths xs ys m n p q = length-append xs ys ∙ (λ i. p i + q i)

module _ (d : Dictionary) (is : List Item) where
  pub expression_stands : (k : maybe.Option ℕ) (t : Tree) (at : ℕ) (rest : List Item) → depth_of t ≤ 12 → drop at is ≡ items_of d k t ++ rest → expression_at is at ≡ expression_of d k t
  expression_stands k t at rest deep h = ap (λ r. as_expression (term trees r).worth) h ∙ ap (λ r. as_expression r.worth) (reads_term d k t rest deep)

  pub condition_stands : (k : maybe.Option ℕ) (t : Tree) (at : ℕ) (rest : List Item) → depth_of t ≤ 12 → drop at is ≡ items_of d k t ++ rest → condition_at is at ≡ condition_of d k t
  condition_stands k t at rest deep h = ap (λ r. as_condition (term trees r).worth) h ∙ ap (λ r. as_condition r.worth) (reads_term d k t rest deep)

  -- The values of INSERT are read one behind another.
  pub values_read : (es : List Tree) (rest : List Item) → written.AllFit es → expressions (length es) (values_items d es ++ rest) ≡ map (expression_of d maybe.none) es
  values_read [] rest fit = refl
  values_read (e ∷ es) rest fit =
      let read = reads_term d maybe.none e (values_items d es ++ rest) fit.0.1 in
      ap (expressions (suc (length es))) (append_assoc (items_of d maybe.none e) (values_items d es) rest)
      ∙ ap (λ r. as_expression r.worth ∷ expressions (length es) r.rest) read
      ∙ ap (λ zs. expression_of d maybe.none e ∷ zs) (values_read es rest fit.1)

  pub act_reads : (a : written.Act) (at : ℕ) (h : Option ℕ) (rest : List Item) (bs : List Block) → written.ActFits a → drop at is ≡ act_items d a ++ rest → block_from is (act_line d at h a) bs ≡ act_of d (caught_by h) a ⨾ get_or bs 0 stop
  act_reads (written.next v) at h rest bs fit stands = refl
  act_reads (written.insert t e es) at h rest bs fit stands =
      ap (λ zs. write (syntax.insert (d.table t) zs) (caught_by h) ⨾ get_or bs 0 stop) (ap (expressions (length (e ∷ es))) stands ∙ values_read (e ∷ es) rest fit)
  act_reads (written.update t a e c) at h rest bs fit stands =
      let k = maybe.some (d.table t) in
      let here : drop at is ≡ items_of d k e ++ (items_of d k c ++ rest) = stands ∙ append_assoc (items_of d k e) (items_of d k c) rest in
      let value = expression_stands k e at (items_of d k c ++ rest) fit.0.1 here in
      let chosen = condition_stands k c (at + length (items_of d k e)) rest fit.1.1 (further is at (items_of d k e) (items_of d k c ++ rest) here) in
      (λ i. write (syntax.update (d.table t) (d.place (d.table t) a) (value i) (chosen i)) (caught_by h) ⨾ get_or bs 0 stop)
  act_reads (written.delete t c) at h rest bs fit stands =
      ap (λ z. write (syntax.delete (d.table t) z) (caught_by h) ⨾ get_or bs 0 stop) (condition_stands (maybe.some (d.table t)) c at rest fit.1 stands)

  pub simple_reads : (s : written.Simple) (at : ℕ) (rest : List Item) (bs : List Block) → written.SimpleFits s → drop at is ≡ simple_items d s ++ rest → block_from is (simple_line d at s) bs ≡ statement_of d s ⨾ get_or bs 0 stop
  simple_reads (written.assign v e) at rest bs fit stands = ap (λ z. silent (syntax.assign (d.variable v) z) ⨾ get_or bs 0 stop) (expression_stands maybe.none e at rest fit.1 stands)
  simple_reads (written.clear v) at rest bs fit stands = refl
  simple_reads (written.tail v w) at rest bs fit stands = refl
  simple_reads (written.select v a others t c) at rest bs fit stands =
      ap (λ z. silent (syntax.select (d.variable v) (d.table t) z) ⨾ get_or bs 0 stop) (condition_stands (maybe.some (d.table t)) c at rest fit.1 stands)
  simple_reads (written.caught v a) at rest bs fit stands = act_reads a at (Some (d.variable v)) rest bs fit stands
  simple_reads (written.read v) at rest bs fit stands = refl
  simple_reads (written.load v) at rest bs fit stands = refl
  simple_reads (written.act a) at rest bs fit stands = act_reads a at None rest bs fit stands
  simple_reads written.commit at rest bs fit stands = refl
  simple_reads written.rollback at rest bs fit stands = refl

  -- Lines before others do not touch what begins at those.
  pub behind : (before ls : List Line) (m n : ℕ) → m ≡ length before + n → block_at is (before ++ ls) m ≡ block_at is ls n
  behind [] ls m n e = ap (block_at is ls) (omega arith)
  behind (l ∷ before) ls zero n e = absurd (omega arith)
  behind (l ∷ before) ls (suc m) n e = behind before ls m n (omega arith)

  pub lines_count : (b : written.Block) (at : ℕ) → length (block_lines d at b) ≡ size b
  lines_count written.none at = refl
  lines_count (written.simple s b) at = ap suc (lines_count b (at + length (simple_items d s)))
  lines_count (written.branch c x y b) at =
      let first : ℕ = at + length (items_of d maybe.none c) in
      let second : ℕ = first + length (block_items d x) in
      let third : ℕ = second + length (block_items d y) in
      let inner = lengths (block_lines d second y) (block_lines d third b) (size y) (size b) (lines_count y second) (lines_count b third) in
      ap suc (lengths (block_lines d first x) (block_lines d second y ++ block_lines d third b) (size x) (size y + size b) (lines_count x first) inner)
  lines_count (written.loop c x b) at =
      let first : ℕ = at + length (items_of d maybe.none c) in
      let second : ℕ = first + length (block_items d x) in
      ap suc (lengths (block_lines d first x) (block_lines d second b) (size x) (size b) (lines_count x first) (lines_count b second))

  -- The lines of a block, wherever they and its items stand, read as the block.
  pub block_reads : (b : written.Block) (at : ℕ) (rest : List Item) (ls : List Line) → written.BlockFits b → drop at is ≡ block_items d b ++ rest → block_at is (block_lines d at b ++ ls) 0 ≡ block_of d b
  block_reads written.none at rest ls fit stands = refl
  block_reads (written.simple s b) at rest ls fit stands =
      let here : drop at is ≡ simple_items d s ++ (block_items d b ++ rest) = stands ∙ append_assoc (simple_items d s) (block_items d b) rest in
      let next : ℕ = at + length (simple_items d s) in
      simple_reads s at (block_items d b ++ rest) (blocks is (block_lines d next b ++ ls)) fit.0 here
      ∙ ap (λ k. statement_of d s ⨾ k) (block_reads b next rest ls fit.1 (further is at (simple_items d s) (block_items d b ++ rest) here))
  block_reads (written.branch c x y b) at rest ls fit stands =
      let C = items_of d maybe.none c in
      let X = block_items d x in
      let Y = block_items d y in
      let B = block_items d b in
      let first : ℕ = at + length C in
      let second : ℕ = first + length X in
      let third : ℕ = second + length Y in
      let Lx = block_lines d first x in
      let Ly = block_lines d second y in
      let Lb = block_lines d third b in
      let here : drop at is ≡ C ++ (X ++ (Y ++ (B ++ rest))) = stands ∙ append_assoc C (X ++ (Y ++ B)) rest ∙ ap (λ z. C ++ z) (append_assoc X (Y ++ B) rest ∙ ap (λ z. X ++ z) (append_assoc Y B rest)) in
      let inside = further is at C (X ++ (Y ++ (B ++ rest))) here in
      let other = further is first X (Y ++ (B ++ rest)) inside in
      let after = further is second Y (B ++ rest) other in
      let lines : (Lx ++ (Ly ++ Lb)) ++ ls ≡ Lx ++ (Ly ++ (Lb ++ ls)) = append_assoc Lx (Ly ++ Lb) ls ∙ ap (λ z. Lx ++ z) (append_assoc Ly Lb ls) in
      let nx = lines_count x first in
      let ny = lines_count y second in
      let test = condition_stands maybe.none c at (X ++ (Y ++ (B ++ rest))) fit.0.1 here in
      let on_x = ap (λ z. block_at is z 0) lines ∙ block_reads x first (Y ++ (B ++ rest)) (Ly ++ (Lb ++ ls)) fit.1 inside in
      let on_y = ap (λ z. block_at is z (size x)) lines ∙ behind Lx (Ly ++ (Lb ++ ls)) (size x) 0 (omega (arith, nx)) ∙ block_reads y second (B ++ rest) (Lb ++ ls) fit.2 other in
      let on_b = ap (λ z. block_at is z (size x + size y)) lines ∙ behind Lx (Ly ++ (Lb ++ ls)) (size x + size y) (size y) (omega (arith, nx)) ∙ behind Ly (Lb ++ ls) (size y) 0 (omega (arith, ny)) ∙ block_reads b third rest ls fit.3 after in
      (λ i. branch (test i) (on_x i) (on_y i) ⨾ on_b i)
  block_reads (written.loop c x b) at rest ls fit stands =
      let C = items_of d maybe.none c in
      let X = block_items d x in
      let B = block_items d b in
      let first : ℕ = at + length C in
      let second : ℕ = first + length X in
      let Lx = block_lines d first x in
      let Lb = block_lines d second b in
      let here : drop at is ≡ C ++ (X ++ (B ++ rest)) = stands ∙ append_assoc C (X ++ B) rest ∙ ap (λ z. C ++ z) (append_assoc X B rest) in
      let inside = further is at C (X ++ (B ++ rest)) here in
      let after = further is first X (B ++ rest) inside in
      let lines : (Lx ++ Lb) ++ ls ≡ Lx ++ (Lb ++ ls) = append_assoc Lx Lb ls in
      let nx = lines_count x first in
      let test = condition_stands maybe.none c at (X ++ (B ++ rest)) fit.0.1 here in
      let on_x = ap (λ z. block_at is z 0) lines ∙ block_reads x first (B ++ rest) (Lb ++ ls) fit.1 inside in
      let on_b = ap (λ z. block_at is z (size x)) lines ∙ behind Lx (Lb ++ ls) (size x) 0 (omega (arith, nx)) ∙ block_reads b second rest ls fit.2 after in
      (λ i. while (test i) (on_x i) ⨾ on_b i)

  -- The same with lines before them.
  pub block_stands : (b : written.Block) (at : ℕ) (rest : List Item) (before ls : List Line) → written.BlockFits b → drop at is ≡ block_items d b ++ rest → block_at is (before ++ (block_lines d at b ++ ls)) (length before) ≡ block_of d b
  block_stands b at rest before ls fit stands = behind before (block_lines d at b ++ ls) (length before) 0 (omega arith) ∙ block_reads b at rest ls fit stands

pub reads_back : ReadsBack
reads_back d m c fit holds =
    let program : block_at c.items c.lines 0 ≡ block_of d m.statements =
    (λ i. block_at (holds.items i) (holds.lines i) 0)
    ∙ ap (λ ls. block_at (block_items d m.statements) ls 0) (sym (append-nil (block_lines d 0 m.statements)))
    ∙ block_reads d (block_items d m.statements) m.statements 0 [] [] fit.statements_fit (sym (append-nil (block_items d m.statements))) in
    (λ i. record { schema = record { tables = holds.tables i; refs = holds.references i; checks = holds.checks i }; program = program i })
