-- Whole models: what is accepted spells a well-formed model, and what spells one is accepted.
use Rattle.std.proofs.Common.{◌≡◌, ℕ, ◌+◌, ◌-◌, ◌≤◌, false, leb, List, [], ◌∷◌, ◌++◌, map, length, Some, None, Ok, Err, Option, Result, sym, refl, ap, ◌∙◌, subst, append_assoc, arith}
use Rattle.std.proofs.lemmas.Bool.{cond-true, leb-true, le-leb}
use Rattle.faults.specs.declared.Fault.{Fault}
use Rattle.lexer.specs.declared.keywords.Keyword.TheVariants as kw
use Rattle.lexer.specs.declared.signs.Sign.TheVariants.{Semicolon}
use Rattle.terms.specs.Pull.{and_then, is_keyword}
use Rattle.terms.specs.Trees.{Token, name, keyword, sign}
use Rattle.terms.specs.Grammar.{Stands}
use Rattle.terms.proofs.Steps.{never, then_ok, then_by, cond_ok, word_in}
use Rattle.syntax.specs.Repeats.{repeated}
use Rattle.syntax.specs.Trees.{Act, next, insert, update, delete, Simple, assign, clear, tail, select, caught, read, load, act, commit, rollback, Block, none, simple, branch, loop, Model, tables_words, act_words, simple_words, block_words, model_words, count_of, references_in, checks_in, WellFormed}
use Rattle.syntax.proofs.Runs.{Run, glue, split, over, ends_at, keyword_step, name_step, keyword_go, name_go}
use Rattle.faults.specs.declared.Fault.TheVariants.{ModelTooLong}
use Rattle.lexer.specs.Tokens.{Lexeme, after}
use Rattle.lexer.specs.Lexing.{next_token, with_end}
use Rattle.lexer.specs.Layout.{Cut}
use Rattle.lexer.proofs.Laws.{cut_laid, laid_cut}
use Rattle.terms.specs.Grammar.{token_of}
use Rattle.syntax.specs.Tables.{Schema}
use Rattle.syntax.specs.Tables.{table_behind, tables_at}
use Rattle.syntax.specs.Statements.{block_at}
use Rattle.syntax.specs.Whole.{or_behind, end_at, model_at, form_of}
use Rattle.syntax.specs.Grammar.{Spells, Formed}
use Rattle.syntax.proofs.BlocksAccepted.{block_ok}
use Rattle.syntax.proofs.BlocksComplete.{stop, block_read}
use Rattle.syntax.proofs.TablesAccepted.{tables_ok}
use Rattle.syntax.proofs.TablesComplete.{tables_read}

-- Tokens that stand one after another are a cut of the text.
stands_cut : (text : List ℕ) (at e : ℕ) (ws : List Token) → Stands text at ws e → (ts : List Lexeme) × Cut text at ts e × (map token_of ts ≡ ws)
stands_cut text at e [] s = ([], s, refl)
stands_cut text at e (w ∷ ws) s =
    let q = stands_cut text (after s.0) e ws s.3 in
    (s.0 ∷ q.0, (s.1, q.1), ap (λ v. v ∷ map token_of q.0) s.2 ∙ ap (λ vs. w ∷ vs) q.2)

cut_stands : (text : List ℕ) (at e : ℕ) (ts : List Lexeme) → Cut text at ts e → Stands text at (map token_of ts) e
cut_stands text at e [] c = c
cut_stands text at e (t ∷ ts) c = (t, c.0, refl, cut_stands text (after t) e ts c.1)

-- Nothing stands behind.
end_ok : (text : List ℕ) (at : ℕ) → end_at text at ≡ Ok tt → next_token text at ≡ Ok None
end_ok text at h = go (next_token text at) h
  where
    go : (r : Result (Option Lexeme) Fault) → and_then (with_end r) or_behind ≡ Ok tt → r ≡ Ok None
    go (Ok None) h = refl
    go (Ok (Some t)) h = absurd (never h)
    go (Err f) h = absurd (never h)

end_read : (text : List ℕ) (at : ℕ) → next_token text at ≡ Ok None → end_at text at ≡ Ok tt
end_read text at h = ap (λ r. and_then (with_end r) or_behind) h

-- No statement begins with TABLE.
pub record NoTable (ws : List Token) : Type 0 where
  pub token : Token
  pub others : List Token
  pub is : ws ≡ token ∷ others
  pub other : is_keyword kw.Table (word_in token) ≡ false

act_first : (a : Act) (ws : List Token) → NoTable (act_words a ++ ws)
act_first (next v) ws = record { token = keyword kw.Next; others = _; is = refl; other = refl }
act_first (insert t x xs) ws = record { token = keyword kw.Insert; others = _; is = refl; other = refl }
act_first (update t a x c) ws = record { token = keyword kw.Update; others = _; is = refl; other = refl }
act_first (delete t c) ws = record { token = keyword kw.Delete; others = _; is = refl; other = refl }

simple_first : (x : Simple) (ws : List Token) → NoTable (simple_words x ++ ws)
simple_first (assign v t) ws = record { token = name v; others = _; is = refl; other = refl }
simple_first (clear v) ws = record { token = name v; others = _; is = refl; other = refl }
simple_first (tail v w) ws = record { token = name v; others = _; is = refl; other = refl }
simple_first (select v a ns t c) ws = record { token = name v; others = _; is = refl; other = refl }
simple_first (caught v a) ws = record { token = name v; others = _; is = refl; other = refl }
simple_first (read v) ws = record { token = keyword kw.Read; others = _; is = refl; other = refl }
simple_first (load v) ws = record { token = keyword kw.Load; others = _; is = refl; other = refl }
simple_first (act a) ws = act_first a ws
simple_first commit ws = record { token = keyword kw.Commit; others = _; is = refl; other = refl }
simple_first rollback ws = record { token = keyword kw.Rollback; others = _; is = refl; other = refl }

block_first : (b : Block) → NoTable (block_words b ++ (keyword kw.EndModel ∷ []))
block_first none = record { token = keyword kw.EndModel; others = _; is = refl; other = refl }
block_first (simple x b) = subst NoTable (sym (append_assoc (simple_words x) (sign Semicolon ∷ block_words b) (keyword kw.EndModel ∷ []))) (simple_first x ((sign Semicolon ∷ block_words b) ++ (keyword kw.EndModel ∷ [])))
block_first (branch c x y b) = record { token = keyword kw.If; others = _; is = refl; other = refl }
block_first (loop c x b) = record { token = keyword kw.While; others = _; is = refl; other = refl }

end_same : (x y : ℕ) → ◌≡◌ {A = Result ℕ Fault} (Ok x) (Ok y) → x ≡ y
end_same x y h = cc

pub accepts : (text : List ℕ) → form_of text ≡ Ok tt → Formed text
accepts text h =
    let i = cond_ok (leb (length text) 16384) (model_at text) ModelTooLong tt h in
    let a = keyword_step text kw.Model 0 _ _ i.1 in
    let b = name_step text a.0 _ _ a.2 in
    let c = then_ok (tables_at text b.0) _ _ b.3 in
    let start : Schema = record { end = b.0; tables = 8; references = 16; checks = 16 } in
    let c1 = then_ok (repeated (table_behind text) 9 start) (λ s. Ok s.end) c.0 c.1 in
    let ts = tables_ok text 9 start c1.0 c1.1 in
    let end : c1.0.end ≡ c.0 = end_same _ _ c1.2 in
    let d = then_ok (block_at text 8 c.0 256) _ _ c.2 in
    let bl = block_ok text 8 c.0 256 d.0 d.1 in
    let e = keyword_step text kw.EndModel d.0.0 (end_at text) tt d.2 in
    let n1 : length ts.list + c1.0.tables ≡ 8 = ts.tables_count in
    let n2 : references_in ts.list + c1.0.references ≡ 16 = ts.refs_count in
    let n3 : checks_in ts.list + c1.0.checks ≡ 16 = ts.checks_count in
    let n4 : count_of bl.block + d.0.1 ≡ 256 = bl.count in
    let m : Model = record { title = b.1; tables = ts.list; statements = bl.block } in
    let run : Run text 0 (model_words m) e.0 = glue a.1 (glue b.2 (glue (ends_at ts.run end) (glue bl.run e.1))) in
    let cut = stands_cut text 0 e.0 (model_words m) run.stands in (
      leb-true (length text) 16384 i.0,
      m,
      record {
        tables_fit = ts.fits;
        tables_few = omega arith;
        references_few = omega arith;
        checks_few = omega arith;
        statements_fit = bl.fits;
        statements_few = omega arith;
        shallow = bl.levels;
      },
      (cut.0, cut_laid text 0 cut.0 e.0 cut.1 (end_ok text e.0 e.2), cut.2),
    )

complete_model : (text : List ℕ) (m : Model) → length text ≤ 16384 → WellFormed m → Spells text m → form_of text ≡ Ok tt
complete_model text m fits well spelled =
    let c = laid_cut text 0 spelled.0 spelled.1 in
    let to = c.0 in
    let stands : Stands text 0 (model_words m) to = subst (λ ws. Stands text 0 ws to) spelled.2 (cut_stands text 0 to spelled.0 c.1) in
    let behind = block_words m.statements ++ (keyword kw.EndModel ∷ []) in
    let few = well.tables_few in
    let few2 = well.references_few in
    let few3 = well.checks_few in
    let few4 = well.statements_few in
    let begun = block_first m.statements in
    cond-true _ (model_at text) _ (le-leb (length text) 16384 fits)
    ∙ keyword_go text kw.Model 0 _ _ (name m.title ∷ tables_words m.tables ++ behind) to (record { stands = stands }) (λ a s. name_go text m.title a _ _ (tables_words m.tables ++ behind) to s (λ b s.
    let p = split (tables_words m.tables) behind s in
    let q = split (block_words m.statements) (keyword kw.EndModel ∷ []) p.2 in
    let tables = tables_read text m.tables 9 b 8 16 16 p.0 to begun.token begun.others begun.other few (omega arith) few2 few3 well.tables_fit p.1 (subst (λ ws. Run text p.0 ws to) begun.is p.2) in
    then_by (tables_at text b) _ p.0 _ (then_by (repeated (table_behind text) 9 (record { end = b; tables = 8; references = 16; checks = 16 })) (λ s. Ok s.end) _ _ tables refl)
    (then_by (block_at text 8 p.0 256) _ (q.0, 256 - count_of m.statements) _ (block_read text m.statements 8 257 p.0 256 q.0 well.shallow few4 (omega arith) well.statements_fit (stop text q.2 refl) q.1)
    (keyword_go text kw.EndModel q.0 (end_at text) _ [] to q.2 (λ e s. end_read text e (ap (next_token text) (over s) ∙ c.2))))))

pub completes : (text : List ℕ) → Formed text → form_of text ≡ Ok tt
completes text f = complete_model text f.1 f.0 f.2 f.3
