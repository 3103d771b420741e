-- Statements and blocks: what is accepted stands there.
use Rattle.std.proofs.Common.{◌≡◌, ℕ, zero, suc, ◌+◌, ◌-◌, ◌≤◌, List, [], ◌∷◌, ◌++◌, Some, None, Ok, Err, Option, Result, sym, refl, ap, ◌∙◌, subst, append_assoc, arith}
use Rattle.faults.specs.declared.Fault.{Fault}
use Rattle.lexer.specs.declared.keywords.Keyword.{Keyword}
use Rattle.lexer.specs.declared.keywords.Keyword.TheVariants as kw
use Rattle.lexer.specs.declared.signs.Sign.TheVariants.{Open, Close, Dot, Semicolon, Equal}
use Rattle.terms.specs.declared.pull.Pulled.{Pulled}
use Rattle.terms.specs.declared.shapes.Want.TheVariants as want
use Rattle.terms.specs.Pull.{and_then, pulled, sign_at, keyword_at}
use Rattle.terms.specs.Trees.{Token, name, number, keyword, sign, words_of}
use Rattle.terms.proofs.Steps.{never, nothing, then_ok, word_in}
use Rattle.syntax.specs.Repeats.{some, repeated}
use Rattle.syntax.specs.Trees.{Act, next, Simple, assign, clear, tail, select, caught, read, load, act, commit, rollback, Block, none, simple, branch, loop, act_words, simple_words, block_words, ActFits, SimpleFits, BlockFits, count_of, levels_of}
use Rattle.syntax.proofs.Repeating.{repeated_ok}
use Rattle.syntax.proofs.Runs.{Run, run_none, glue, ends_at, sign_step, keyword_step, pull_step, term_step, sign_last, keyword_last, term_last}
use Rattle.syntax.specs.declared.clauses.Write.TheVariants.{Insert, Update, Delete}
use Rattle.syntax.specs.declared.statements.Holder.{Holder}
use Rattle.syntax.specs.declared.statements.Holder.TheVariants.{If, While}
use Rattle.syntax.specs.declared.statements.First as firsts
use Rattle.syntax.specs.declared.statements.First.TheVariants as begin
use Rattle.syntax.specs.Clauses.{term_end, caught_in, found, is_tail, tail_or, value_in, value_rest}
use Rattle.syntax.specs.Tables.{with_room}
use Rattle.syntax.specs.Statements.{first_of, simple_body, simple_rest, last_word, Blocks, part_at, branch_at, loop_at, Holding, statement_in, statement_by, sequence, holding, block_at}
use Rattle.syntax.proofs.Parts.{some_ok, not_none, Acts, argument_ok, insert_ok, update_ok, delete_ok, select_ok}

-- A token is pulled, and the reader goes on by it.
pub pulled_step : (text : List ℕ) {B : Type 0} (at : ℕ) (k : Pulled → Result B Fault) (r : B) → and_then (pulled text at) k ≡ Ok r → (w : Token) × (place : ℕ) × (m : ℕ) × Run text at (w ∷ []) m × (k (record { word = word_in w; place = place; end = m }) ≡ Ok r)
pulled_step text at k r h =
    let i = pull_step text at k r h in
    let p = i.0 in
    (i.1, p.place, p.end, i.3, ap (λ u. k (record { word = u; place = p.place; end = p.end })) (sym i.2) ∙ i.4)

pub room_ok : {A : Type 0} (room place : ℕ) (r : Result A Fault) (x : A) → with_room room place r ≡ Ok x → (1 ≤ room) × (r ≡ Ok x)
room_ok zero place r x h = absurd (never h)
room_ok (suc n) place r x h = (omega arith, h)

-- An act by its first word.
acted : (text : List ℕ) (k : Keyword) (at m e : ℕ) → Run text at (keyword k ∷ []) m → Acts text k m e → (x : Act) × ActFits x × Run text at (act_words x) e
acted text k at m e s a = (a.done, a.fits, subst (λ ws. Run text at ws e) (sym a.is) (glue s a.run))

caught_ok : (text : List ℕ) (at e : ℕ) → and_then (pulled text at) (caught_in text) ≡ Ok e → (x : Act) × ActFits x × Run text at (act_words x) e
caught_ok text at e h = let i = pulled_step text at (caught_in text) e h in go i.0 i.1 i.2 i.3 i.4
  where
    go : (w : Token) (place m : ℕ) → Run text at (w ∷ []) m → caught_in text (record { word = word_in w; place = place; end = m }) ≡ Ok e → (x : Act) × ActFits x × Run text at (act_words x) e
    go (name x) place m s h = absurd (never h)
    go (number n) place m s h = absurd (never h)
    go (sign g) place m s h = absurd (never h)
    go (keyword kw.Model) place m s h = absurd (never h)
    go (keyword kw.EndModel) place m s h = absurd (never h)
    go (keyword kw.Table) place m s h = absurd (never h)
    go (keyword kw.Primary) place m s h = absurd (never h)
    go (keyword kw.Key) place m s h = absurd (never h)
    go (keyword kw.Foreign) place m s h = absurd (never h)
    go (keyword kw.References) place m s h = absurd (never h)
    go (keyword kw.Nil) place m s h = absurd (never h)
    go (keyword kw.Tail) place m s h = absurd (never h)
    go (keyword kw.Head) place m s h = absurd (never h)
    go (keyword kw.Read) place m s h = absurd (never h)
    go (keyword kw.Load) place m s h = absurd (never h)
    go (keyword kw.Select) place m s h = absurd (never h)
    go (keyword kw.From) place m s h = absurd (never h)
    go (keyword kw.Where) place m s h = absurd (never h)
    go (keyword kw.Next) place m s h = let a = argument_ok text m e h in (next a.0, tt, glue s a.1)
    go (keyword kw.Insert) place m s h = acted text kw.Insert at m e s (insert_ok text m e h)
    go (keyword kw.Into) place m s h = absurd (never h)
    go (keyword kw.Values) place m s h = absurd (never h)
    go (keyword kw.Update) place m s h = acted text kw.Update at m e s (update_ok text m e h)
    go (keyword kw.Set) place m s h = absurd (never h)
    go (keyword kw.Delete) place m s h = acted text kw.Delete at m e s (delete_ok text m e h)
    go (keyword kw.Commit) place m s h = absurd (never h)
    go (keyword kw.Rollback) place m s h = absurd (never h)
    go (keyword kw.If) place m s h = absurd (never h)
    go (keyword kw.Then) place m s h = absurd (never h)
    go (keyword kw.Else) place m s h = absurd (never h)
    go (keyword kw.EndIf) place m s h = absurd (never h)
    go (keyword kw.While) place m s h = absurd (never h)
    go (keyword kw.Do) place m s h = absurd (never h)
    go (keyword kw.EndWhile) place m s h = absurd (never h)
    go (keyword kw.Catch) place m s h = absurd (never h)
    go (keyword kw.True) place m s h = absurd (never h)
    go (keyword kw.False) place m s h = absurd (never h)

-- What is assigned.
pub record Valued (text : List ℕ) (at e : ℕ) : Type 0 where
  pub make : List ℕ → Simple
  pub more : List Token
  pub is : (v : List ℕ) → simple_words (make v) ≡ name v ∷ sign Equal ∷ more
  pub fits : (v : List ℕ) → SimpleFits (make v)
  pub run : Run text at more e

found_ok : (r : Result ℕ Fault) (e : ℕ) → found r ≡ Some e → r ≡ Ok e
found_ok (Ok m) e h = cc
found_ok (Err f) e h = absurd (nothing h)

assigned : (text : List ℕ) (at e : ℕ) → term_end text want.Value at ≡ Ok e → Valued text at e
assigned text at e h = let t = term_last text want.Value at e h in record { make = λ v. assign v t.0; more = words_of t.0; is = λ v. refl; fits = λ v. t.1; run = t.2 }

value_ok : (text : List ℕ) (at e : ℕ) → value_rest text at ≡ Ok e → Valued text at e
value_ok text at e h = let i = pulled_step text at (value_in text at) e h in go i.0 i.1 i.2 i.3 i.4
  where
    tailed : (x : List ℕ) (m : ℕ) → Run text at (name x ∷ []) m → (o : Option ℕ) → is_tail text m ≡ o → tail_or o (term_end text want.Value at) ≡ Ok e → Valued text at e
    tailed x m s None is h = assigned text at e h
    tailed x m s (Some z) is h =
        let same : z ≡ e = cc in
        let a = sign_step text Dot m (keyword_at text kw.Tail) z (found_ok (and_then (sign_at text Dot m) (keyword_at text kw.Tail)) z is) in
        record { make = λ v. tail v x; more = _; is = λ v. refl; fits = λ v. tt; run = ends_at (glue s (glue a.1 (keyword_last text kw.Tail a.0 z a.2))) same }

    go : (w : Token) (place m : ℕ) → Run text at (w ∷ []) m → value_in text at (record { word = word_in w; place = place; end = m }) ≡ Ok e → Valued text at e
    go (name x) place m s h = tailed x m s (is_tail text m) refl h
    go (number n) place m s h = assigned text at e h
    go (sign g) place m s h = assigned text at e h
    go (keyword kw.Model) place m s h = assigned text at e h
    go (keyword kw.EndModel) place m s h = assigned text at e h
    go (keyword kw.Table) place m s h = assigned text at e h
    go (keyword kw.Primary) place m s h = assigned text at e h
    go (keyword kw.Key) place m s h = assigned text at e h
    go (keyword kw.Foreign) place m s h = assigned text at e h
    go (keyword kw.References) place m s h = assigned text at e h
    go (keyword kw.Nil) place m s h = record { make = clear; more = _; is = λ v. refl; fits = λ v. tt; run = ends_at s (let z : m ≡ e = cc in z) }
    go (keyword kw.Tail) place m s h = assigned text at e h
    go (keyword kw.Head) place m s h = assigned text at e h
    go (keyword kw.Read) place m s h = assigned text at e h
    go (keyword kw.Load) place m s h = assigned text at e h
    go (keyword kw.Select) place m s h = let a = select_ok text m e h in record { make = λ v. select v a.0 a.1 a.2 a.3; more = _; is = λ v. refl; fits = λ v. a.4; run = glue s a.5 }
    go (keyword kw.From) place m s h = assigned text at e h
    go (keyword kw.Where) place m s h = assigned text at e h
    go (keyword kw.Next) place m s h = assigned text at e h
    go (keyword kw.Insert) place m s h = assigned text at e h
    go (keyword kw.Into) place m s h = assigned text at e h
    go (keyword kw.Values) place m s h = assigned text at e h
    go (keyword kw.Update) place m s h = assigned text at e h
    go (keyword kw.Set) place m s h = assigned text at e h
    go (keyword kw.Delete) place m s h = assigned text at e h
    go (keyword kw.Commit) place m s h = assigned text at e h
    go (keyword kw.Rollback) place m s h = assigned text at e h
    go (keyword kw.If) place m s h = assigned text at e h
    go (keyword kw.Then) place m s h = assigned text at e h
    go (keyword kw.Else) place m s h = assigned text at e h
    go (keyword kw.EndIf) place m s h = assigned text at e h
    go (keyword kw.While) place m s h = assigned text at e h
    go (keyword kw.Do) place m s h = assigned text at e h
    go (keyword kw.EndWhile) place m s h = assigned text at e h
    go (keyword kw.Catch) place m s h =
        let a = sign_step text Open m _ _ h in
        let b = then_ok (and_then (pulled text a.0) (caught_in text)) _ _ a.2 in
        let c = caught_ok text a.0 b.0 b.1 in
        record { make = λ v. caught v c.0; more = _; is = λ v. refl; fits = λ v. c.1; run = glue s (glue a.1 (glue c.2 (sign_last text Close b.0 e b.2))) }
    go (keyword kw.True) place m s h = assigned text at e h
    go (keyword kw.False) place m s h = assigned text at e h

-- A simple statement behind its first token.
pub record Simply (text : List ℕ) (w : Token) (at e : ℕ) : Type 0 where
  pub done : Simple
  pub more : List Token
  pub is : simple_words done ≡ w ∷ more
  pub fits : SimpleFits done
  pub run : Run text at more e

-- A statement before the statements behind it.
pub record Step (text : List ℕ) (d at room : ℕ) (s : ℕ × ℕ) : Type 0 where
  pub put : Block → Block
  pub words : List Token
  pub is : (b : Block) → block_words (put b) ≡ words ++ block_words b
  pub run : Run text at words s.0
  pub fits : (b : Block) → BlockFits b → BlockFits (put b)
  pub count : (b : Block) → count_of (put b) + s.1 ≡ room + count_of b
  pub levels : (b : Block) → levels_of b ≤ d → levels_of (put b) ≤ d

simple_step : (text : List ℕ) (d at : ℕ) (w : Token) (f : firsts.First) (place m room : ℕ) → Run text at (w ∷ []) m → ((e : ℕ) → simple_body text f m ≡ Ok e → Simply text w m e) → (s : ℕ × ℕ) → with_room room place (and_then (simple_rest text f m) (λ e. Ok (Some (e, room - 1)))) ≡ Ok (Some s) → Step text d at room s
simple_step text d at w f place m room st body s h =
    let i = room_ok room place (and_then (simple_rest text f m) (λ e. Ok (Some (e, room - 1)))) (Some s) h in
    let j = then_ok (simple_rest text f m) (λ e. Ok (Some (e, room - 1))) (Some s) i.1 in
    let k = then_ok (simple_body text f m) (sign_at text Semicolon) j.0 j.1 in
    let x = body k.0 k.1 in
    let both : ◌≡◌ {A = ℕ × ℕ} (j.0, room - 1) s = let z = j.2 in cc in
    let end : j.0 ≡ s.0 = ap (λ q. q.0) both in
    let left : room - 1 ≡ s.1 = ap (λ q. q.1) both in
    let some : 1 ≤ room = i.0 in
    record {
      put = simple x.done;
      words = simple_words x.done ++ (sign Semicolon ∷ []);
      is = λ b. sym (append_assoc (simple_words x.done) (sign Semicolon ∷ []) (block_words b));
      run = glue (subst (λ ws. Run text at ws k.0) (sym x.is) (glue st x.run)) (ends_at (sign_last text Semicolon k.0 j.0 k.2) end);
      fits = λ b g. (x.fits, g);
      count = λ b. omega arith;
      levels = λ b g. g;
    }

-- Statements one after another were read.
pub record Blocked (text : List ℕ) (d : ℕ) (q s : ℕ × ℕ) : Type 0 where
  pub block : Block
  pub run : Run text q.0 (block_words block) s.0
  pub fits : BlockFits block
  pub count : count_of block + s.1 ≡ q.1
  pub levels : levels_of block ≤ d

abbrev holder_word : Holder → Keyword
holder_word If = kw.If
holder_word While = kw.While

abbrev Holds : List ℕ → ℕ → Holding → Type 0
Holds text d hold = (h : Holder) (at place m room : ℕ) → Run text at (keyword (holder_word h) ∷ []) m → 1 ≤ room → (s : ℕ × ℕ) → hold h place m (room - 1) ≡ Ok s → Step text d at room s

holder_step : (text : List ℕ) (d : ℕ) (hold : Holding) → Holds text d hold → (h : Holder) (at place m room : ℕ) → Run text at (keyword (holder_word h) ∷ []) m → (s : ℕ × ℕ) → with_room room place (some (hold h place m (room - 1))) ≡ Ok (Some s) → Step text d at room s
holder_step text d hold holds h at place m room st s e =
    let i = room_ok room place (some (hold h place m (room - 1))) (Some s) e in
    holds h at place m room st i.0 s (some_ok (hold h place m (room - 1)) s i.1)

statement_ok : (text : List ℕ) (d : ℕ) (hold : Holding) → Holds text d hold → (at room : ℕ) (s : ℕ × ℕ) → statement_by text hold (at, room) ≡ Ok (Some s) → Step text d at room s
statement_ok text d hold holds at room s h =
    let i = pulled_step text at (λ p. statement_in text hold room p (first_of p.word)) (Some s) h in
    go i.0 i.1 i.2 i.3 i.4
  where
    go : (w : Token) (place m : ℕ) → Run text at (w ∷ []) m → statement_in text hold room (record { word = word_in w; place = place; end = m }) (first_of (word_in w)) ≡ Ok (Some s) → Step text d at room s
    go (name v) place m st h =
        simple_step text d at (name v) begin.Target place m room st (λ e g.
        let a = sign_step text Equal m (value_rest text) e g in
        let x = value_ok text a.0 e a.2 in
        record { done = x.make v; more = sign Equal ∷ x.more; is = x.is v; fits = x.fits v; run = glue a.1 x.run }) s h
    go (number n) place m st h = absurd (not_none h)
    go (sign g) place m st h = absurd (not_none h)
    go (keyword kw.Model) place m st h = absurd (not_none h)
    go (keyword kw.EndModel) place m st h = absurd (not_none h)
    go (keyword kw.Table) place m st h = absurd (not_none h)
    go (keyword kw.Primary) place m st h = absurd (not_none h)
    go (keyword kw.Key) place m st h = absurd (not_none h)
    go (keyword kw.Foreign) place m st h = absurd (not_none h)
    go (keyword kw.References) place m st h = absurd (not_none h)
    go (keyword kw.Nil) place m st h = absurd (not_none h)
    go (keyword kw.Tail) place m st h = absurd (not_none h)
    go (keyword kw.Head) place m st h = absurd (not_none h)
    go (keyword kw.Read) place m st h = simple_step text d at (keyword kw.Read) begin.Argument place m room st (λ e g. let a = argument_ok text m e g in record { done = read a.0; more = _; is = refl; fits = tt; run = a.1 }) s h
    go (keyword kw.Load) place m st h = simple_step text d at (keyword kw.Load) begin.Argument place m room st (λ e g. let a = argument_ok text m e g in record { done = load a.0; more = _; is = refl; fits = tt; run = a.1 }) s h
    go (keyword kw.Select) place m st h = absurd (not_none h)
    go (keyword kw.From) place m st h = absurd (not_none h)
    go (keyword kw.Where) place m st h = absurd (not_none h)
    go (keyword kw.Next) place m st h = simple_step text d at (keyword kw.Next) begin.Argument place m room st (λ e g. let a = argument_ok text m e g in record { done = act (next a.0); more = _; is = refl; fits = tt; run = a.1 }) s h
    go (keyword kw.Insert) place m st h = simple_step text d at (keyword kw.Insert) (begin.Write Insert) place m room st (λ e g. let a = insert_ok text m e g in record { done = act a.done; more = a.more; is = a.is; fits = a.fits; run = a.run }) s h
    go (keyword kw.Into) place m st h = absurd (not_none h)
    go (keyword kw.Values) place m st h = absurd (not_none h)
    go (keyword kw.Update) place m st h = simple_step text d at (keyword kw.Update) (begin.Write Update) place m room st (λ e g. let a = update_ok text m e g in record { done = act a.done; more = a.more; is = a.is; fits = a.fits; run = a.run }) s h
    go (keyword kw.Set) place m st h = absurd (not_none h)
    go (keyword kw.Delete) place m st h = simple_step text d at (keyword kw.Delete) (begin.Write Delete) place m room st (λ e g. let a = delete_ok text m e g in record { done = act a.done; more = a.more; is = a.is; fits = a.fits; run = a.run }) s h
    go (keyword kw.Commit) place m st h = simple_step text d at (keyword kw.Commit) begin.Call place m room st (λ e g. let a = sign_step text Open m (sign_at text Close) e g in record { done = commit; more = _; is = refl; fits = tt; run = glue a.1 (sign_last text Close a.0 e a.2) }) s h
    go (keyword kw.Rollback) place m st h = simple_step text d at (keyword kw.Rollback) begin.Call place m room st (λ e g. let a = sign_step text Open m (sign_at text Close) e g in record { done = rollback; more = _; is = refl; fits = tt; run = glue a.1 (sign_last text Close a.0 e a.2) }) s h
    go (keyword kw.If) place m st h = holder_step text d hold holds If at place m room st s h
    go (keyword kw.Then) place m st h = absurd (not_none h)
    go (keyword kw.Else) place m st h = absurd (not_none h)
    go (keyword kw.EndIf) place m st h = absurd (not_none h)
    go (keyword kw.While) place m st h = holder_step text d hold holds While at place m room st s h
    go (keyword kw.Do) place m st h = absurd (not_none h)
    go (keyword kw.EndWhile) place m st h = absurd (not_none h)
    go (keyword kw.Catch) place m st h = absurd (not_none h)
    go (keyword kw.True) place m st h = absurd (not_none h)
    go (keyword kw.False) place m st h = absurd (not_none h)

sequence_ok : (text : List ℕ) (d : ℕ) (hold : Holding) → Holds text d hold → (n : ℕ) (q s : ℕ × ℕ) → repeated (statement_by text hold) n q ≡ Ok s → Blocked text d q s
sequence_ok text d hold holds =
    repeated_ok (statement_by text hold) (Blocked text d) (λ q. record { block = none; run = run_none; fits = tt; count = omega arith; levels = omega arith }) (λ q t r is more.
    let x = statement_ok text d hold holds q.0 q.1 t is in
    let b = more.block in
    let c = x.count b in
    let k = more.count in
    record {
      block = x.put b;
      run = subst (λ ws. Run text q.0 ws r.0) (sym (x.is b)) (glue x.run more.run);
      fits = x.fits b more.fits;
      count = omega arith;
      levels = x.levels b more.levels;
    })

abbrev Reads : List ℕ → ℕ → Blocks → Type 0
Reads text d block = (at room : ℕ) (s : ℕ × ℕ) → block at room ≡ Ok s → Blocked text d (at, room) s

last_ok : (text : List ℕ) (k : Keyword) (at e : ℕ) → last_word text k at ≡ Ok e → Run text at (keyword k ∷ sign Semicolon ∷ []) e
last_ok text k at e h = let a = keyword_step text k at (sign_at text Semicolon) e h in glue a.1 (sign_last text Semicolon a.0 e a.2)

branch_ok : (text : List ℕ) (d : ℕ) (block : Blocks) → Reads text d block → (at m room : ℕ) → Run text at (keyword kw.If ∷ []) m → 1 ≤ room → (s : ℕ × ℕ) → branch_at text block m (room - 1) ≡ Ok s → Step text (suc d) at room s
branch_ok text d block reads at m room st has s h =
    let c = term_step text want.Truth m _ _ h in
    let t = then_ok (part_at text block kw.Then (c.0, room - 1)) _ _ c.4 in
    let tk = keyword_step text kw.Then c.0 (λ a. block a (room - 1)) t.0 t.1 in
    let x = reads tk.0 (room - 1) t.0 tk.2 in
    let u = then_ok (part_at text block kw.Else t.0) _ _ t.2 in
    let uk = keyword_step text kw.Else t.0.0 (λ a. block a t.0.1) u.0 u.1 in
    let y = reads uk.0 t.0.1 u.0 uk.2 in
    let l = then_ok (last_word text kw.EndIf u.0.0) (λ e. Ok (e, u.0.1)) s u.2 in
    let both : ◌≡◌ {A = ℕ × ℕ} (l.0, u.0.1) s = let z = l.2 in cc in
    let end : l.0 ≡ s.0 = ap (λ q. q.0) both in
    let left : u.0.1 ≡ s.1 = ap (λ q. q.1) both in
    let cx : count_of x.block + t.0.1 ≡ room - 1 = x.count in
    let cy : count_of y.block + u.0.1 ≡ t.0.1 = y.count in
    let lx : levels_of x.block ≤ d = x.levels in
    let ly : levels_of y.block ≤ d = y.levels in
    record {
      put = branch c.1 x.block y.block;
      words = keyword kw.If ∷ words_of c.1 ++ (keyword kw.Then ∷ block_words x.block ++ (keyword kw.Else ∷ block_words y.block ++ (keyword kw.EndIf ∷ sign Semicolon ∷ [])));
      is = λ b. simp append_assoc;
      run = glue st (glue c.3 (glue tk.1 (glue x.run (glue uk.1 (glue y.run (ends_at (last_ok text kw.EndIf u.0.0 l.0 l.1) end))))));
      fits = λ b g. (c.2, x.fits, y.fits, g);
      count = λ b. omega arith;
      levels = λ b g. omega arith;
    }

loop_ok : (text : List ℕ) (d : ℕ) (block : Blocks) → Reads text d block → (at m room : ℕ) → Run text at (keyword kw.While ∷ []) m → 1 ≤ room → (s : ℕ × ℕ) → loop_at text block m (room - 1) ≡ Ok s → Step text (suc d) at room s
loop_ok text d block reads at m room st has s h =
    let c = term_step text want.Truth m _ _ h in
    let t = then_ok (part_at text block kw.Do (c.0, room - 1)) _ _ c.4 in
    let tk = keyword_step text kw.Do c.0 (λ a. block a (room - 1)) t.0 t.1 in
    let x = reads tk.0 (room - 1) t.0 tk.2 in
    let l = then_ok (last_word text kw.EndWhile t.0.0) (λ e. Ok (e, t.0.1)) s t.2 in
    let both : ◌≡◌ {A = ℕ × ℕ} (l.0, t.0.1) s = let z = l.2 in cc in
    let end : l.0 ≡ s.0 = ap (λ q. q.0) both in
    let left : t.0.1 ≡ s.1 = ap (λ q. q.1) both in
    let cx : count_of x.block + t.0.1 ≡ room - 1 = x.count in
    let lx : levels_of x.block ≤ d = x.levels in
    record {
      put = loop c.1 x.block;
      words = keyword kw.While ∷ words_of c.1 ++ (keyword kw.Do ∷ block_words x.block ++ (keyword kw.EndWhile ∷ sign Semicolon ∷ []));
      is = λ b. simp append_assoc;
      run = glue st (glue c.3 (glue tk.1 (glue x.run (ends_at (last_ok text kw.EndWhile t.0.0 l.0 l.1) end))));
      fits = λ b g. (c.2, x.fits, g);
      count = λ b. omega arith;
      levels = λ b g. omega arith;
    }

holding_ok : (text : List ℕ) (d : ℕ) → Holds text d (holding text d)
unfolding holding
holding_ok text zero h at place m room st has s e = absurd (never e)
holding_ok text (suc d) If at place m room st has s e = branch_ok text d (sequence text (holding text d)) (λ at room s. sequence_ok text d (holding text d) (holding_ok text d) (suc room) (at, room) s) at m room st has s e
holding_ok text (suc d) While at place m room st has s e = loop_ok text d (sequence text (holding text d)) (λ at room s. sequence_ok text d (holding text d) (holding_ok text d) (suc room) (at, room) s) at m room st has s e

pub block_ok : (text : List ℕ) (d at room : ℕ) (s : ℕ × ℕ) → block_at text d at room ≡ Ok s → Blocked text d (at, room) s
block_ok text d at room s h = sequence_ok text d (holding text d) (holding_ok text d) (suc room) (at, room) s h
