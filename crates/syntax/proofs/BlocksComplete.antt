-- Statements and blocks: what stands there is accepted.
use Rattle.std.proofs.Common.{◌≡◌, ℕ, zero, suc, ◌-◌, ◌<◌, ◌≤◌, true, false, cond, List, [], ◌∷◌, ◌++◌, Some, None, Ok, Err, Option, Result, sym, refl, ap, ◌∙◌, subst, append_assoc, arith}
use Rattle.std.proofs.lemmas.Bool.{or_parts}
use Rattle.faults.specs.declared.Fault.{Fault}
use Rattle.faults.specs.declared.Fault.TheVariants.{NotAllowed}
use Rattle.lexer.specs.declared.keywords.Keyword.{Keyword}
use Rattle.lexer.specs.declared.keywords.Keyword.TheVariants as kw
use Rattle.lexer.specs.declared.signs.Sign.TheVariants.{Open, Close, Dot, Semicolon, Equal}
use Rattle.terms.specs.declared.pull.Word.TheVariants as word
use Rattle.terms.specs.declared.shapes.Want.TheVariants as want
use Rattle.terms.specs.Pull.{and_then, pulled, must, is_sign, is_keyword, sign_at, keyword_at}
use Rattle.terms.specs.Trees.{Token, name, number, keyword, sign, Tree, literal, lone, head, cell, truth, is_nil, only, pair, words_of}
use Rattle.terms.specs.Grammar.{Stands}
use Rattle.terms.proofs.Steps.{then_by, word_in, first, taken}
use Rattle.syntax.specs.Repeats.{some, repeated}
use Rattle.syntax.specs.Trees.{Act, next, insert, update, delete, Simple, assign, clear, tail, select, caught, read, load, act, commit, rollback, Block, none, simple, branch, loop, names_words, act_words, simple_words, block_words, Fits, ActFits, SimpleFits, BlockFits, count_of, levels_of}
use Rattle.syntax.proofs.Repeating.{repeated_none}
use Rattle.syntax.proofs.Runs.{Run, split, over, sign_go, keyword_go, pull_go, term_go, sign_end, keyword_end, Follows, follows, term_end_lem}
use Rattle.syntax.specs.declared.clauses.Write.TheVariants.{Insert, Update, Delete}
use Rattle.syntax.specs.declared.statements.Holder.{Holder}
use Rattle.syntax.specs.declared.statements.Holder.TheVariants.{If, While}
use Rattle.syntax.specs.declared.statements.First as firsts
use Rattle.syntax.specs.declared.statements.First.TheVariants as begin
use Rattle.syntax.specs.Clauses.{term_end, caught_in, found, is_tail, tail_or, value_in, value_rest}
use Rattle.syntax.specs.Tables.{with_room}
use Rattle.syntax.specs.Statements.{first_of, simple_body, simple_rest, last_word, Blocks, part_at, branch_at, loop_at, holder_at, Holding, statement_in, statement_by, holding, block_at}
use Rattle.syntax.proofs.Repeating.{repeated_some}
use Rattle.syntax.proofs.Levels.{holding_more}
use Rattle.syntax.proofs.Parts.{argument_read, insert_read, update_read, delete_read, select_read}

module _ (text : List ℕ) where
  -- Behind a name no .TAIL comes.
  no_tail : (m e : ℕ) (w : Token) (ws : List Token) → is_sign Dot (word_in w) ≡ false → Stands text m (w ∷ ws) e → is_tail text m ≡ None
  no_tail m e w ws h s =
      let f = first text m w ws e s in
      ap (λ r. found (and_then (and_then r (must (is_sign Dot))) (keyword_at text kw.Tail))) f.pulls
      ∙ ap (λ b. found (and_then (cond b (Ok f.mid) (Err (NotAllowed f.place))) (keyword_at text kw.Tail))) h

  named_read : (v : List ℕ) (t : Tree) (ws : List Token) (at e : ℕ) → words_of t ≡ name v ∷ ws → Fits want.Value t → Follows text e → Run text at (words_of t) e → ((m : ℕ) → Run text m ws e → is_tail text m ≡ None) → value_rest text at ≡ Ok e
  named_read v t ws at e is fits f s alone =
      pull_go text (name v) at (value_in text at) _ ws e (subst (λ ws. Run text at ws e) is s) (λ place m r. ap (λ o. tail_or o (term_end text want.Value at)) (alone m r) ∙ term_end_lem text want.Value t at e fits f s)

  assign_read : (t : Tree) (at e : ℕ) → Fits want.Value t → Follows text e → Run text at (words_of t) e → value_rest text at ≡ Ok e
  assign_read (literal n) at e fits f s = pull_go text (number n) at (value_in text at) _ _ e s (λ place m r. term_end_lem text want.Value (literal n) at e fits f s)
  assign_read (lone v) at e fits f s =
      named_read v (lone v) [] at e refl fits f s (λ m r. no_tail m f.end f.token f.others (or_parts (is_sign Dot (word_in f.token)) _ f.stop).0 (subst (λ k. Stands text k (f.token ∷ f.others) f.end) (sym (over r)) f.stands))
  assign_read (head v) at e fits f s =
      named_read v (head v) (sign Dot ∷ keyword kw.Head ∷ []) at e refl fits f s (λ m r.
      let d = first text m (sign Dot) (keyword kw.Head ∷ []) e r.stands in
      let k = first text d.mid (keyword kw.Head) [] e d.rest in
      ap (λ r. found (and_then (and_then r (must (is_sign Dot))) (keyword_at text kw.Tail))) d.pulls ∙ ap (λ r. found (and_then r (must (is_keyword kw.Tail)))) k.pulls)
  assign_read (cell v a) at e fits f s = named_read v (cell v a) (sign Open ∷ name a ∷ sign Close ∷ []) at e refl fits f s (λ m r. no_tail m e (sign Open) (name a ∷ sign Close ∷ []) refl r.stands)
  assign_read (truth true) at e fits f s = pull_go text (keyword kw.True) at (value_in text at) _ _ e s (λ place m r. term_end_lem text want.Value (truth true) at e fits f s)
  assign_read (truth false) at e fits f s = pull_go text (keyword kw.False) at (value_in text at) _ _ e s (λ place m r. term_end_lem text want.Value (truth false) at e fits f s)
  assign_read (is_nil v) at e fits f s = pull_go text (sign Open) at (value_in text at) _ _ e s (λ place m r. term_end_lem text want.Value (is_nil v) at e fits f s)
  assign_read (only g t) at e fits f s = pull_go text (sign Open) at (value_in text at) _ _ e s (λ place m r. term_end_lem text want.Value (only g t) at e fits f s)
  assign_read (pair g l r) at e fits f s = pull_go text (sign Open) at (value_in text at) _ _ e s (λ place m q. term_end_lem text want.Value (pair g l r) at e fits f s)

  caught_read : (a : Act) (at e : ℕ) → ActFits a → Follows text e → Run text at (act_words a) e → and_then (pulled text at) (caught_in text) ≡ Ok e
  caught_read (next v) at e fits f s = pull_go text (keyword kw.Next) at (caught_in text) _ _ e s (λ place m r. argument_read text v m e r)
  caught_read (insert t x xs) at e fits f s = pull_go text (keyword kw.Insert) at (caught_in text) _ _ e s (λ place m r. insert_read text t x xs m e fits.0 fits.1 r)
  caught_read (update t a x c) at e fits f s = pull_go text (keyword kw.Update) at (caught_in text) _ _ e s (λ place m r. update_read text t a x c m e fits.0 fits.1 f r)
  caught_read (delete t c) at e fits f s = pull_go text (keyword kw.Delete) at (caught_in text) _ _ e s (λ place m r. delete_read text t c m e fits f r)

  pub with_room_lem : {A : Type 0} (room place : ℕ) (r : Result A Fault) → 1 ≤ room → with_room room place r ≡ r
  with_room_lem zero place r h = absurd (omega arith)
  with_room_lem (suc n) place r h = refl

  -- A simple statement with its semicolon.
  rest_read : (f : firsts.First) (place m room e z : ℕ) → 1 ≤ room → simple_body text f m ≡ Ok e → Run text e (sign Semicolon ∷ []) z → with_room {A = Option (ℕ × ℕ)} room place (and_then (simple_rest text f m) (λ e. Ok (Some (e, room - 1)))) ≡ Ok (Some (z, room - 1))
  rest_read f place m room e z has h s =
      with_room_lem {A = Option (ℕ × ℕ)} room place (and_then (simple_rest text f m) (λ e. Ok (Some (e, room - 1)))) has
      ∙ then_by {B = Option (ℕ × ℕ)} (simple_rest text f m) (λ e. Ok (Some (e, room - 1))) z _ (then_by (simple_body text f m) (sign_at text Semicolon) e _ h (sign_end text Semicolon e z s)) refl

  module _ (hold : Holding) (room : ℕ) (has : 1 ≤ room) where
    target_read : (v : List ℕ) (ws : List Token) (at e z : ℕ) → Run text at (name v ∷ sign Equal ∷ ws) e → Run text e (sign Semicolon ∷ []) z → ((m : ℕ) → Run text m ws e → value_rest text m ≡ Ok e) → statement_by text hold (at, room) ≡ Ok (Some (z, room - 1))
    target_read v ws at e z s semi value =
        pull_go text (name v) at (λ p. statement_in text hold room p (first_of p.word)) _ _ e s (λ place m r.
        rest_read begin.Target place m room e z has (sign_go text Equal m (value_rest text) _ _ e r (λ k q. value k q)) semi)

    simple_read : (x : Simple) (at e z : ℕ) → SimpleFits x → Run text at (simple_words x) e → Run text e (sign Semicolon ∷ []) z → statement_by text hold (at, room) ≡ Ok (Some (z, room - 1))
    simple_read (assign v t) at e z fits s semi = target_read v (words_of t) at e z s semi (λ m r. assign_read t m e fits (follows text semi refl refl) r)
    simple_read (clear v) at e z fits s semi = target_read v (keyword kw.Nil ∷ []) at e z s semi (λ m r. pull_go text (keyword kw.Nil) m (value_in text m) _ [] e r (λ place k q. ap Ok (over q)))
    simple_read (tail v w) at e z fits s semi =
        target_read v (name w ∷ sign Dot ∷ keyword kw.Tail ∷ []) at e z s semi (λ m r. pull_go text (name w) m (value_in text m) _ (sign Dot ∷ keyword kw.Tail ∷ []) e r (λ place k q.
        ap (λ o. tail_or (found o) (term_end text want.Value m)) (sign_go text Dot k (keyword_at text kw.Tail) (Ok e) _ e q (λ j p. keyword_end text kw.Tail j e p))))
    simple_read (select v a ns t c) at e z fits s semi =
        target_read v (keyword kw.Select ∷ name a ∷ names_words ns ++ (keyword kw.From ∷ name t ∷ keyword kw.Where ∷ words_of c)) at e z s semi (λ m r.
        pull_go text (keyword kw.Select) m (value_in text m) _ _ e r (λ place k q. select_read text a ns t c k e fits (follows text semi refl refl) q))
    simple_read (caught v a) at e z fits s semi =
        target_read v (keyword kw.Catch ∷ sign Open ∷ act_words a ++ (sign Close ∷ [])) at e z s semi (λ m r.
        pull_go text (keyword kw.Catch) m (value_in text m) _ (sign Open ∷ act_words a ++ (sign Close ∷ [])) e r (λ place k q.
        sign_go text Open k _ _ (act_words a ++ (sign Close ∷ [])) e q (λ j p.
        let i = split (act_words a) (sign Close ∷ []) p in
        then_by _ (sign_at text Close) i.0 _ (caught_read a j i.0 fits (follows text i.2 refl refl) i.1) (sign_end text Close i.0 e i.2))))
    simple_read (read v) at e z fits s semi = pull_go text (keyword kw.Read) at (λ p. statement_in text hold room p (first_of p.word)) _ _ e s (λ place m r. rest_read begin.Argument place m room e z has (argument_read text v m e r) semi)
    simple_read (load v) at e z fits s semi = pull_go text (keyword kw.Load) at (λ p. statement_in text hold room p (first_of p.word)) _ _ e s (λ place m r. rest_read begin.Argument place m room e z has (argument_read text v m e r) semi)
    simple_read (act (next v)) at e z fits s semi = pull_go text (keyword kw.Next) at (λ p. statement_in text hold room p (first_of p.word)) _ _ e s (λ place m r. rest_read begin.Argument place m room e z has (argument_read text v m e r) semi)
    simple_read (act (insert t x xs)) at e z fits s semi = pull_go text (keyword kw.Insert) at (λ p. statement_in text hold room p (first_of p.word)) _ _ e s (λ place m r. rest_read (begin.Write Insert) place m room e z has (insert_read text t x xs m e fits.0 fits.1 r) semi)
    simple_read (act (update t a x c)) at e z fits s semi = pull_go text (keyword kw.Update) at (λ p. statement_in text hold room p (first_of p.word)) _ _ e s (λ place m r. rest_read (begin.Write Update) place m room e z has (update_read text t a x c m e fits.0 fits.1 (follows text semi refl refl) r) semi)
    simple_read (act (delete t c)) at e z fits s semi = pull_go text (keyword kw.Delete) at (λ p. statement_in text hold room p (first_of p.word)) _ _ e s (λ place m r. rest_read (begin.Write Delete) place m room e z has (delete_read text t c m e fits (follows text semi refl refl) r) semi)
    simple_read commit at e z fits s semi = pull_go text (keyword kw.Commit) at (λ p. statement_in text hold room p (first_of p.word)) _ _ e s (λ place m r. rest_read begin.Call place m room e z has (sign_go text Open m (sign_at text Close) _ _ e r (λ k q. sign_end text Close k e q)) semi)
    simple_read rollback at e z fits s semi = pull_go text (keyword kw.Rollback) at (λ p. statement_in text hold room p (first_of p.word)) _ _ e s (λ place m r. rest_read begin.Call place m room e z has (sign_go text Open m (sign_at text Close) _ _ e r (λ k q. sign_end text Close k e q)) semi)

  -- A token that begins no statement.
  pub record Stop (e : ℕ) : Type 0 where
    pub token : Token
    pub others : List Token
    pub end : ℕ
    pub run : Run text e (token ∷ others) end
    pub begins_none : first_of (word_in token) ≡ begin.Nothing

  pub stop : {e z : ℕ} {w : Token} {ws : List Token} → Run text e (w ∷ ws) z → first_of (word_in w) ≡ begin.Nothing → Stop e
  stop {e} {z} {w} {ws} s h = record { token = w; others = ws; end = z; run = s; begins_none = h }

  stop_read : (hold : Holding) (room e : ℕ) → Stop e → statement_by text hold (e, room) ≡ Ok None
  stop_read hold room e st = pull_go text st.token e (λ p. statement_in text hold room p (first_of p.word)) _ _ _ st.run (λ place m r. ap (statement_in text hold room (record { word = word_in st.token; place = place; end = m })) st.begins_none)

  more_read : (hold : Holding) (n : ℕ) (s t : ℕ × ℕ) (r : Result (ℕ × ℕ) Fault) → 0 < n → statement_by text hold s ≡ Ok (Some t) → repeated (statement_by text hold) (n - 1) t ≡ r → repeated (statement_by text hold) n s ≡ r
  more_read hold n s t r h e more = repeated_some (statement_by text hold) n s t h e ∙ more

  last_read : (k : Keyword) (at e : ℕ) → Run text at (keyword k ∷ sign Semicolon ∷ []) e → last_word text k at ≡ Ok e
  last_read k at e s = keyword_go text k at (sign_at text Semicolon) _ _ e s (λ m r. sign_end text Semicolon m e r)

  branch_read : (block : Blocks) (c : Tree) (x y : List Token) (at e room left left' : ℕ) → Fits want.Truth c → Run text at (words_of c ++ (keyword kw.Then ∷ x ++ (keyword kw.Else ∷ y ++ (keyword kw.EndIf ∷ sign Semicolon ∷ [])))) e → ((at e : ℕ) → Run text at x e → Stop e → block at room ≡ Ok (e, left)) → ((at e : ℕ) → Run text at y e → Stop e → block at left ≡ Ok (e, left')) → branch_at text block at room ≡ Ok (e, left')
  branch_read block c x y at e room left left' fc s bx by =
      term_go text want.Truth c at _ _ (keyword kw.Then) _ e fc refl s (λ a s.
      let p = split (keyword kw.Then ∷ x) (keyword kw.Else ∷ y ++ (keyword kw.EndIf ∷ sign Semicolon ∷ [])) s in
      let q = split (keyword kw.Else ∷ y) (keyword kw.EndIf ∷ sign Semicolon ∷ []) p.2 in
      then_by (part_at text block kw.Then (a, room)) _ (p.0, left) _ (keyword_go text kw.Then a (λ k. block k room) _ x p.0 p.1 (λ k r. bx k p.0 r (stop p.2 refl)))
      (then_by (part_at text block kw.Else (p.0, left)) _ (q.0, left') _ (keyword_go text kw.Else p.0 (λ k. block k left) _ y q.0 q.1 (λ k r. by k q.0 r (stop q.2 refl)))
      (then_by (last_word text kw.EndIf q.0) (λ e. Ok (e, left')) e _ (last_read kw.EndIf q.0 e q.2) refl)))

  loop_read : (block : Blocks) (c : Tree) (x : List Token) (at e room left : ℕ) → Fits want.Truth c → Run text at (words_of c ++ (keyword kw.Do ∷ x ++ (keyword kw.EndWhile ∷ sign Semicolon ∷ []))) e → ((at e : ℕ) → Run text at x e → Stop e → block at room ≡ Ok (e, left)) → loop_at text block at room ≡ Ok (e, left)
  loop_read block c x at e room left fc s bx =
      term_go text want.Truth c at _ _ (keyword kw.Do) _ e fc refl s (λ a s.
      let p = split (keyword kw.Do ∷ x) (keyword kw.EndWhile ∷ sign Semicolon ∷ []) s in
      then_by (part_at text block kw.Do (a, room)) _ (p.0, left) _ (keyword_go text kw.Do a (λ k. block k room) _ x p.0 p.1 (λ k r. bx k p.0 r (stop p.2 refl)))
      (then_by (last_word text kw.EndWhile p.0) (λ e. Ok (e, left)) e _ (last_read kw.EndWhile p.0 e p.2) refl))

  holder_read : (d : ℕ) (h : Holder) (k : Keyword) → first_of (word.Keyword k) ≡ begin.Holder h → (ws : List Token) (at e room left : ℕ) → 1 ≤ room → 1 ≤ d → Run text at (keyword k ∷ ws) e → ((m : ℕ) → Run text m ws e → holder_at text (block_at text (d - 1)) h m (room - 1) ≡ Ok (e, left)) → statement_by text (holding text d) (at, room) ≡ Ok (Some (e, left))
  holder_read d h k is ws at e room left has deep s body =
      pull_go text (keyword k) at (λ p. statement_in text (holding text d) room p (first_of p.word)) _ ws e s (λ place m r.
      ap (statement_in text (holding text d) room (record { word = word.Keyword k; place = place; end = m })) is
      ∙ with_room_lem room place _ has
      ∙ ap some (sym (holding_more text d (d - 1) h (record { word = word.Keyword k; place = place; end = m }) m (room - 1) (taken d _ deep)) ∙ body m r))

  ok_left : (e a b : ℕ) → a ≡ b → ◌≡◌ {A = Result (ℕ × ℕ) Fault} (Ok (e, a)) (Ok (e, b))
  ok_left e a b h = ap (λ n. Ok (e, n)) h

  pub block_read : (b : Block) (d n at room e : ℕ) → levels_of b ≤ d → count_of b ≤ room → room < n → BlockFits b → Stop e → Run text at (block_words b) e → repeated (statement_by text (holding text d)) n (at, room) ≡ Ok (e, room - count_of b)
  block_read none d n at room e deep few enough fits st s =
      ap (λ k. repeated (statement_by text (holding text d)) n (k, room)) (over s)
      ∙ repeated_none (statement_by text (holding text d)) n (e, room) (stop_read (holding text d) room e st)
      ∙ ok_left e room (room - 0) (omega arith)
  block_read (simple x b) d n at room e deep few enough fits st s =
      let p = split (simple_words x) (sign Semicolon ∷ block_words b) s in
      let q = split (sign Semicolon ∷ []) (block_words b) p.2 in
      more_read (holding text d) n (at, room) (q.0, room - 1) _ (omega arith) (simple_read (holding text d) room (omega arith) x at p.0 q.0 fits.0 p.1 q.1)
      (block_read b d (n - 1) q.0 (room - 1) e deep (omega arith) (omega arith) fits.1 st q.2 ∙ ok_left e _ _ (omega arith))
  block_read (branch c x y b) d n at room e deep few enough fits st s =
      let front = words_of c ++ (keyword kw.Then ∷ block_words x ++ (keyword kw.Else ∷ block_words y ++ (keyword kw.EndIf ∷ sign Semicolon ∷ []))) in
      let whole : block_words (branch c x y b) ≡ (keyword kw.If ∷ front) ++ block_words b = simp append_assoc in
      let q = split (keyword kw.If ∷ front) (block_words b) (subst (λ ws. Run text at ws e) whole s) in
      let rx = room - 1 in
      let ry = rx - count_of x in
      let rb = ry - count_of y in
      more_read (holding text d) n (at, room) (q.0, rb) _ (omega arith)
      (holder_read d If kw.If refl front at q.0 room rb (omega arith) (omega arith) q.1 (λ m r.
      branch_read (block_at text (d - 1)) c (block_words x) (block_words y) m q.0 rx ry rb fits.0 r
      (λ at e s st. block_read x (d - 1) (suc rx) at rx e (omega arith) (omega arith) (omega arith) fits.1 st s)
      (λ at e s st. block_read y (d - 1) (suc ry) at ry e (omega arith) (omega arith) (omega arith) fits.2 st s)))
      (block_read b d (n - 1) q.0 rb e (omega arith) (omega arith) (omega arith) fits.3 st q.2 ∙ ok_left e _ _ (omega arith))
  block_read (loop c x b) d n at room e deep few enough fits st s =
      let front = words_of c ++ (keyword kw.Do ∷ block_words x ++ (keyword kw.EndWhile ∷ sign Semicolon ∷ [])) in
      let whole : block_words (loop c x b) ≡ (keyword kw.While ∷ front) ++ block_words b = simp append_assoc in
      let q = split (keyword kw.While ∷ front) (block_words b) (subst (λ ws. Run text at ws e) whole s) in
      let rx = room - 1 in
      let rb = rx - count_of x in
      more_read (holding text d) n (at, room) (q.0, rb) _ (omega arith)
      (holder_read d While kw.While refl front at q.0 room rb (omega arith) (omega arith) q.1 (λ m r.
      loop_read (block_at text (d - 1)) c (block_words x) m q.0 rx rb fits.0 r
      (λ at e s st. block_read x (d - 1) (suc rx) at rx e (omega arith) (omega arith) (omega arith) fits.1 st s)))
      (block_read b d (n - 1) q.0 rb e (omega arith) (omega arith) (omega arith) fits.2 st q.2 ∙ ok_left e _ _ (omega arith))
