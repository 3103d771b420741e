-- Tokens one after another: what a reader that goes on took, and that it goes on over what stands there.
use Rattle.std.proofs.Common.{◌≡◌, ℕ, ◌+◌, ◌≤◌, true, false, List, [], ◌∷◌, ◌++◌, length, Ok, Result, sym, refl, ap, ◌∙◌, subst, arith}
use Rattle.faults.specs.declared.Fault.{Fault}
use Rattle.lexer.specs.declared.keywords.Keyword.{Keyword}
use Rattle.lexer.specs.declared.signs.Sign.{Sign}
use Rattle.lexer.specs.declared.signs.Sign.TheVariants.{Comma}
use Rattle.lexer.specs.Tokens.{after}
use Rattle.lexer.proofs.Laws.{next_advances}
use Rattle.terms.specs.declared.pull.Pulled.{Pulled}
use Rattle.terms.specs.declared.shapes.Want.{Want}
use Rattle.terms.specs.Pull.{and_then, pulled, is_sign, sign_at, keyword_at, name_at}
use Rattle.terms.specs.Terms.{term_at}
use Rattle.terms.specs.Trees.{Token, name, keyword, sign, Tree, words_of}
use Rattle.terms.specs.Grammar.{Stands}
use Rattle.terms.proofs.Steps.{then_ok, then_by, word_in, sign_is, came, sign_came, keyword_came, name_came, stands_append, stands_split, first, sign_read, keyword_read, name_read}
use Rattle.terms.proofs.Accepting.{found_term}
use Rattle.terms.proofs.Completing.{stops, stopped, complete}
use Rattle.syntax.specs.Clauses.{term_end}
use Rattle.syntax.specs.Trees.{Fits}

-- From a place on, up to another, a text has these tokens.
pub record Run (text : List ℕ) (at : ℕ) (ws : List Token) (e : ℕ) : Type 0 where
  pub stands : Stands text at ws e

pub run_none : {text : List ℕ} {at : ℕ} → Run text at [] at
run_none = record { stands = refl }

pub glue : {text : List ℕ} {at m e : ℕ} {xs ys : List Token} → Run text at xs m → Run text m ys e → Run text at (xs ++ ys) e
glue {text} {at} {m} {e} {xs} {ys} p q = record { stands = stands_append text at m e xs ys p.stands q.stands }

pub split : {text : List ℕ} {at e : ℕ} (xs ys : List Token) → Run text at (xs ++ ys) e → (m : ℕ) × Run text at xs m × Run text m ys e
split {text} {at} {e} xs ys p = let q = stands_split text at e xs ys p.stands in (q.0, record { stands = q.1 }, record { stands = q.2 })

pub over : {text : List ℕ} {at e : ℕ} → Run text at [] e → at ≡ e
over p = p.stands

pub ends_at : {text : List ℕ} {at m e : ℕ} {ws : List Token} → Run text at ws m → m ≡ e → Run text at ws e
ends_at {text} {at} {m} {e} {ws} p h = subst (λ k. Run text at ws k) h p

-- Each token takes a byte of the text.
pub bytes_used : (text : List ℕ) (at e : ℕ) (ws : List Token) → Stands text at ws e → at ≤ length text → (at + length ws ≤ e) × (e ≤ length text)
bytes_used text at e [] s h = let k : at ≡ e = s in (omega arith, omega arith)
bytes_used text at e (w ∷ ws) s h =
    let a = next_advances text at s.0 s.1 in
    let more = bytes_used text (after s.0) e ws s.3 a.within in
    let o = a.onward in
    let p = a.some in
    (omega arith, more.1)

pub used : {text : List ℕ} {at e : ℕ} (ws : List Token) → Run text at ws e → length ws ≤ length text
used [] s = omega arith
used {text} {at} {e} (w ∷ ws) r =
    let s = r.stands in
    let a = next_advances text at s.0 s.1 in
    let more = bytes_used text (after s.0) e ws s.3 a.within in
    let o = a.onward in
    let p = a.some in
    omega arith

module _ (text : List ℕ) {B : Type 0} where
  -- What a reader that goes on took.
  pub sign_step : (g : Sign) (at : ℕ) (k : ℕ → Result B Fault) (r : B) → and_then (sign_at text g at) k ≡ Ok r → (m : ℕ) × Run text at (sign g ∷ []) m × (k m ≡ Ok r)
  sign_step g at k r h = let i = then_ok (sign_at text g at) k r h in (i.0, record { stands = sign_came text g at i.0 i.1 }, i.2)

  pub keyword_step : (w : Keyword) (at : ℕ) (k : ℕ → Result B Fault) (r : B) → and_then (keyword_at text w at) k ≡ Ok r → (m : ℕ) × Run text at (keyword w ∷ []) m × (k m ≡ Ok r)
  keyword_step w at k r h = let i = then_ok (keyword_at text w at) k r h in (i.0, record { stands = keyword_came text w at i.0 i.1 }, i.2)

  pub name_step : (at : ℕ) (k : ℕ → Result B Fault) (r : B) → and_then (name_at text at) k ≡ Ok r → (m : ℕ) × (x : List ℕ) × Run text at (name x ∷ []) m × (k m ≡ Ok r)
  name_step at k r h = let i = then_ok (name_at text at) k r h in let n = name_came text at i.0 i.1 in (i.0, n.0, record { stands = n.1 }, i.2)

  -- A reader goes on over what stands there.
  pub sign_go : (g : Sign) (at : ℕ) (k : ℕ → Result B Fault) (r : Result B Fault) (ws : List Token) (e : ℕ) → Run text at (sign g ∷ ws) e → ((m : ℕ) → Run text m ws e → k m ≡ r) → and_then (sign_at text g at) k ≡ r
  sign_go g at k r ws e s go = let i = sign_read text g at ws e s.stands in then_by (sign_at text g at) k i.0 r i.1 (go i.0 (record { stands = i.2 }))

  pub keyword_go : (w : Keyword) (at : ℕ) (k : ℕ → Result B Fault) (r : Result B Fault) (ws : List Token) (e : ℕ) → Run text at (keyword w ∷ ws) e → ((m : ℕ) → Run text m ws e → k m ≡ r) → and_then (keyword_at text w at) k ≡ r
  keyword_go w at k r ws e s go = let i = keyword_read text w at ws e s.stands in then_by (keyword_at text w at) k i.0 r i.1 (go i.0 (record { stands = i.2 }))

  pub name_go : (x : List ℕ) (at : ℕ) (k : ℕ → Result B Fault) (r : Result B Fault) (ws : List Token) (e : ℕ) → Run text at (name x ∷ ws) e → ((m : ℕ) → Run text m ws e → k m ≡ r) → and_then (name_at text at) k ≡ r
  name_go x at k r ws e s go = let i = name_read text at x ws e s.stands in then_by (name_at text at) k i.0 r i.1 (go i.0 (record { stands = i.2 }))

  -- A token is pulled, whatever it is.
  pub pull_step : (at : ℕ) (k : Pulled → Result B Fault) (r : B) → and_then (pulled text at) k ≡ Ok r → (p : Pulled) × (w : Token) × (p.word ≡ word_in w) × Run text at (w ∷ []) p.end × (k p ≡ Ok r)
  pull_step at k r h =
      let i = then_ok (pulled text at) k r h in
      let c = came text at i.0 i.1 in
      (i.0, c.token, c.is, record { stands = c.stands }, i.2)

  pub pull_go : (w : Token) (at : ℕ) (k : Pulled → Result B Fault) (r : Result B Fault) (ws : List Token) (e : ℕ) → Run text at (w ∷ ws) e → ((place m : ℕ) → Run text m ws e → k (record { word = word_in w; place = place; end = m }) ≡ r) → and_then (pulled text at) k ≡ r
  pull_go w at k r ws e s go =
      let f = first text at w ws e s.stands in
      then_by (pulled text at) k _ r f.pulls (go f.place f.mid (record { stands = f.rest }))

  -- Terms.
  pub term_go : (w : Want) (t : Tree) (at : ℕ) (k : ℕ → Result B Fault) (r : Result B Fault) (v : Token) (ws : List Token) (e : ℕ) → Fits w t → stops v ≡ false → Run text at (words_of t ++ (v ∷ ws)) e → ((m : ℕ) → Run text m (v ∷ ws) e → k m ≡ r) → and_then (term_end text w at) k ≡ r
  term_go w t at k r v ws e fits free s go =
      let p = split (words_of t) (v ∷ ws) s in
      let read = complete text t 12 w at p.0 fits.0 fits.2 fits.1 p.1.stands (stopped text t v ws p.0 e free p.2.stands) in
      then_by (term_end text w at) k p.0 r (then_by (term_at text 12 w at) (λ r. Ok r.1) _ _ read refl) (go p.0 p.2)

  pub term_step : (w : Want) (at : ℕ) (k : ℕ → Result B Fault) (r : B) → and_then (term_end text w at) k ≡ Ok r → (m : ℕ) × (t : Tree) × Fits w t × Run text at (words_of t) m × (k m ≡ Ok r)
  term_step w at k r h =
      let i = then_ok (term_end text w at) k r h in
      let j = then_ok (term_at text 12 w at) (λ r. Ok r.1) i.0 i.1 in
      let f = found_term text 12 w at j.0 j.1 in
      let end : j.0.1 ≡ i.0 = let z = j.2 in cc in
      (i.0, f.0, (f.2.sound, f.2.shallow, f.2.served), ends_at (record { stands = f.2.stands }) end, i.2)

-- The last token of a reader.
module _ (text : List ℕ) where
  pub sign_last : (g : Sign) (at e : ℕ) → sign_at text g at ≡ Ok e → Run text at (sign g ∷ []) e
  sign_last g at e h = record { stands = sign_came text g at e h }

  pub keyword_last : (w : Keyword) (at e : ℕ) → keyword_at text w at ≡ Ok e → Run text at (keyword w ∷ []) e
  keyword_last w at e h = record { stands = keyword_came text w at e h }

  pub name_last : (at e : ℕ) → name_at text at ≡ Ok e → (x : List ℕ) × Run text at (name x ∷ []) e
  name_last at e h = let n = name_came text at e h in (n.0, record { stands = n.1 })

  pub sign_end : (g : Sign) (at e : ℕ) → Run text at (sign g ∷ []) e → sign_at text g at ≡ Ok e
  sign_end g at e s = let i = sign_read text g at [] e s.stands in i.1 ∙ ap Ok i.2

  pub keyword_end : (w : Keyword) (at e : ℕ) → Run text at (keyword w ∷ []) e → keyword_at text w at ≡ Ok e
  keyword_end w at e s = let i = keyword_read text w at [] e s.stands in i.1 ∙ ap Ok i.2

  pub name_end : (x : List ℕ) (at e : ℕ) → Run text at (name x ∷ []) e → name_at text at ≡ Ok e
  name_end x at e s = let i = name_read text at x [] e s.stands in i.1 ∙ ap Ok i.2

  pub term_last : (w : Want) (at e : ℕ) → term_end text w at ≡ Ok e → (t : Tree) × Fits w t × Run text at (words_of t) e
  term_last w at e h =
      let j = then_ok (term_at text 12 w at) (λ r. Ok r.1) e h in
      let f = found_term text 12 w at j.0 j.1 in
      let end : j.0.1 ≡ e = let z = j.2 in cc in
      (f.0, (f.2.sound, f.2.shallow, f.2.served), ends_at (record { stands = f.2.stands }) end)

  -- What follows: a token that goes on with neither a name nor a list.
  pub record Follows (m : ℕ) : Type 0 where
    pub token : Token
    pub others : List Token
    pub end : ℕ
    pub stands : Stands text m (token ∷ others) end
    pub stop : stops token ≡ false
    pub no_comma : is_sign Comma (word_in token) ≡ false

  pub follows : {m e : ℕ} {v : Token} {ws : List Token} → Run text m (v ∷ ws) e → stops v ≡ false → is_sign Comma (word_in v) ≡ false → Follows m
  follows {m} {e} {v} {ws} s a b = record { token = v; others = ws; end = e; stands = s.stands; stop = a; no_comma = b }

  pub term_end_lem : (w : Want) (t : Tree) (at e : ℕ) → Fits w t → Follows e → Run text at (words_of t) e → term_end text w at ≡ Ok e
  term_end_lem w t at e fits f s =
      then_by (term_at text 12 w at) (λ r. Ok r.1) _ _ (complete text t 12 w at e fits.0 fits.2 fits.1 s.stands (stopped text t f.token f.others e f.end f.stop f.stands)) refl

  -- A token that was pulled is this one.
  pub pulled_sign : (g : Sign) (at : ℕ) (p : Pulled) → pulled text at ≡ Ok p → is_sign g p.word ≡ true → Run text at (sign g ∷ []) p.end
  pulled_sign g at p h b = let c = came text at p h in record { stands = subst (λ w. Stands text at (w ∷ []) p.end) (sign_is g c.token (sym (ap (is_sign g) c.is) ∙ b)) c.stands }
