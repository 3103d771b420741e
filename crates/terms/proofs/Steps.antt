-- The steps of the readers: what a token that came was, and that a token that stands there comes.
use Rattle.std.proofs.Common.{◌≡◌, ℕ, zero, suc, ◌-◌, ◌≤◌, Bool, true, false, cond, eqb, List, [], ◌∷◌, ◌++◌, length, Some, None, Ok, Err, Option, Result, sym, refl, ap, ◌∙◌, subst, arith}
use Rattle.std.proofs.lemmas.Bool.{eqb-true, eq-eqb}
use Rattle.faults.specs.declared.Fault.{Fault}
use Rattle.faults.specs.declared.Fault.TheVariants.{NotAllowed}
use Rattle.lexer.specs.declared.keywords.Keyword.{Keyword}
use Rattle.lexer.specs.declared.keywords.Keyword.TheVariants as kw
use Rattle.lexer.specs.declared.signs.Sign.{Sign}
use Rattle.lexer.specs.declared.signs.Sign.TheVariants as sg
use Rattle.lexer.specs.Tokens.{Kind, Lexeme, after}
use Rattle.lexer.specs.Tokens as kind
use Rattle.lexer.specs.Lexing.{next_token, with_end}
use Rattle.terms.specs.declared.pull.Word.{Word}
use Rattle.terms.specs.declared.pull.Word.TheVariants as word
use Rattle.terms.specs.declared.pull.Pulled.{Pulled}
use Rattle.terms.specs.Pull.{word_of, or_refused, and_then, pulled, taken_from, sign_number, keyword_number, is_sign, is_keyword, is_name, must, sign_at, keyword_at, name_at}
use Rattle.terms.specs.Trees.{Token, name, number, keyword, sign}
use Rattle.terms.specs.Grammar.{token_by, token_of, Stands}

-- An answer is not a refusal, true is not false, and something is not nothing.
pub never : {A : Type 0} {x : A} {f : Fault} → ◌≡◌ {A = Result A Fault} (Err f) (Ok x) → ⊥
never h = let z : ◌≡◌ {A = ℕ} 0 1 = cc in omega arith

pub untrue : false ≡ true → ⊥
untrue h = let z : ◌≡◌ {A = ℕ} 0 1 = cc in omega arith

pub nothing : {A : Type 0} {x : A} → ◌≡◌ {A = Option A} None (Some x) → ⊥
nothing h = let z : ◌≡◌ {A = ℕ} 0 1 = cc in omega arith

-- What an answer came from.
pub then_ok : {A B : Type 0} (p : Result A Fault) (k : A → Result B Fault) (r : B) → and_then p k ≡ Ok r → (x : A) × (p ≡ Ok x) × (k x ≡ Ok r)
then_ok (Ok x) k r h = (x, refl, h)
then_ok (Err f) k r h = absurd (never h)

pub cond_ok : {A : Type 0} (b : Bool) (x : Result A Fault) (f : Fault) (r : A) → cond b x (Err f) ≡ Ok r → (b ≡ true) × (x ≡ Ok r)
cond_ok true x f r h = (refl, h)
cond_ok false x f r h = absurd (never h)

-- One step and then the rest.
pub then_by : {A B : Type 0} (p : Result A Fault) (k : A → Result B Fault) (x : A) (r : Result B Fault) → p ≡ Ok x → k x ≡ r → and_then p k ≡ r
then_by p k x r h e = ap (λ q. and_then q k) h ∙ e

-- Signs and keywords are told apart by their numbers.
numbered_sign : ℕ → Sign
numbered_sign n = cond (eqb n 0) sg.Not (cond (eqb n 1) sg.Open (cond (eqb n 2) sg.Close (cond (eqb n 3) sg.Times (cond (eqb n 4) sg.Plus (cond (eqb n 5) sg.Comma (cond (eqb n 6) sg.Minus (cond (eqb n 7) sg.Dot (cond (eqb n 8) sg.Over (cond (eqb n 9) sg.Semicolon (cond (eqb n 10) sg.Less (cond (eqb n 11) sg.Equal (cond (eqb n 12) sg.More (cond (eqb n 13) sg.And (sg.Or))))))))))))))

sign_back : (s : Sign) → numbered_sign (sign_number s) ≡ s
unfolding numbered_sign
sign_back sg.Not = refl
sign_back sg.Open = refl
sign_back sg.Close = refl
sign_back sg.Times = refl
sign_back sg.Plus = refl
sign_back sg.Comma = refl
sign_back sg.Minus = refl
sign_back sg.Dot = refl
sign_back sg.Over = refl
sign_back sg.Semicolon = refl
sign_back sg.Less = refl
sign_back sg.Equal = refl
sign_back sg.More = refl
sign_back sg.And = refl
sign_back sg.Or = refl

numbered_keyword : ℕ → Keyword
numbered_keyword n = cond (eqb n 0) kw.Model (cond (eqb n 1) kw.EndModel (cond (eqb n 2) kw.Table (cond (eqb n 3) kw.Primary (cond (eqb n 4) kw.Key (cond (eqb n 5) kw.Foreign (cond (eqb n 6) kw.References (cond (eqb n 7) kw.Nil (cond (eqb n 8) kw.Tail (cond (eqb n 9) kw.Head (cond (eqb n 10) kw.Read (cond (eqb n 11) kw.Load (cond (eqb n 12) kw.Select (cond (eqb n 13) kw.From (cond (eqb n 14) kw.Where (cond (eqb n 15) kw.Next (cond (eqb n 16) kw.Insert (cond (eqb n 17) kw.Into (cond (eqb n 18) kw.Values (cond (eqb n 19) kw.Update (cond (eqb n 20) kw.Set (cond (eqb n 21) kw.Delete (cond (eqb n 22) kw.Commit (cond (eqb n 23) kw.Rollback (cond (eqb n 24) kw.If (cond (eqb n 25) kw.Then (cond (eqb n 26) kw.Else (cond (eqb n 27) kw.EndIf (cond (eqb n 28) kw.While (cond (eqb n 29) kw.Do (cond (eqb n 30) kw.EndWhile (cond (eqb n 31) kw.Catch (cond (eqb n 32) kw.True (kw.False)))))))))))))))))))))))))))))))))

keyword_back : (k : Keyword) → numbered_keyword (keyword_number k) ≡ k
unfolding numbered_keyword
keyword_back kw.Model = refl
keyword_back kw.EndModel = refl
keyword_back kw.Table = refl
keyword_back kw.Primary = refl
keyword_back kw.Key = refl
keyword_back kw.Foreign = refl
keyword_back kw.References = refl
keyword_back kw.Nil = refl
keyword_back kw.Tail = refl
keyword_back kw.Head = refl
keyword_back kw.Read = refl
keyword_back kw.Load = refl
keyword_back kw.Select = refl
keyword_back kw.From = refl
keyword_back kw.Where = refl
keyword_back kw.Next = refl
keyword_back kw.Insert = refl
keyword_back kw.Into = refl
keyword_back kw.Values = refl
keyword_back kw.Update = refl
keyword_back kw.Set = refl
keyword_back kw.Delete = refl
keyword_back kw.Commit = refl
keyword_back kw.Rollback = refl
keyword_back kw.If = refl
keyword_back kw.Then = refl
keyword_back kw.Else = refl
keyword_back kw.EndIf = refl
keyword_back kw.While = refl
keyword_back kw.Do = refl
keyword_back kw.EndWhile = refl
keyword_back kw.Catch = refl
keyword_back kw.True = refl
keyword_back kw.False = refl

pub sign_same : (a b : Sign) → eqb (sign_number a) (sign_number b) ≡ true → a ≡ b
sign_same a b h = sym (sign_back a) ∙ ap numbered_sign (eqb-true (sign_number a) (sign_number b) h) ∙ sign_back b

pub keyword_same : (a b : Keyword) → eqb (keyword_number a) (keyword_number b) ≡ true → a ≡ b
keyword_same a b h = sym (keyword_back a) ∙ ap numbered_keyword (eqb-true (keyword_number a) (keyword_number b) h) ∙ keyword_back b

-- What a token apart from its place is, apart from its bytes.
abbrev pub word_in : Token → Word
word_in (name s) = word.Name
word_in (number n) = word.Number n
word_in (keyword k) = word.Keyword k
word_in (sign g) = word.Sign g

word_token_lem : (k : Kind) (s : List ℕ) → word_of k ≡ word_in (token_by k s)
word_token_lem kind.name s = refl
word_token_lem (kind.number n) s = refl
word_token_lem (kind.keyword k) s = refl
word_token_lem (kind.sign g) s = refl

pub word_in_lem : (t : Lexeme) (w : Token) → token_of t ≡ w → word_of t.kind ≡ word_in w
word_in_lem t w h = word_token_lem t.kind t.bytes ∙ ap word_in h

-- A token that is this sign, this keyword or a name.
pub sign_is : (g : Sign) (w : Token) → is_sign g (word_in w) ≡ true → w ≡ sign g
sign_is g (name s) h = absurd (untrue h)
sign_is g (number n) h = absurd (untrue h)
sign_is g (keyword k) h = absurd (untrue h)
sign_is g (sign m) h = ap sign (sign_same m g h)

pub keyword_is : (k : Keyword) (w : Token) → is_keyword k (word_in w) ≡ true → w ≡ keyword k
keyword_is k (name s) h = absurd (untrue h)
keyword_is k (number n) h = absurd (untrue h)
keyword_is k (keyword m) h = ap keyword (keyword_same m k h)
keyword_is k (sign m) h = absurd (untrue h)

pub name_is : (w : Token) → is_name (word_in w) ≡ true → (x : List ℕ) × (w ≡ name x)
name_is (name s) h = (s, refl)
name_is (number n) h = absurd (untrue h)
name_is (keyword m) h = absurd (untrue h)
name_is (sign m) h = absurd (untrue h)

-- A token was pulled.
pub record Came (text : List ℕ) (at : ℕ) (p : Pulled) : Type 0 where
  pub token : Token
  pub is : p.word ≡ word_in token
  pub stands : Stands text at (token ∷ []) p.end

pub came : (text : List ℕ) (at : ℕ) (p : Pulled) → pulled text at ≡ Ok p → Came text at p
unfolding pulled
came text at p h = go (next_token text at) refl h
  where
    go : (r : Result (Option Lexeme) Fault) → next_token text at ≡ r → and_then (with_end r) (or_refused (length text)) ≡ Ok p → Came text at p
    go (Ok None) is h = absurd (never h)
    go (Err f) is h = absurd (never h)
    go (Ok (Some t)) is h =
        let same : ◌≡◌ {A = Pulled} (record { word = word_of t.kind; place = t.place; end = after t }) p = cc in
        record {
          token = token_of t;
          is = sym (ap (λ q. q.word) same) ∙ word_in_lem t (token_of t) refl;
          stands = (t, is, refl, ap (λ q. q.end) same);
        }

-- A token of one sort came.
pub must_came : (text : List ℕ) (at : ℕ) (fits : Word → Bool) (e : ℕ) → and_then (pulled text at) (must fits) ≡ Ok e → (w : Token) × (fits (word_in w) ≡ true) × Stands text at (w ∷ []) e
must_came text at fits e h =
    let i = then_ok (pulled text at) (must fits) e h in
    let c = came text at i.0 i.1 in
    let j = cond_ok (fits i.0.word) (Ok i.0.end) (NotAllowed i.0.place) e i.2 in
    let end : i.0.end ≡ e = let k = j.1 in cc in
    (c.token, sym (ap fits c.is) ∙ j.0, subst (λ m. Stands text at (c.token ∷ []) m) end c.stands)

pub sign_came : (text : List ℕ) (g : Sign) (at e : ℕ) → sign_at text g at ≡ Ok e → Stands text at (sign g ∷ []) e
sign_came text g at e h =
    let c = must_came text at (is_sign g) e h in
    subst (λ w. Stands text at (w ∷ []) e) (sign_is g c.0 c.1) c.2

pub keyword_came : (text : List ℕ) (k : Keyword) (at e : ℕ) → keyword_at text k at ≡ Ok e → Stands text at (keyword k ∷ []) e
keyword_came text k at e h =
    let c = must_came text at (is_keyword k) e h in
    subst (λ w. Stands text at (w ∷ []) e) (keyword_is k c.0 c.1) c.2

pub name_came : (text : List ℕ) (at e : ℕ) → name_at text at ≡ Ok e → (x : List ℕ) × Stands text at (name x ∷ []) e
name_came text at e h =
    let c = must_came text at is_name e h in
    let n = name_is c.0 c.1 in
    (n.0, subst (λ w. Stands text at (w ∷ []) e) n.1 c.2)

-- Tokens behind tokens.
pub stands_append : (text : List ℕ) (at m e : ℕ) (xs ys : List Token) → Stands text at xs m → Stands text m ys e → Stands text at (xs ++ ys) e
stands_append text at m e [] ys p q = subst (λ k. Stands text k ys e) (sym p) q
stands_append text at m e (x ∷ xs) ys p q = (p.0, p.1, p.2, stands_append text (after p.0) m e xs ys p.3 q)

pub stands_split : (text : List ℕ) (at e : ℕ) (xs ys : List Token) → Stands text at (xs ++ ys) e → (m : ℕ) × Stands text at xs m × Stands text m ys e
stands_split text at e [] ys p = (at, refl, p)
stands_split text at e (x ∷ xs) ys p = let q = stands_split text (after p.0) e xs ys p.3 in (q.0, (p.0, p.1, p.2, q.1), q.2)

-- The first of some tokens is pulled.
pub record First (text : List ℕ) (at : ℕ) (w : Token) (ws : List Token) (e : ℕ) : Type 0 where
  pub place : ℕ
  pub mid : ℕ
  pub pulls : pulled text at ≡ Ok (record { word = word_in w; place = place; end = mid })
  pub next : (t : Lexeme) × (next_token text at ≡ Ok (Some t)) × (token_of t ≡ w) × (after t ≡ mid)
  pub rest : Stands text mid ws e

pub first : (text : List ℕ) (at : ℕ) (w : Token) (ws : List Token) (e : ℕ) → Stands text at (w ∷ ws) e → First text at w ws e
unfolding pulled
first text at w ws e s =
    let t = s.0 in
    record {
      place = t.place;
      mid = after t;
      pulls = ap (λ r. and_then (with_end r) (or_refused (length text))) s.1 ∙ ap (λ u. Ok (record { word = u; place = t.place; end = after t })) (word_in_lem t w s.2);
      next = (t, s.1, s.2, refl);
      rest = s.3;
    }

-- A token that stands there is read.
abbrev pub Goes : List ℕ → Result ℕ Fault → List Token → ℕ → Type 0
Goes text r ws e = (m : ℕ) × (r ≡ Ok m) × Stands text m ws e

pub must_read : (text : List ℕ) (fits : Word → Bool) (at : ℕ) (w : Token) (ws : List Token) (e : ℕ) → fits (word_in w) ≡ true → Stands text at (w ∷ ws) e → Goes text (and_then (pulled text at) (must fits)) ws e
must_read text fits at w ws e ok s =
    let f = first text at w ws e s in
    (f.mid, ap (λ r. and_then r (must fits)) f.pulls ∙ ap (λ b. cond b (Ok f.mid) (Err (NotAllowed f.place))) ok, f.rest)

pub sign_read : (text : List ℕ) (g : Sign) (at : ℕ) (ws : List Token) (e : ℕ) → Stands text at (sign g ∷ ws) e → Goes text (sign_at text g at) ws e
sign_read text g at ws e s = must_read text (is_sign g) at (sign g) ws e (eq-eqb (sign_number g) (sign_number g) refl) s

pub keyword_read : (text : List ℕ) (k : Keyword) (at : ℕ) (ws : List Token) (e : ℕ) → Stands text at (keyword k ∷ ws) e → Goes text (keyword_at text k at) ws e
keyword_read text k at ws e s = must_read text (is_keyword k) at (keyword k) ws e (eq-eqb (keyword_number k) (keyword_number k) refl) s

pub name_read : (text : List ℕ) (at : ℕ) (x : List ℕ) (ws : List Token) (e : ℕ) → Stands text at (name x ∷ ws) e → Goes text (name_at text at) ws e
name_read text at x ws e s = must_read text is_name at (name x) ws e refl s

-- Where one or more may come, one less may come behind.
pub taken : (d : ℕ) (p : Pulled) → 1 ≤ d → Ok (d - 1) ≡ taken_from d p
taken zero p h = absurd (omega arith)
taken (suc d) p h = let e : suc d - 1 ≡ d = omega arith in ap Ok e
