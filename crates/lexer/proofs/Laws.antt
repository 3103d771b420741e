-- The next token is what the layout says, the layout is the only one, and blanks between tokens do not matter.
use Rattle.std.proofs.Common.{◌≡◌, ℕ, ◌+◌, ◌-◌, ◌<◌, ◌≤◌, Bool, true, false, cond, not, eqb, ◌⊎◌, List, [], ◌∷◌, ◌++◌, length, take, drop, Some, None, Ok, Err, Option, Result, sym, refl, ap, ◌∙◌, subst, inl, inr, append_assoc, append-nil, arith, length-append, length-drop}
use Rattle.std.proofs.lemmas.List.{take_at, drop_at, drop_all, drop-drop}
use Rattle.std.specs.List.{between}
use Rattle.faults.specs.declared.Fault.{Fault}
use Rattle.faults.specs.declared.Fault.TheVariants.{NoToken, Memory}
use Rattle.classes.specs.Bytes.{is_blank, is_letter, is_digit, is_sign, is_twin, class_of}
use Rattle.classes.specs.declared.Class.{Class}
use Rattle.classes.specs.declared.Class.TheVariants.{Other, Blank, Letter, Digit, Sign, Twin}
use Rattle.lexer.specs.Runs.{Blanks, Digits}
use Rattle.lexer.specs.Runs.{goes_on, goes, reach_of}
use Rattle.lexer.specs.Tokens.{sign, Lexeme, lexeme, after}
use Rattle.lexer.specs.Numbers.{number_of}
use Rattle.lexer.specs.Signs.{twin_of}
use Rattle.lexer.specs.Lexing.{number_token, class_token, front_token, found, or_end, next_from, next_token, with_end}
use Rattle.lexer.specs.Layout.{blank, maximal, Begins, Laid, Advances, Cut, Answers}
use Rattle.lexer.proofs.Splits.{split, every, stopped, reach_glued}
use Rattle.lexer.proofs.Found.{Front, front_found, front_before, token_some, never}

-- A blank goes on with blanks, and with nothing else.
blanks_class : (b l d g t : Bool) → goes_on Blanks (cond b Blank (cond l Letter (cond d Digit (cond g Sign (cond t Twin Other))))) ≡ b
blanks_class true l d g t = refl
blanks_class false true d g t = refl
blanks_class false false true g t = refl
blanks_class false false false true t = refl
blanks_class false false false false true = refl
blanks_class false false false false false = refl

pub goes_blanks : (b : ℕ) → goes Blanks b ≡ is_blank b
goes_blanks b = blanks_class (is_blank b) (is_letter b) (is_digit b) (is_sign b) (is_twin b)

pub every_blank : (s : List ℕ) → every Blanks s ≡ blank s
every_blank [] = refl
every_blank (b ∷ s) = rw (goes_blanks b, every_blank s)

-- Behind a found token's first byte no blank can be.
found_some : (r : Result Lexeme Fault) (t : Lexeme) → found r ≡ Ok (Some t) → r ≡ Ok t
found_some (Ok u) t h = cc
found_some (Err f) t h = cc

first_solid : (k : Class) (s : List ℕ) (place : ℕ) (t : Lexeme) → class_token k s place ≡ Ok t → goes_on Blanks k ≡ false
first_solid Letter s place t h = refl
first_solid Digit s place t h = refl
first_solid Sign s place t h = refl
first_solid Twin s place t h = refl
first_solid Other s place t h = refl
first_solid Blank s place t h = absurd (never h)

-- The bytes of a token begin with no blank.
pub token_solid : (w rest : List ℕ) (place : ℕ) (t : Lexeme) → front_token w place ≡ Ok t → stopped Blanks (w ++ rest) ≡ true
unfolding front_token
token_solid [] rest place t h = absurd (never h)
token_solid (b ∷ w) rest place t h = ap not (first_solid (class_of b) (b ∷ w) place t h)

none_some : {X : Type 0} {x : X} {E : Type 0} → ◌≡◌ {A = Result (Option X) E} (Ok None) (Ok (Some x)) → ⊥
none_some h = let z : ◌≡◌ {A = ℕ} 0 1 = cc in omega arith

end_front : (s : List ℕ) (place : ℕ) (t : Lexeme) → or_end s place ≡ Ok (Some t) → Front s place t
end_front [] place t h = absurd (none_some h)
end_front (b ∷ s) place t h = front_found (b ∷ s) place t (found_some (front_token (b ∷ s) place) t h)

front_end : (w rest : List ℕ) (place : ℕ) (t : Lexeme) → t.bytes ≡ w → maximal t.kind rest ≡ true → front_token w place ≡ Ok t → or_end (w ++ rest) place ≡ Ok (Some t)
unfolding front_token
front_end [] rest place t is e h = absurd (never h)
front_end (b ∷ w) rest place t is e h = ap found (front_before (b ∷ w) rest place t is e h)

-- The next token stands past blanks, whole and maximal; and a token that stands so is the next one.
pub next_begins : (s : List ℕ) (at : ℕ) (t : Lexeme) → next_from s at ≡ Ok (Some t) → (rest : List ℕ) × Begins s at t rest
unfolding next_from
next_begins s at t h =
    let p = split Blanks s in
    let past : or_end p.back (at + length p.front) ≡ Ok (Some t) = ap (λ r. or_end r (at + length p.front)) (sym p.left) ∙ ap (λ n. or_end (drop (reach_of Blanks s) s) (at + n)) (sym p.size) ∙ h in
    let f = end_front p.back (at + length p.front) t past in (
      f.rest,
      record {
        gap = p.front;
        whole = p.whole ∙ ap (λ r. p.front ++ r) f.whole;
        blanks = sym (every_blank p.front) ∙ p.all;
        placed = f.placed;
        spelled = ap (front_token t.bytes) f.placed ∙ f.spelled;
        ends = f.ends;
      },
    )

pub begins_next : (s : List ℕ) (at : ℕ) (t : Lexeme) (rest : List ℕ) → Begins s at t rest → next_from s at ≡ Ok (Some t)
unfolding next_from
begins_next s at t rest b =
    let n : reach_of Blanks s ≡ length b.gap = ap (reach_of Blanks) b.whole ∙ reach_glued Blanks b.gap (t.bytes ++ rest) (every_blank b.gap ∙ b.blanks) (token_solid t.bytes rest t.place t b.spelled) in
    let back : drop (reach_of Blanks s) s ≡ t.bytes ++ rest = ap (drop (reach_of Blanks s)) b.whole ∙ drop_at b.gap (t.bytes ++ rest) (reach_of Blanks s) (sym n) in
    ap (λ r. or_end r (at + reach_of Blanks s)) back
    ∙ ap (or_end (t.bytes ++ rest)) (ap (λ m. at + m) n ∙ sym b.placed)
    ∙ front_end t.bytes rest t.place t refl b.ends b.spelled

-- Blanks alone are the end of the text, and the end of the text is blanks alone.
pub blank_ends : (s : List ℕ) (at : ℕ) → blank s ≡ true → next_from s at ≡ Ok None
unfolding next_from
blank_ends s at h =
    let n : reach_of Blanks s ≡ length s = rw append-nil at (reach_glued Blanks s [] (every_blank s ∙ h) refl) in
    ap (λ r. or_end r (at + reach_of Blanks s)) (drop_all (reach_of Blanks s) s (omega arith))

ended_nothing : (s : List ℕ) (place : ℕ) → or_end s place ≡ Ok None → s ≡ []
ended_nothing [] place h = refl
ended_nothing (b ∷ s) place h = absurd (found_none (front_token (b ∷ s) place) h)
  where
    found_none : (r : Result Lexeme Fault) → found r ≡ Ok None → ⊥
    found_none (Ok t) h = none_some (sym h)
    found_none (Err f) h = never h

pub ends_blank : (s : List ℕ) (at : ℕ) → next_from s at ≡ Ok None → blank s ≡ true
unfolding next_from
ends_blank s at h =
    let p = split Blanks s in
    let none = sym p.left ∙ ended_nothing (drop (reach_of Blanks s) s) (at + reach_of Blanks s) h in
    let whole = p.whole ∙ ap (λ r. p.front ++ r) none ∙ append-nil p.front in
    sym (every_blank s) ∙ ap (every Blanks) whole ∙ p.all

-- Behind a token lies what the text has from its end on.
rest_is : (text : List ℕ) (from : ℕ) (t : Lexeme) (rest : List ℕ) → Begins (drop from text) from t rest → rest ≡ drop (after t) text
rest_is text from t rest b =
    let n : length (b.gap ++ t.bytes) ≡ length b.gap + length t.bytes = length-append b.gap t.bytes in
    let m : from + length (b.gap ++ t.bytes) ≡ after t = let p = b.placed in omega arith in
    sym (drop_at (b.gap ++ t.bytes) rest (length (b.gap ++ t.bytes)) refl)
    ∙ ap (drop (length (b.gap ++ t.bytes))) (append_assoc b.gap t.bytes rest ∙ sym b.whole)
    ∙ drop-drop (length (b.gap ++ t.bytes)) from text
    ∙ ap (λ k. drop k text) m

-- A text that is cut up to its end is laid out so, and a text that is laid out so is cut so.
pub cut_laid : (text : List ℕ) (from : ℕ) (ts : List Lexeme) (to : ℕ) → Cut text from ts to → next_token text to ≡ Ok None → Laid (drop from text) from ts
cut_laid text from [] to c e = ends_blank (drop from text) from (ap (next_token text) c ∙ e)
cut_laid text from (t ∷ ts) to c e =
    let b = next_begins (drop from text) from t c.0 in
    (b.0, b.1, subst (λ r. Laid r (after t) ts) (sym (rest_is text from t b.0 b.1)) (cut_laid text (after t) ts to c.1 e))

pub laid_cut : (text : List ℕ) (from : ℕ) (ts : List Lexeme) → Laid (drop from text) from ts → (to : ℕ) × Cut text from ts to × (next_token text to ≡ Ok None)
laid_cut text from [] l = (from, refl, blank_ends (drop from text) from l)
laid_cut text from (t ∷ ts) l =
    let more = laid_cut text (after t) ts (subst (λ r. Laid r (after t) ts) (rest_is text from t l.0 l.1) l.2) in
    (more.0, (begins_next (drop from text) from t l.0 l.1, more.1), more.2)

-- One token more is cut off.
pub cut_more : (text : List ℕ) (from : ℕ) (ts : List Lexeme) (to : ℕ) (t : Lexeme) → Cut text from ts to → next_token text to ≡ Ok (Some t) → Cut text from (ts ++ (t ∷ [])) (after t)
cut_more text from [] to t c e = (ap (next_token text) c ∙ e, refl)
cut_more text from (u ∷ ts) to t c e = (c.0, cut_more text (after u) ts to t c.1 e)

-- Two cuts that can go no further are the same.
abbrev pub Last : Result (Option Lexeme) Fault → Type 0
Last r = (t : Lexeme) → r ≡ Ok (Some t) → ⊥

pub cut_same : (text : List ℕ) (from : ℕ) (ts us : List Lexeme) (to up : ℕ) → Cut text from ts to → Cut text from us up → Last (next_token text to) → Last (next_token text up) → (ts ≡ us) × (to ≡ up)
cut_same text from [] [] to up c d l m = (refl, sym c ∙ d)
cut_same text from [] (u ∷ us) to up c d l m = absurd (l u (ap (next_token text) (sym c) ∙ d.0))
cut_same text from (t ∷ ts) [] to up c d l m = absurd (m t (ap (next_token text) (sym d) ∙ c.0))
cut_same text from (t ∷ ts) (u ∷ us) to up c d l m =
    let same : t ≡ u = let q = sym c.0 ∙ d.0 in cc in
    let more = cut_same text (after t) ts us to up c.1 (subst (λ x. Cut text (after x) us up) (sym same) d.1) l m in
    (let e = more.0 in cc, more.1)

last_none : (r : Result (Option Lexeme) Fault) → r ≡ Ok None → Last r
last_none r e t h = none_some (sym e ∙ h)

last_err : (r : Result (Option Lexeme) Fault) (f : Fault) → r ≡ Err f → Last r
last_err r f e t h = never (sym e ∙ h)

-- A text of the allowed length that is laid out as tokens has these tokens, and no others.
pub only : (text : List ℕ) (r : Result (List Lexeme) Fault) (us : List Lexeme) → Answers text r → length text ≤ 16384 → Laid text 0 us → (r ≡ Ok us) ⊎ (r ≡ Err Memory)
only text (Ok ts) us a n l =
    let d = laid_cut text 0 us l in
    let c = laid_cut text 0 ts a.1 in
    inl (ap Ok (cut_same text 0 ts us c.0 d.0 c.1 d.1 (last_none _ c.2) (last_none _ d.2)).0)
only text (Err f) us a n l =
    elim a [
      | inl long ↦ absurd (omega (arith, long.1))
      | inr (inl broken) ↦
          let c = broken.3 in
          let d = laid_cut text 0 us l in
          let same = cut_same text 0 c.0 us c.1 d.0 c.2 d.1 (last_err _ _ c.3) (last_none _ d.2) in
          absurd (never (sym c.3 ∙ ap (next_token text) same.1 ∙ d.2))
      | inr (inr memory) ↦ inr (ap Err memory.1)
    ]

-- The next token stands past blanks alone, is one byte or more of the text, and ends inside it.
pub next_advances : (text : List ℕ) (at : ℕ) (t : Lexeme) → next_token text at ≡ Ok (Some t) → Advances text at t
next_advances text at t h =
    let p = next_begins (drop at text) at t h in
    let b = p.1 in
    let placed : t.place ≡ at + length b.gap = b.placed in
    let some : 0 < length t.bytes = token_some t.bytes t.place t b.spelled in
    let sizes : length text - at ≡ length b.gap + (length t.bytes + length p.0) = sym (length-drop at text) ∙ simp length-append at (ap length b.whole) in
    let before : between at t.place text ≡ b.gap = ap (take (t.place - at)) b.whole ∙ take_at b.gap (t.bytes ++ p.0) (t.place - at) (omega arith) in
    let from : drop t.place text ≡ t.bytes ++ p.0 = ap (λ n. drop n text) placed ∙ sym (drop-drop (length b.gap) at text) ∙ ap (drop (length b.gap)) b.whole ∙ drop_at b.gap (t.bytes ++ p.0) (length b.gap) refl in
    record {
      blanks = ap blank before ∙ b.blanks;
      bytes = sym (ap (take (after t - t.place)) from ∙ take_at t.bytes p.0 (after t - t.place) (omega arith));
      onward = omega arith;
      some = omega arith;
      within = omega arith;
    }

-- What an answer with the place after the token says of the answer without.
pub end_none : (r : Result (Option Lexeme) Fault) → with_end r ≡ Ok None → r ≡ Ok None
end_none (Ok None) h = refl
end_none (Ok (Some t)) h = cc
end_none (Err f) h = cc

pub end_some : (r : Result (Option Lexeme) Fault) (t : Lexeme) (e : ℕ) → with_end r ≡ Ok (Some (t, e)) → (r ≡ Ok (Some t)) × (e ≡ after t)
end_some (Ok None) t e h = absurd (none_some h)
end_some (Ok (Some u)) t e h =
    let same : ◌≡◌ {A = Lexeme × ℕ} (u, after u) (t, e) = cc in
    (ap (λ p. Ok (Some p.0)) same, sym (ap (λ p. p.1) same) ∙ ap (λ p. after p.0) same)
end_some (Err f) t e h = absurd (never h)

pub end_err : (r : Result (Option Lexeme) Fault) (f : Fault) → with_end r ≡ Err f → r ≡ Err f
end_err (Ok o) f h = absurd (never (sym h))
end_err (Err g) f h = cc

-- A token is refused at its place, and for no other reason.
class_refused : (k : Class) (s : List ℕ) (place : ℕ) (f : Fault) → class_token k s place ≡ Err f → f ≡ NoToken place
class_refused Letter s place f h = absurd (never (sym h))
class_refused Digit s place f h = number_refused (number_of (take (reach_of Digits s) s)) h
  where
    number_refused : (o : Option ℕ) → number_token o (take (reach_of Digits s) s) place ≡ Err f → f ≡ NoToken place
    number_refused None h = cc
    number_refused (Some n) h = absurd (never (sym h))
class_refused Sign s place f h = absurd (never (sym h))
class_refused Twin [] place f h = cc
class_refused Twin (b ∷ []) place f h = cc
class_refused Twin (b ∷ c ∷ s) place f h = twin_refused (eqb b c) h
  where
    twin_refused : (v : Bool) → cond v (Ok (lexeme (sign (twin_of b)) (b ∷ c ∷ []) place)) (Err (NoToken place)) ≡ Err f → f ≡ NoToken place
    twin_refused true h = absurd (never (sym h))
    twin_refused false h = cc
class_refused Blank s place f h = cc
class_refused Other s place f h = cc

found_err : (r : Result Lexeme Fault) (f : Fault) → found r ≡ Err f → r ≡ Err f
found_err (Ok t) f h = absurd (never (sym h))
found_err (Err g) f h = cc

end_refused : (s : List ℕ) (place : ℕ) (f : Fault) → or_end s place ≡ Err f → f ≡ NoToken place
unfolding front_token
end_refused [] place f h = absurd (never (sym h))
end_refused (b ∷ s) place f h = class_refused (class_of b) (b ∷ s) place f (found_err (front_token (b ∷ s) place) f h)

pub next_refused : (text : List ℕ) (at : ℕ) (f : Fault) → next_token text at ≡ Err f → (place : ℕ) × (f ≡ NoToken place)
unfolding next_from
next_refused text at f h = (at + reach_of Blanks (drop at text), end_refused _ _ f h)

-- The answer once the text has ended, and where no token stands.
pub answered : (text : List ℕ) (ts : List Lexeme) (to : ℕ) → length text ≤ 16384 → Cut text 0 ts to → with_end (next_token text to) ≡ Ok None → Answers text (Ok ts)
answered text ts to n c e = (n, cut_laid text 0 ts to c (end_none (next_token text to) e))

pub refused : (text : List ℕ) (ts : List Lexeme) (to : ℕ) (f : Fault) → length text ≤ 16384 → Cut text 0 ts to → with_end (next_token text to) ≡ Err f → Answers text (Err f)
refused text ts to f n c e =
    let r = end_err (next_token text to) f e in
    let p = next_refused text to f r in
    inr (inl (n, p.0, p.1, (ts, to, c, r ∙ ap Err p.1)))
