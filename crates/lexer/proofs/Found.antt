-- A token found at the front parts the bytes there, and stands there before any other rest that does not go on with it.
use Rattle.std.proofs.Common.{◌≡◌, ℕ, ◌<◌, Bool, true, false, cond, not, eqb, List, [], ◌∷◌, ◌++◌, length, get_or, take, Some, None, Ok, Err, Option, sym, refl, ap, ◌∙◌, subst, arith}
use Rattle.std.proofs.lemmas.Bool.{cond-true}
use Rattle.faults.specs.declared.Fault.TheVariants.{NoToken}
use Rattle.classes.specs.Bytes.{class_of}
use Rattle.classes.specs.declared.Class.{Class}
use Rattle.classes.specs.declared.Class.TheVariants.{Other, Blank, Letter, Digit, Sign, Twin}
use Rattle.lexer.specs.Runs.{Run}
use Rattle.lexer.specs.Runs.{Word, Digits}
use Rattle.lexer.specs.declared.keywords.Keyword.{Keyword}
use Rattle.lexer.specs.declared.signs.Sign.{Sign as Mark}
use Rattle.lexer.specs.Runs.{goes_on, goes, reach_of}
use Rattle.lexer.specs.Keywords.{keyword_of}
use Rattle.lexer.specs.Numbers.{number_of}
use Rattle.lexer.specs.Signs.{sign_of, twin_of}
use Rattle.lexer.specs.Tokens.{Lexeme, lexeme, number, sign}
use Rattle.lexer.specs.Lexing.{word_kind, word_token, number_token, class_token, front_token}
use Rattle.lexer.specs.Layout.{maximal}
use Rattle.lexer.proofs.Next.{front_class}
use Rattle.lexer.proofs.Splits.{split, stopped, taken_glued, taken_alone, every_taken}

-- A token at the front of some bytes, and the rest.
pub record Front (s : List ℕ) (place : ℕ) (t : Lexeme) : Type 0 where
  pub rest : List ℕ
  pub whole : s ≡ t.bytes ++ rest
  pub placed : t.place ≡ place
  pub spelled : front_token t.bytes place ≡ Ok t
  pub ends : maximal t.kind rest ≡ true

-- A word is maximal where its run ends.
word_maximal : (o : Option Keyword) (s : List ℕ) → maximal (word_kind o) s ≡ stopped Word s
word_maximal None [] = refl
word_maximal None (b ∷ s) = refl
word_maximal (Some k) [] = refl
word_maximal (Some k) (b ∷ s) = refl

number_maximal : (n : ℕ) (s : List ℕ) → maximal (number n) s ≡ stopped Digits s
number_maximal n [] = refl
number_maximal n (b ∷ s) = refl

sign_maximal : (g : Mark) (s : List ℕ) → maximal (sign g) s ≡ true
sign_maximal g [] = refl
sign_maximal g (b ∷ s) = refl

pub never : {X Y : Type 0} {x : X} {y : Y} → Err x ≡ Ok y → ⊥
never h = let z : ◌≡◌ {A = ℕ} 0 1 = cc in omega arith

-- The first byte goes on with a run, so it is in it.
first_in : (run : Run) (b : ℕ) (s front back : List ℕ) → goes run b ≡ true → b ∷ s ≡ front ++ back → stopped run back ≡ true → get_or front 0 0 ≡ b
first_in run b s [] back g w e = let z : true ≡ false = sym e ∙ ap (stopped run) (sym w) ∙ ap not g in cc
first_in run b s (x ∷ front) back g w e = cc

module _ (b : ℕ) (s : List ℕ) (place : ℕ) (t : Lexeme) where
  letter_front : Letter ≡ class_of b → class_token Letter (b ∷ s) place ≡ Ok t → Front (b ∷ s) place t
  letter_front k h =
      let p = split Word (b ∷ s) in
      let first = first_in Word b s p.front p.back (ap (goes_on Word) (sym k)) p.whole p.ends in
      let is : word_token p.front place ≡ t = let q = ap (λ w. word_token w place) p.taken in cc in
      subst (Front (b ∷ s) place) is (record {
        rest = p.back;
        whole = p.whole;
        placed = refl;
        spelled = front_class p.front place Letter (k ∙ ap class_of (sym first)) ∙ ap (λ w. Ok (word_token w place)) (taken_alone Word p.front p.all);
        ends = word_maximal (keyword_of p.front) p.back ∙ p.ends;
      })

-- A number that was read, by its value.
number_read : (o : Option ℕ) (w : List ℕ) (place : ℕ) (t : Lexeme) → number_token o w place ≡ Ok t → (n : ℕ) × (lexeme (number n) w place ≡ t)
number_read None w place t h = absurd (never h)
number_read (Some n) w place t h = (n, cc)

module _ (b : ℕ) (s : List ℕ) (place : ℕ) (t : Lexeme) where
  digit_front : Digit ≡ class_of b → class_token Digit (b ∷ s) place ≡ Ok t → Front (b ∷ s) place t
  digit_front k h =
      let p = split Digits (b ∷ s) in
      let first = first_in Digits b s p.front p.back (ap (goes_on Digits) (sym k)) p.whole p.ends in
      let read : number_token (number_of p.front) p.front place ≡ Ok t = ap (λ w. number_token (number_of w) w place) (sym p.taken) ∙ h in
      let n = number_read (number_of p.front) p.front place t read in
      let alone = ap (λ w. number_token (number_of w) w place) (taken_alone Digits p.front p.all) in
      subst (Front (b ∷ s) place) n.1 (record {
        rest = p.back;
        whole = p.whole;
        placed = refl;
        spelled = front_class p.front place Digit (k ∙ ap class_of (sym first)) ∙ alone ∙ read ∙ ap Ok (sym n.1);
        ends = number_maximal n.0 p.back ∙ p.ends;
      })

  sign_front : Sign ≡ class_of b → class_token Sign (b ∷ s) place ≡ Ok t → Front (b ∷ s) place t
  sign_front k h =
      let is : lexeme (sign (sign_of b)) (b ∷ []) place ≡ t = cc in
      subst (Front (b ∷ s) place) is (record {
        rest = s;
        whole = refl;
        placed = refl;
        spelled = front_class (b ∷ []) place Sign k;
        ends = sign_maximal (sign_of b) s;
      })

-- A twin with another such byte behind it, and without.
twin_way : (v : Bool) (b c : ℕ) (s : List ℕ) (place : ℕ) (t : Lexeme) → eqb b c ≡ v → Twin ≡ class_of b → cond v (Ok (lexeme (sign (twin_of b)) (b ∷ c ∷ []) place)) (Err (NoToken place)) ≡ Ok t → Front (b ∷ c ∷ s) place t
twin_way true b c s place t e k h =
    let is : lexeme (sign (twin_of b)) (b ∷ c ∷ []) place ≡ t = cc in
    subst (Front (b ∷ c ∷ s) place) is (record {
      rest = s;
      whole = refl;
      placed = refl;
      spelled = front_class (b ∷ c ∷ []) place Twin k ∙ cond-true _ _ _ e;
      ends = sign_maximal (twin_of b) s;
    })
twin_way false b c s place t e k h = absurd (never h)

twin_front : (b : ℕ) (s : List ℕ) (place : ℕ) (t : Lexeme) → Twin ≡ class_of b → class_token Twin (b ∷ s) place ≡ Ok t → Front (b ∷ s) place t
twin_front b [] place t k h = absurd (never h)
twin_front b (c ∷ s) place t k h = twin_way (eqb b c) b c s place t refl k h

class_front : (k : Class) (b : ℕ) (s : List ℕ) (place : ℕ) (t : Lexeme) → k ≡ class_of b → class_token k (b ∷ s) place ≡ Ok t → Front (b ∷ s) place t
class_front Letter b s place t k h = letter_front b s place t k h
class_front Digit b s place t k h = digit_front b s place t k h
class_front Sign b s place t k h = sign_front b s place t k h
class_front Twin b s place t k h = twin_front b s place t k h
class_front Blank b s place t k h = absurd (never h)
class_front Other b s place t k h = absurd (never h)

-- What is found at the front is a maximal token there.
pub front_found : (s : List ℕ) (place : ℕ) (t : Lexeme) → front_token s place ≡ Ok t → Front s place t
unfolding front_token
front_found [] place t h = absurd (never h)
front_found (b ∷ s) place t h = class_front (class_of b) b s place t refl h

-- The same token stands before every rest that does not go on with it.
module _ (rest : List ℕ) (place : ℕ) (t : Lexeme) (ends : maximal t.kind rest ≡ true) where
  letter_before : (w : List ℕ) → t.bytes ≡ w → class_token Letter w place ≡ Ok t → class_token Letter (w ++ rest) place ≡ Ok t
  letter_before w is h =
      let whole : take (reach_of Word w) w ≡ w = let q : (word_token (take (reach_of Word w) w) place).bytes ≡ t.bytes = let r : word_token (take (reach_of Word w) w) place ≡ t = cc in ap (λ x. x.bytes) r in q ∙ is in
      let kind : word_kind (keyword_of w) ≡ t.kind = let r : word_token (take (reach_of Word w) w) place ≡ t = cc in ap (λ x. word_kind (keyword_of x)) (sym whole) ∙ ap (λ x. x.kind) r in
      let stops = sym (word_maximal (keyword_of w) rest) ∙ ap (λ x. maximal x rest) kind ∙ ends in
      ap (λ x. Ok (word_token x place)) (taken_glued Word w rest (every_taken Word w whole) stops ∙ sym whole) ∙ h

  digit_before : (w : List ℕ) → t.bytes ≡ w → class_token Digit w place ≡ Ok t → class_token Digit (w ++ rest) place ≡ Ok t
  digit_before w is h =
      let n = number_read (number_of (take (reach_of Digits w) w)) (take (reach_of Digits w) w) place t h in
      let whole = ap (λ x. x.bytes) n.1 ∙ is in
      let stops = sym (number_maximal n.0 rest) ∙ ap (λ x. maximal x.kind rest) n.1 ∙ ends in
      ap (λ x. number_token (number_of x) x place) (taken_glued Digits w rest (every_taken Digits w whole) stops ∙ sym whole) ∙ h

twin_before : (v : Bool) (b c : ℕ) (w rest : List ℕ) (place : ℕ) (t : Lexeme) → eqb b c ≡ v → t.bytes ≡ b ∷ c ∷ w → cond v (Ok (lexeme (sign (twin_of b)) (b ∷ c ∷ []) place)) (Err (NoToken place)) ≡ Ok t → class_token Twin ((b ∷ c ∷ w) ++ rest) place ≡ Ok t
twin_before true b c w rest place t e is h = cond-true _ _ _ e ∙ h
twin_before false b c w rest place t e is h = absurd (never h)

class_before : (k : Class) (b : ℕ) (w rest : List ℕ) (place : ℕ) (t : Lexeme) → t.bytes ≡ b ∷ w → maximal t.kind rest ≡ true → class_token k (b ∷ w) place ≡ Ok t → class_token k ((b ∷ w) ++ rest) place ≡ Ok t
class_before Letter b w rest place t is e h = letter_before rest place t e (b ∷ w) is h
class_before Digit b w rest place t is e h = digit_before rest place t e (b ∷ w) is h
class_before Sign b w rest place t is e h = h
class_before Twin b [] rest place t is e h = absurd (never h)
class_before Twin b (c ∷ w) rest place t is e h = twin_before (eqb b c) b c w rest place t refl is h
class_before Blank b w rest place t is e h = absurd (never h)
class_before Other b w rest place t is e h = absurd (never h)

pub front_before : (w rest : List ℕ) (place : ℕ) (t : Lexeme) → t.bytes ≡ w → maximal t.kind rest ≡ true → front_token w place ≡ Ok t → front_token (w ++ rest) place ≡ Ok t
unfolding front_token
front_before [] rest place t is e h = absurd (never h)
front_before (b ∷ w) rest place t is e h = class_before (class_of b) b w rest place t is e h

-- A token has at least one byte.
pub token_some : (w : List ℕ) (place : ℕ) (t : Lexeme) → front_token w place ≡ Ok t → 0 < length w
unfolding front_token
token_some [] place t h = absurd (never h)
token_some (b ∷ w) place t h = omega arith
