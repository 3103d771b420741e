-- Blanks between tokens do not matter.
use Rattle.std.proofs.Common.{◌≡◌, ℕ, ◌+◌, Bool, true, false, cond, not, eqb, List, [], ◌∷◌, ◌++◌, map, length, get_or, take, drop, Some, None, Ok, Err, Option, Result, sym, refl, ap, ◌∙◌, subst}
use Rattle.std.proofs.lemmas.List.{drop_at}
use Rattle.std.proofs.lemmas.Bool.{cond-true, true≢false, and_parts}
use Rattle.faults.specs.declared.Fault.{Fault}
use Rattle.faults.specs.declared.Fault.TheVariants.{NoToken}
use Rattle.classes.specs.Bytes.{is_blank, class_of}
use Rattle.classes.specs.declared.Class.{Class}
use Rattle.classes.specs.declared.Class.TheVariants.{Other, Blank, Letter, Digit, Sign, Twin}
use Rattle.lexer.specs.Runs.{Blanks, Word, Digits}
use Rattle.lexer.specs.Runs.{goes_on, reach_of}
use Rattle.lexer.specs.Signs.{sign_of, twin_of}
use Rattle.lexer.specs.Numbers.{number_of}
use Rattle.lexer.specs.Tokens.{Kind, name, number, keyword, sign, Lexeme, lexeme, after}
use Rattle.lexer.specs.Lexing.{word_token, number_token, class_token, front_token}
use Rattle.lexer.specs.Layout.{blank, extends, maximal, Laid, apart, Respaced, unplaced}
use Rattle.lexer.proofs.Splits.{reach_glued}
use Rattle.lexer.proofs.Found.{never}
use Rattle.lexer.proofs.Laws.{every_blank, token_solid}

-- The same bytes at another place are the same token there.
abbrev moved : Lexeme → ℕ → Lexeme
moved t place = lexeme t.kind t.bytes place

found_moved : (u t : Lexeme) (q : ℕ) → ◌≡◌ {A = Result Lexeme Fault} (Ok u) (Ok t) → ◌≡◌ {A = Result Lexeme Fault} (Ok (moved u q)) (Ok (moved t q))
found_moved u t q h = let e : u ≡ t = cc in ap (λ x. Ok (moved x q)) e

number_moved : (o : Option ℕ) (w : List ℕ) (p q : ℕ) (t : Lexeme) → number_token o w p ≡ Ok t → number_token o w q ≡ Ok (moved t q)
number_moved None w p q t h = absurd (never h)
number_moved (Some n) w p q t h = found_moved (lexeme (number n) w p) t q h

twin_moved : (v : Bool) (b c p q : ℕ) (t : Lexeme) → cond v (Ok (lexeme (sign (twin_of b)) (b ∷ c ∷ []) p)) (Err (NoToken p)) ≡ Ok t → cond v (Ok (lexeme (sign (twin_of b)) (b ∷ c ∷ []) q)) (Err (NoToken q)) ≡ Ok (moved t q)
twin_moved true b c p q t h = found_moved (lexeme (sign (twin_of b)) (b ∷ c ∷ []) p) t q h
twin_moved false b c p q t h = absurd (never h)

class_moved : (k : Class) (w : List ℕ) (p q : ℕ) (t : Lexeme) → class_token k w p ≡ Ok t → class_token k w q ≡ Ok (moved t q)
class_moved Letter w p q t h = found_moved (word_token (take (reach_of Word w) w) p) t q h
class_moved Digit w p q t h = number_moved (number_of (take (reach_of Digits w) w)) (take (reach_of Digits w) w) p q t h
class_moved Sign w p q t h = found_moved (lexeme (sign (sign_of (get_or w 0 0))) (take 1 w) p) t q h
class_moved Twin [] p q t h = absurd (never h)
class_moved Twin (b ∷ []) p q t h = absurd (never h)
class_moved Twin (b ∷ c ∷ w) p q t h = twin_moved (eqb b c) b c p q t h
class_moved Blank w p q t h = absurd (never h)
class_moved Other w p q t h = absurd (never h)

front_moved : (w : List ℕ) (p q : ℕ) (t : Lexeme) → front_token w p ≡ Ok t → front_token w q ≡ Ok (moved t q)
unfolding front_token
front_moved w p q t h = class_moved (class_of (get_or w 0 0)) w p q t h

-- A blank goes on with no token.
blank_class : (b : ℕ) → is_blank b ≡ true → class_of b ≡ Blank
blank_class b h = cond-true _ _ _ h

extends_blank : (kind : Kind) (b : ℕ) → is_blank b ≡ true → extends kind b ≡ false
extends_blank name b h = ap (goes_on Word) (blank_class b h)
extends_blank (keyword k) b h = ap (goes_on Word) (blank_class b h)
extends_blank (number n) b h = ap (goes_on Digits) (blank_class b h)
extends_blank (sign g) b h = refl

apart_maximal : (kind : Kind) (s : List ℕ) → apart s ≡ true → maximal kind s ≡ true
apart_maximal kind [] h = refl
apart_maximal kind (b ∷ s) h = ap not (extends_blank kind b h)

-- Blanks that do not part are none.
no_gap : (s gap back : List ℕ) → s ≡ gap ++ back → blank gap ≡ true → apart s ≡ false → s ≡ back
no_gap s [] back w b h = w
no_gap s (x ∷ gap) back w b h = absurd (true≢false (sym (and_parts (is_blank x) (blank gap) b).0 ∙ ap apart (sym w) ∙ h))

not_blank : (s : List ℕ) → blank s ≡ true → apart s ≡ false → ⊥
not_blank [] b h = true≢false h
not_blank (x ∷ s) b h = true≢false (sym (and_parts (is_blank x) (blank s) b).0 ∙ h)

-- What follows a token's first bytes does not tell whether those go on with the token before.
same_first : (kind : Kind) (w r r' : List ℕ) (place : ℕ) (t : Lexeme) → front_token w place ≡ Ok t → maximal kind (w ++ r) ≡ maximal kind (w ++ r')
unfolding front_token
same_first kind [] r r' place t h = absurd (never h)
same_first kind (b ∷ w) r r' place t h = refl

-- The rest behind a token is the same, however the blanks before it are given.
same_rest : (s gap gap₂ w r r₂ : List ℕ) (place : ℕ) (t : Lexeme) → front_token w place ≡ Ok t → s ≡ gap ++ (w ++ r) → s ≡ gap₂ ++ (w ++ r₂) → blank gap ≡ true → blank gap₂ ≡ true → r ≡ r₂
same_rest s gap gap₂ w r r₂ place t h e e₂ b b₂ =
    let size : (g q : List ℕ) → s ≡ g ++ (w ++ q) → blank g ≡ true → reach_of Blanks s ≡ length g = λ g q e b. ap (reach_of Blanks) e ∙ reach_glued Blanks g (w ++ q) (every_blank g ∙ b) (token_solid w q place t h) in
    let back : (g q : List ℕ) → s ≡ g ++ (w ++ q) → blank g ≡ true → q ≡ drop (length w) (drop (reach_of Blanks s) s) = λ g q e b. sym (drop_at w q (length w) refl) ∙ ap (drop (length w)) (sym (ap (drop (reach_of Blanks s)) e ∙ drop_at g (w ++ q) (reach_of Blanks s) (sym (size g q e b)))) in
    back gap r e b ∙ sym (back gap₂ r₂ e₂ b₂)

-- A token that was maximal still is.
unparted : (kind : Kind) (s s' : List ℕ) (at : ℕ) (ts : List Lexeme) → apart s ≡ false → apart s' ≡ false → Laid s at ts → Respaced s s' ts → maximal kind s ≡ maximal kind s'
unparted kind s s' at [] h h' l r = absurd (not_blank s r.0 h)
unparted kind s s' at (t ∷ ts) h h' l r =
    ap (maximal kind) (no_gap s r.0 (t.bytes ++ r.2) r.4 r.6 h)
    ∙ same_first kind t.bytes r.2 r.3 t.place t l.1.spelled
    ∙ ap (maximal kind) (sym (no_gap s' r.1 (t.bytes ++ r.3) r.5 r.7 h'))

still_maximal : (v v' : Bool) (kind : Kind) (s s' : List ℕ) (at : ℕ) (ts : List Lexeme) → apart s ≡ v → apart s' ≡ v' → (apart s ≡ true → apart s' ≡ true) → maximal kind s ≡ true → Laid s at ts → Respaced s s' ts → maximal kind s' ≡ true
still_maximal v true kind s s' at ts h h' parted m l r = apart_maximal kind s' h'
still_maximal true false kind s s' at ts h h' parted m l r = absurd (true≢false (sym (parted h) ∙ h'))
still_maximal false false kind s s' at ts h h' parted m l r = sym (unparted kind s s' at ts h h' l r) ∙ m

-- Two texts that differ only in the blanks between tokens have the same tokens.
pub respaced_laid : (s s' : List ℕ) (at at' : ℕ) (ts : List Lexeme) → Laid s at ts → Respaced s s' ts → (us : List Lexeme) × Laid s' at' us × (map unplaced us ≡ map unplaced ts)
respaced_laid s s' at at' [] l r = ([], r.1, refl)
respaced_laid s s' at at' (t ∷ ts) l r =
    let b = l.1 in
    let same : l.0 ≡ r.2 = same_rest s b.gap r.0 t.bytes l.0 r.2 t.place t b.spelled b.whole r.4 b.blanks r.6 in
    let more : Laid r.2 (after t) ts = subst (λ q. Laid q (after t) ts) same l.2 in
    let ends = still_maximal (apart r.2) (apart r.3) t.kind r.2 r.3 (after t) ts refl refl r.8 (ap (maximal t.kind) (sym same) ∙ b.ends) more r.9 in
    let u = moved t (at' + length r.1) in
    let us = respaced_laid r.2 r.3 (after t) (after u) ts more r.9 in
    (u ∷ us.0, (r.3, record { gap = r.1; whole = r.5; blanks = r.7; placed = refl; spelled = front_moved t.bytes t.place (at' + length r.1) t b.spelled; ends = ends }, us.1), ap (λ q. unplaced t ∷ q) us.2)
