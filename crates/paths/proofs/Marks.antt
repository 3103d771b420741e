-- Letters and marks: each has one spelling.
use Rattle.std.proofs.Common.{◌≡◌, ℕ, Bool, true, false, cond, eqb, List, length, get_or, drop, sym, refl, ap, ◌∙◌, arith}
use mathlib.Core.Option.{Option, none, some}
use Rattle.std.proofs.lemmas.Bool.{eqb-true}
use Rattle.meaning.specs.Syntax.{Exception, branched, turned, fetched, wrote}
use Rattle.meaning.specs.Letters as letter
use Rattle.meaning.specs.Letters.{Letter, letters, mark_of}
use Rattle.paths.specs.Marks.{Meant}
use Rattle.paths.specs.Spelling.{code_of, behind, spell}
use Rattle.paths.specs.Reading.{value_of, letter_by}
use Rattle.paths.proofs.Numerals.{numeral_some, value_numeral}

pub letter_back : (l : Letter) → letter_by (code_of l) ≡ some l
letter_back letter.T = refl
letter_back letter.E = refl
letter_back letter.L = refl
letter_back letter.O = refl
letter_back letter.N = refl
letter_back letter.X = refl
letter_back letter.W = refl
letter_back letter.K = refl
letter_back letter.F = refl
letter_back letter.C = refl
letter_back letter.D = refl

one_letter : (b c : ℕ) (x l : Letter) (o : Option Letter) (t : Bool) → eqb b c ≡ t → code_of x ≡ c → (o ≡ some l → b ≡ code_of l) → cond t (some x) o ≡ some l → b ≡ code_of l
one_letter b c x l o true e is more h = eqb-true b c e ∙ sym is ∙ ap code_of (same h) where
  same : some x ≡ some l → x ≡ l
  same p = cc
one_letter b c x l o false e is more h = more h

-- A letter's byte is its code.
pub letter_code : (b : ℕ) (l : Letter) → letter_by b ≡ some l → b ≡ code_of l
letter_code b l =
    one_letter b 84 letter.T l _ (eqb b 84) refl refl (
    one_letter b 69 letter.E l _ (eqb b 69) refl refl (
    one_letter b 76 letter.L l _ (eqb b 76) refl refl (
    one_letter b 79 letter.O l _ (eqb b 79) refl refl (
    one_letter b 78 letter.N l _ (eqb b 78) refl refl (
    one_letter b 88 letter.X l _ (eqb b 88) refl refl (
    one_letter b 87 letter.W l _ (eqb b 87) refl refl (
    one_letter b 75 letter.K l _ (eqb b 75) refl refl (
    one_letter b 70 letter.F l _ (eqb b 70) refl refl (
    one_letter b 67 letter.C l _ (eqb b 67) refl refl (
    one_letter b 68 letter.D l _ (eqb b 68) refl refl (never l))))))))))) where
      never : (l : Letter) → none ≡ some l → b ≡ code_of l
      never l p = absurd (let z : ◌≡◌ {A = ℕ} 0 1 = cc in omega arith)

mark_back : (m : Meant) → mark_of (letters m).letter (letters m).number ≡ some m
mark_back (branched true) = refl
mark_back (branched false) = refl
mark_back (turned true) = refl
mark_back (turned false) = refl
mark_back (fetched true) = refl
mark_back (fetched false) = refl
mark_back (wrote none) = refl
mark_back (wrote (some Exception.K)) = refl
mark_back (wrote (some (Exception.F n))) = refl
mark_back (wrote (some (Exception.C n))) = refl
mark_back (wrote (some (Exception.D n))) = refl

behind_same : (o p : Option ℕ) → behind o ≡ behind p → o ≡ p
behind_same none none e = refl
behind_same none (some n) e = absurd (omega (arith, ap length e, numeral_some n))
behind_same (some m) none e = absurd (omega (arith, ap length e, numeral_some m))
behind_same (some m) (some n) e = ap some (sym (value_numeral m) ∙ ap value_of e ∙ value_numeral n)

some_same : {A : Type 0} (a b : A) → some a ≡ some b → a ≡ b
some_same a b p = cc

-- No two marks are spelled alike.
pub spell_same : (m n : Meant) → spell m ≡ spell n → m ≡ n
spell_same m n e =
    let codes = ap (λ (l : List ℕ). get_or l 0 0) e in
    let letter = some_same _ _ (sym (letter_back (letters m).letter) ∙ ap letter_by codes ∙ letter_back (letters n).letter) in
    let number = behind_same (letters m).number (letters n).number (ap (drop 1) e) in
    some_same _ _ (sym (mark_back m) ∙ ap (λ l. mark_of l (letters m).number) letter ∙ ap (mark_of (letters n).letter) number ∙ mark_back n)
