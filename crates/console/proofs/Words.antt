-- A line that is none of the words, by what its length or one of its bytes is.
use Rattle.std.proofs.Common.{◌≡◌, ℕ, ◌≤◌, Bool, true, false, cond, eqb, List, [], ◌∷◌, ◌++◌, codes, length, get_or, take, drop, refl, sym, ap, ◌∙◌, arith, length-append, take-append-drop}
use Rattle.std.specs.Str.{bytes_eq}
use Rattle.std.specs.Cmp.Lexicographic.{pointwise}
use Rattle.std.proofs.lemmas.List.{take_at}
use Rattle.std.proofs.lemmas.Bool.{le-leb, eqb-true, and_from, and_parts, false_from_ne_true}
use Rattle.std.proofs.lemmas.Bool.Decides.{Decides-eqb, same_from_decides}
use Rattle.std.proofs.lemmas.Slice.Eq.{starts_is, bytes_eq-Decides}
use Rattle.console.specs.declared.Command.TheVariants.{Path, CaseHex, Unknown}
use Rattle.console.specs.Commands.{passed_over, begins_with, command_of}

-- What two equal lists have in common, as far as the longest word goes.
pub record Alike (xs ys : List ℕ) : Type 0 where
  pub size : length xs ≡ length ys
  pub at_0 : get_or xs 0 0 ≡ get_or ys 0 0
  pub at_1 : get_or xs 1 0 ≡ get_or ys 1 0
  pub at_2 : get_or xs 2 0 ≡ get_or ys 2 0
  pub at_3 : get_or xs 3 0 ≡ get_or ys 3 0
  pub at_4 : get_or xs 4 0 ≡ get_or ys 4 0
  pub at_5 : get_or xs 5 0 ≡ get_or ys 5 0
  pub at_6 : get_or xs 6 0 ≡ get_or ys 6 0
  pub at_7 : get_or xs 7 0 ≡ get_or ys 7 0
  pub at_8 : get_or xs 8 0 ≡ get_or ys 8 0
  pub at_9 : get_or xs 9 0 ≡ get_or ys 9 0

alike : (xs ys : List ℕ) → xs ≡ ys → Alike xs ys
alike xs ys e =
    let at = λ (i : ℕ). ap (λ zs. get_or zs i 0) e in
    record { size = ap length e; at_0 = at 0; at_1 = at 1; at_2 = at 2; at_3 = at 3; at_4 = at 4; at_5 = at 5; at_6 = at 6; at_7 = at 7; at_8 = at 8; at_9 = at 9 }

-- A line that is not passed over, and is none of the words of a command.
pub record IsOther (line : List ℕ) : Type 0 where
  pub passed : passed_over line ≡ false
  pub model : bytes_eq line (codes "model") ≡ false
  pub case : bytes_eq line (codes "case") ≡ false
  pub conditions : bytes_eq line (codes "conditions") ≡ false
  pub judge : bytes_eq line (codes "judge") ≡ false

not_passed : (line : List ℕ) → (get_or line 0 0 ≡ 35 → 1 ≤ 0) → 1 ≤ length line → passed_over line ≡ false
not_passed [] apart some = absurd (omega arith)
not_passed (b ∷ line) apart some = false_from_ne_true (eqb b 35) (λ h. let z : 1 ≤ 0 = apart (eqb-true b 35 h) in absurd (omega arith))

not_word : (line word : List ℕ) → (Alike line word → 1 ≤ 0) → bytes_eq line word ≡ false
not_word line word apart = false_from_ne_true (bytes_eq line word) (λ h. let z : 1 ≤ 0 = apart (alike line word ((bytes_eq-Decides line word).0 h)) in absurd (omega arith))

pub other : (line : List ℕ) → 1 ≤ length line → (get_or line 0 0 ≡ 35 → 1 ≤ 0) → (Alike line (codes "model") → 1 ≤ 0) → (Alike line (codes "case") → 1 ≤ 0) → (Alike line (codes "conditions") → 1 ≤ 0) → (Alike line (codes "judge") → 1 ≤ 0) → IsOther line
other line some hash m a k j = record { passed = not_passed line hash some; model = not_word line _ m; case = not_word line _ a; conditions = not_word line _ k; judge = not_word line _ j }

-- That a line begins with some bytes, as the code tests it and as the rule says it.
pub begins_is : (front line : List ℕ) (r : Bool) → r ≡ pointwise eqb front (take (length front) line) → r ≡ begins_with front line
begins_is front line r told =
    let rest = drop (length front) line in
    let code = starts_is Decides-eqb line front r told in
    let same = bytes_eq-Decides (take (length front) line) front in
    let yes : begins_with front line ≡ true → line ≡ front ++ rest = λ h. sym (take-append-drop (length front) line) ∙ ap (λ l. l ++ rest) (same.0 (and_parts _ _ h).1) in
    let back : line ≡ front ++ rest → begins_with front line ≡ true = λ e. and_from _ _ (le-leb (length front) (length line) (omega (arith, ap length e, length-append front rest))) (same.1 (ap (take (length front)) e ∙ take_at front rest (length front) refl)) in
    same_from_decides r (begins_with front line) (code.0, λ e. code.1 rest e) (yes, back)

-- The command of such a line, by its first bytes.
pub other_line : (line : List ℕ) (path hex : Bool) → IsOther line → path ≡ begins_with (codes "path ") line → hex ≡ begins_with (codes "case-hex ") line → command_of line ≡ cond path Path (cond hex CaseHex Unknown)
other_line line path hex o p h = simp (o.passed, o.model, sym p, o.case, sym h, o.conditions, o.judge)
