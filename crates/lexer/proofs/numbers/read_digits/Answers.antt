use Rattle.std.proofs.Common.{◌≡◌, ℕ, ◌+◌, ◌<◌, ◌≤◌, List, [], ◌∷◌, map, length, get_or, take, fold, Option, Some, None, MatchOption, Bor, refl, sym, ap, ◌∙◌, subst, arith, rules}
use borrow.Author.Tests.{tests}
use Rattle.std.specs.List.{FoldsTo}
use Rattle.std.proofs.lemmas.List.{get_or_read}
use Rattle.std.proofs.lemmas.Iterator.{YieldsList-from_slice}
use Rattle.std.proofs.lemmas.Iterator.Consumers.{YieldsList-so_far, YieldsList-turn, YieldsList-end}
use Rattle.lexer.specs.Numbers.{with_digit, in_range, value_of}
use Rattle.lexer.proofs.Steps.{value_front, value_more, in_range_fits, in_range_past, in_range_some, in_range_none}
use Rattle.lexer.proofs.numbers.read_digits.Goals as goal

-- The turns of the fold so far are the value of the digits so far, and it is in range.
folded : {F : Type 0} {R : F × ℕ → Bor ℕ → F × ℕ → Type 0} → ((p : F × ℕ) (x : Bor ℕ) (q : F × ℕ) → R p x q → in_range (with_digit p.1 x.now) ≡ Some q.1) → (xs : List (Bor ℕ)) (p q : F × ℕ) → FoldsTo R p xs q → p.1 ≤ 1000000000 → (q.1 ≡ fold with_digit p.1 (map (λ x. x.now) xs)) × (q.1 ≤ 1000000000)
folded turn [] p q e most = (ap (λ z. z.1) (sym e), subst (λ (z : _). z.1 ≤ 1000000000) e most)
folded turn (x ∷ xs) p q f most =
    let is = in_range_some (with_digit p.1 x.now) f.0.1 (turn p x f.0 f.1) in
    let more = folded turn xs f.0 q f.2 (omega (arith, is.0, is.1)) in
    (more.0 ∙ ap (λ n. fold with_digit n (map (λ x. x.now) xs)) is.1, more.1)

-- The fold ends with the digits, or at the first of them with which the value is out of range.
decided : (digits : List ℕ) (xs : List (Bor ℕ)) (o : Option (Bor ℕ)) (a : ℕ) (r : Option ℕ) (P : Bor ℕ → Type 0) → (map (λ x. x.now) xs ≡ take (length xs) digits) → (o ≡ None → map (λ x. x.now) xs ≡ digits) → ((x : Bor ℕ) → o ≡ Some x → (length xs < length digits) × (x.now ≡ get_or digits (length xs) x.now)) → a ≡ value_of (map (λ x. x.now) xs) → a ≤ 1000000000 → ((x : Bor ℕ) → P x → (in_range (with_digit a x.now) ≡ None) × (r ≡ None)) → MatchOption o (r ≡ Some a) P → r ≡ in_range (value_of digits)
decided digits xs None a r P front all turn is most breaks ends =
    ends ∙ sym (in_range_fits a most) ∙ ap in_range (is ∙ ap value_of (all refl))
decided digits xs (Some x) a r P front all turn is most breaks ends =
    let n = length xs in
    let at = turn x refl in
    let broke = breaks x ends in
    let past = in_range_none (with_digit a x.now) broke.0 in
    let digit = get_or_read digits n x.now at.0 at.1 0 in
    let before = is ∙ ap value_of front in
    broke.1 ∙ sym (in_range_past (value_of digits) (omega (arith, past, value_more digits n at.0, value_front digits (n + 1))))

pub returns : goal.returns
unfolding value_of
returns c =
    let digits = c.args.digits.now in
    let ran = c.try_fold.ensures.ran in
    let chain = YieldsList-from_slice {s = c.iter.result} digits cc in
    let total = folded (λ p x q t. let is : t.0 ≡ in_range (with_digit p.1 x.now) = search (rules, tests) in sym is ∙ t.2) ran.0 _ _ ran.5 (omega arith) in
    decided digits ran.0 ran.1 ran.3 c.try_fold.result _ (YieldsList-so_far chain ran.0 ran.4.0 ran.4.1)
    (λ e. (YieldsList-end chain ran.0 ran.4.0 ran.4.1 ran.1 c.try_fold.new.self e ran.4.2).0)
    (λ x e. YieldsList-turn chain ran.0 ran.4.0 ran.4.1 ran.1 c.try_fold.new.self x e ran.4.2)
    total.0 total.1
    (λ x m. let is : m.0 ≡ in_range (with_digit ran.3 x.now) = search (rules, tests) in (sym is ∙ m.4, m.5))
    ran.6
