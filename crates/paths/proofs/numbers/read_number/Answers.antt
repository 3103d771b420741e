use Rattle.std.proofs.Common.{◌≡◌, ◌+◌, ◌<◌, get_or, take, drop, Ok, sym, ap, ◌∙◌, arith}
use Rattle.std.specs.List.{prefix_len}
use Rattle.std.proofs.lemmas.Grind.{common_steps}
use Rattle.std.proofs.lemmas.List.{take_rest}
use Rattle.paths.specs.Marks.{held_number}
use Rattle.paths.specs.Reading.{is_digit, value_of}
use Rattle.paths.proofs.Decoding.{by_count, zero_first, more_first}
use Rattle.paths.proofs.numbers.read_number.Goals as goal

pub returns-in-0-default : goal.returns-in-0-default
returns-in-0-default c =
    let rest = take_rest c.args.line.now c.args.at in
    sym (by_count _ c.args.at 0 (ap (prefix_len is_digit) (sym rest) ∙ sym c.digits.ensures.value ∙ c.in-0-default.is-0))

pub returns-in_default-eq48 : goal.returns-in_default-eq48
returns-in_default-eq48 c =
    let s = drop c.args.at c.args.line.now in
    let rest = take_rest c.args.line.now c.args.at in
    let count : prefix_len is_digit s ≡ c.digits.result = ap (prefix_len is_digit) (sym rest) ∙ sym c.digits.ensures.value in
    let front = ap (λ l. get_or l 0 0) rest in
    let z : get_or s 0 0 ≡ 48 = omega (arith, front) in
    let more : 0 < c.digits.result = omega (arith, c.in_default-eq48.is-0) in
    sym (by_count s c.args.at c.digits.result count ∙ zero_first s c.args.at c.digits.result more z)

pub returns-in_default : goal.returns-in_default
returns-in_default c =
    let s = drop c.args.at c.args.line.now in
    let k = c.digits.result in
    let rest = take_rest c.args.line.now c.args.at in
    let count : prefix_len is_digit s ≡ k = ap (prefix_len is_digit) (sym rest) ∙ sym c.digits.ensures.value in
    let front = ap (λ l. get_or l 0 0) rest in
    let more : 0 < k = omega arith in
    let z : get_or s 0 0 ≡ 48 → ⊥ = λ e. grind (arith, common_steps) in
    let held : c.held_number.result ≡ held_number (value_of (take k s)) = c.held_number.ensures ∙ ap (λ l. held_number (value_of (take k l))) rest in
    ap (λ v. Ok (v, c.args.at + k)) held ∙ sym (by_count s c.args.at k count ∙ more_first s c.args.at k more z)
