use Rattle.std.proofs.Common.{rules, ◌≡◌, codes, eqb, take, true, false, sym, ◌∙◌, arith}
use Rattle.std.specs.Cmp.Lexicographic.{pointwise}
use Rattle.std.proofs.lemmas.Slice.Eq.{text_from_reads}
use borrow.Author.Tests.{ltb-true}
use Rattle.std.proofs.lemmas.Bool.{ltb-false}
use Rattle.console.proofs.Words.{IsOther, other, begins_is, other_line}
use Rattle.console.proofs.read_command.Goals as goal
use Rattle.console.proofs.read_command.Goals.{In_default, in_default-via-else-line-lt4+then-line-lt5+in-99+in-97+in-115+in_default-1, in_default-via-else-line-lt4+then-line-lt5+in-99+in-97+in_default-1, in_default-via-else-line-lt4+then-line-lt5+in-99+in_default-1, in_default-via-else-line-lt4+then-line-lt5+in_default-1, in_default-via-else-line-lt4+else-line-lt5+then-line-lt6+in-109+in-111+in-100+in-101+in_default-1, in_default-via-else-line-lt4+else-line-lt5+then-line-lt6+in-109+in-111+in-100+in_default-1, in_default-via-else-line-lt4+else-line-lt5+then-line-lt6+in-109+in-111+in_default-1, in_default-via-else-line-lt4+else-line-lt5+then-line-lt6+in-109+in_default-1, in_default-via-else-line-lt4+else-line-lt5+then-line-lt6+in-106+in-117+in-100+in-103+in_default-1, in_default-via-else-line-lt4+else-line-lt5+then-line-lt6+in-106+in-117+in-100+in_default-1, in_default-via-else-line-lt4+else-line-lt5+then-line-lt6+in-106+in-117+in_default-1, in_default-via-else-line-lt4+else-line-lt5+then-line-lt6+in-106+in_default-1, in_default-via-else-line-lt4+else-line-lt5+then-line-lt6+in_default-1, in_default-via-else-line-lt4+else-line-lt5+else-line-lt6+else-line-lt10+then-line-lt11+in-99+in-111+in-110+in-100+in-105+in-116+in-105-line-20+in-111-line-21+in-110-line-22+in_default-1, in_default-via-else-line-lt4+else-line-lt5+else-line-lt6+else-line-lt10+then-line-lt11+in-99+in-111+in-110+in-100+in-105+in-116+in-105-line-20+in-111-line-21+in_default-1, in_default-via-else-line-lt4+else-line-lt5+else-line-lt6+else-line-lt10+then-line-lt11+in-99+in-111+in-110+in-100+in-105+in-116+in-105-line-20+in_default-1, in_default-via-else-line-lt4+else-line-lt5+else-line-lt6+else-line-lt10+then-line-lt11+in-99+in-111+in-110+in-100+in-105+in-116+in_default-1, in_default-via-else-line-lt4+else-line-lt5+else-line-lt6+else-line-lt10+then-line-lt11+in-99+in-111+in-110+in-100+in-105+in_default-1, in_default-via-else-line-lt4+else-line-lt5+else-line-lt6+else-line-lt10+then-line-lt11+in-99+in-111+in-110+in-100+in_default-1, in_default-via-else-line-lt4+else-line-lt5+else-line-lt6+else-line-lt10+then-line-lt11+in-99+in-111+in-110+in_default-1, in_default-via-else-line-lt4+else-line-lt5+else-line-lt6+else-line-lt10+then-line-lt11+in-99+in-111+in_default-1, in_default-via-else-line-lt4+else-line-lt5+else-line-lt6+else-line-lt10+then-line-lt11+in-99+in_default-1, in_default-via-else-line-lt4+else-line-lt5+else-line-lt6+else-line-lt10+then-line-lt11+in_default-1, in_default-via-in_default, then-line-lt4, else-line-lt4+else-line-lt5+else-line-lt6+then-line-lt10, else-line-lt4+else-line-lt5+else-line-lt6+else-line-lt10+else-line-lt11}

pub returns-in-conditions : goal.returns-in-conditions
returns-in-conditions c =
    let is : c.args.line.now ≡ codes "conditions" = text_from_reads _ _ (omega arith) (search rules) in rw is

-- Which lines get past the arms for whole words.
passed_words : (c : In_default) → IsOther c.args.line.now
passed_words c = elim c.in_default.branch [
  | in_default-via-else-line-lt4+then-line-lt5+in-99+in-97+in-115+in_default-1 w ↦ other _ (omega (arith, ltb-true, ltb-false)) (λ e. omega arith) (λ s. omega (arith, ltb-true, ltb-false)) (λ s. omega (arith, ltb-true, ltb-false)) (λ s. omega (arith, ltb-true, ltb-false)) (λ s. omega (arith, ltb-true, ltb-false))
  | in_default-via-else-line-lt4+then-line-lt5+in-99+in-97+in_default-1 w ↦ other _ (omega (arith, ltb-true, ltb-false)) (λ e. omega arith) (λ s. omega (arith, ltb-true, ltb-false)) (λ s. omega (arith, ltb-true, ltb-false)) (λ s. omega (arith, ltb-true, ltb-false)) (λ s. omega (arith, ltb-true, ltb-false))
  | in_default-via-else-line-lt4+then-line-lt5+in-99+in_default-1 w ↦ other _ (omega (arith, ltb-true, ltb-false)) (λ e. omega arith) (λ s. omega (arith, ltb-true, ltb-false)) (λ s. omega (arith, ltb-true, ltb-false)) (λ s. omega (arith, ltb-true, ltb-false)) (λ s. omega (arith, ltb-true, ltb-false))
  | in_default-via-else-line-lt4+then-line-lt5+in_default-1 w ↦ other _ (omega (arith, ltb-true, ltb-false)) (λ e. omega arith) (λ s. omega (arith, ltb-true, ltb-false)) (λ s. omega (arith, ltb-true, ltb-false)) (λ s. omega (arith, ltb-true, ltb-false)) (λ s. omega (arith, ltb-true, ltb-false))
  | in_default-via-else-line-lt4+else-line-lt5+then-line-lt6+in-109+in-111+in-100+in-101+in_default-1 w ↦ other _ (omega (arith, ltb-true, ltb-false)) (λ e. omega arith) (λ s. omega (arith, ltb-true, ltb-false)) (λ s. omega (arith, ltb-true, ltb-false)) (λ s. omega (arith, ltb-true, ltb-false)) (λ s. omega (arith, ltb-true, ltb-false))
  | in_default-via-else-line-lt4+else-line-lt5+then-line-lt6+in-109+in-111+in-100+in_default-1 w ↦ other _ (omega (arith, ltb-true, ltb-false)) (λ e. omega arith) (λ s. omega (arith, ltb-true, ltb-false)) (λ s. omega (arith, ltb-true, ltb-false)) (λ s. omega (arith, ltb-true, ltb-false)) (λ s. omega (arith, ltb-true, ltb-false))
  | in_default-via-else-line-lt4+else-line-lt5+then-line-lt6+in-109+in-111+in_default-1 w ↦ other _ (omega (arith, ltb-true, ltb-false)) (λ e. omega arith) (λ s. omega (arith, ltb-true, ltb-false)) (λ s. omega (arith, ltb-true, ltb-false)) (λ s. omega (arith, ltb-true, ltb-false)) (λ s. omega (arith, ltb-true, ltb-false))
  | in_default-via-else-line-lt4+else-line-lt5+then-line-lt6+in-109+in_default-1 w ↦ other _ (omega (arith, ltb-true, ltb-false)) (λ e. omega arith) (λ s. omega (arith, ltb-true, ltb-false)) (λ s. omega (arith, ltb-true, ltb-false)) (λ s. omega (arith, ltb-true, ltb-false)) (λ s. omega (arith, ltb-true, ltb-false))
  | in_default-via-else-line-lt4+else-line-lt5+then-line-lt6+in-106+in-117+in-100+in-103+in_default-1 w ↦ other _ (omega (arith, ltb-true, ltb-false)) (λ e. omega arith) (λ s. omega (arith, ltb-true, ltb-false)) (λ s. omega (arith, ltb-true, ltb-false)) (λ s. omega (arith, ltb-true, ltb-false)) (λ s. omega (arith, ltb-true, ltb-false))
  | in_default-via-else-line-lt4+else-line-lt5+then-line-lt6+in-106+in-117+in-100+in_default-1 w ↦ other _ (omega (arith, ltb-true, ltb-false)) (λ e. omega arith) (λ s. omega (arith, ltb-true, ltb-false)) (λ s. omega (arith, ltb-true, ltb-false)) (λ s. omega (arith, ltb-true, ltb-false)) (λ s. omega (arith, ltb-true, ltb-false))
  | in_default-via-else-line-lt4+else-line-lt5+then-line-lt6+in-106+in-117+in_default-1 w ↦ other _ (omega (arith, ltb-true, ltb-false)) (λ e. omega arith) (λ s. omega (arith, ltb-true, ltb-false)) (λ s. omega (arith, ltb-true, ltb-false)) (λ s. omega (arith, ltb-true, ltb-false)) (λ s. omega (arith, ltb-true, ltb-false))
  | in_default-via-else-line-lt4+else-line-lt5+then-line-lt6+in-106+in_default-1 w ↦ other _ (omega (arith, ltb-true, ltb-false)) (λ e. omega arith) (λ s. omega (arith, ltb-true, ltb-false)) (λ s. omega (arith, ltb-true, ltb-false)) (λ s. omega (arith, ltb-true, ltb-false)) (λ s. omega (arith, ltb-true, ltb-false))
  | in_default-via-else-line-lt4+else-line-lt5+then-line-lt6+in_default-1 w ↦ other _ (omega (arith, ltb-true, ltb-false)) (λ e. omega arith) (λ s. omega (arith, ltb-true, ltb-false)) (λ s. omega (arith, ltb-true, ltb-false)) (λ s. omega (arith, ltb-true, ltb-false)) (λ s. omega (arith, ltb-true, ltb-false))
  | in_default-via-else-line-lt4+else-line-lt5+else-line-lt6+else-line-lt10+then-line-lt11+in-99+in-111+in-110+in-100+in-105+in-116+in-105-line-20+in-111-line-21+in-110-line-22+in_default-1 w ↦ other _ (omega (arith, ltb-true, ltb-false)) (λ e. omega arith) (λ s. omega (arith, ltb-true, ltb-false)) (λ s. omega (arith, ltb-true, ltb-false)) (λ s. omega (arith, ltb-true, ltb-false)) (λ s. omega (arith, ltb-true, ltb-false))
  | in_default-via-else-line-lt4+else-line-lt5+else-line-lt6+else-line-lt10+then-line-lt11+in-99+in-111+in-110+in-100+in-105+in-116+in-105-line-20+in-111-line-21+in_default-1 w ↦ other _ (omega (arith, ltb-true, ltb-false)) (λ e. omega arith) (λ s. omega (arith, ltb-true, ltb-false)) (λ s. omega (arith, ltb-true, ltb-false)) (λ s. omega (arith, ltb-true, ltb-false)) (λ s. omega (arith, ltb-true, ltb-false))
  | in_default-via-else-line-lt4+else-line-lt5+else-line-lt6+else-line-lt10+then-line-lt11+in-99+in-111+in-110+in-100+in-105+in-116+in-105-line-20+in_default-1 w ↦ other _ (omega (arith, ltb-true, ltb-false)) (λ e. omega arith) (λ s. omega (arith, ltb-true, ltb-false)) (λ s. omega (arith, ltb-true, ltb-false)) (λ s. omega (arith, ltb-true, ltb-false)) (λ s. omega (arith, ltb-true, ltb-false))
  | in_default-via-else-line-lt4+else-line-lt5+else-line-lt6+else-line-lt10+then-line-lt11+in-99+in-111+in-110+in-100+in-105+in-116+in_default-1 w ↦ other _ (omega (arith, ltb-true, ltb-false)) (λ e. omega arith) (λ s. omega (arith, ltb-true, ltb-false)) (λ s. omega (arith, ltb-true, ltb-false)) (λ s. omega (arith, ltb-true, ltb-false)) (λ s. omega (arith, ltb-true, ltb-false))
  | in_default-via-else-line-lt4+else-line-lt5+else-line-lt6+else-line-lt10+then-line-lt11+in-99+in-111+in-110+in-100+in-105+in_default-1 w ↦ other _ (omega (arith, ltb-true, ltb-false)) (λ e. omega arith) (λ s. omega (arith, ltb-true, ltb-false)) (λ s. omega (arith, ltb-true, ltb-false)) (λ s. omega (arith, ltb-true, ltb-false)) (λ s. omega (arith, ltb-true, ltb-false))
  | in_default-via-else-line-lt4+else-line-lt5+else-line-lt6+else-line-lt10+then-line-lt11+in-99+in-111+in-110+in-100+in_default-1 w ↦ other _ (omega (arith, ltb-true, ltb-false)) (λ e. omega arith) (λ s. omega (arith, ltb-true, ltb-false)) (λ s. omega (arith, ltb-true, ltb-false)) (λ s. omega (arith, ltb-true, ltb-false)) (λ s. omega (arith, ltb-true, ltb-false))
  | in_default-via-else-line-lt4+else-line-lt5+else-line-lt6+else-line-lt10+then-line-lt11+in-99+in-111+in-110+in_default-1 w ↦ other _ (omega (arith, ltb-true, ltb-false)) (λ e. omega arith) (λ s. omega (arith, ltb-true, ltb-false)) (λ s. omega (arith, ltb-true, ltb-false)) (λ s. omega (arith, ltb-true, ltb-false)) (λ s. omega (arith, ltb-true, ltb-false))
  | in_default-via-else-line-lt4+else-line-lt5+else-line-lt6+else-line-lt10+then-line-lt11+in-99+in-111+in_default-1 w ↦ other _ (omega (arith, ltb-true, ltb-false)) (λ e. omega arith) (λ s. omega (arith, ltb-true, ltb-false)) (λ s. omega (arith, ltb-true, ltb-false)) (λ s. omega (arith, ltb-true, ltb-false)) (λ s. omega (arith, ltb-true, ltb-false))
  | in_default-via-else-line-lt4+else-line-lt5+else-line-lt6+else-line-lt10+then-line-lt11+in-99+in_default-1 w ↦ other _ (omega (arith, ltb-true, ltb-false)) (λ e. omega arith) (λ s. omega (arith, ltb-true, ltb-false)) (λ s. omega (arith, ltb-true, ltb-false)) (λ s. omega (arith, ltb-true, ltb-false)) (λ s. omega (arith, ltb-true, ltb-false))
  | in_default-via-else-line-lt4+else-line-lt5+else-line-lt6+else-line-lt10+then-line-lt11+in_default-1 w ↦ other _ (omega (arith, ltb-true, ltb-false)) (λ e. omega arith) (λ s. omega (arith, ltb-true, ltb-false)) (λ s. omega (arith, ltb-true, ltb-false)) (λ s. omega (arith, ltb-true, ltb-false)) (λ s. omega (arith, ltb-true, ltb-false))
  | in_default-via-in_default v ↦ elim v.if-line-lt4.branch [
    | then-line-lt4 w ↦ other _ (omega (arith, ltb-true, ltb-false)) (λ e. omega arith) (λ s. omega (arith, ltb-true, ltb-false)) (λ s. omega (arith, ltb-true, ltb-false)) (λ s. omega (arith, ltb-true, ltb-false)) (λ s. omega (arith, ltb-true, ltb-false))
    | else-line-lt4+else-line-lt5+else-line-lt6+then-line-lt10 w ↦ other _ (omega (arith, ltb-true, ltb-false)) (λ e. omega arith) (λ s. omega (arith, ltb-true, ltb-false)) (λ s. omega (arith, ltb-true, ltb-false)) (λ s. omega (arith, ltb-true, ltb-false)) (λ s. omega (arith, ltb-true, ltb-false))
    | else-line-lt4+else-line-lt5+else-line-lt6+else-line-lt10+else-line-lt11 w ↦ other _ (omega (arith, ltb-true, ltb-false)) (λ e. omega arith) (λ s. omega (arith, ltb-true, ltb-false)) (λ s. omega (arith, ltb-true, ltb-false)) (λ s. omega (arith, ltb-true, ltb-false)) (λ s. omega (arith, ltb-true, ltb-false))
  ]
]

pub returns-in_default-2 : goal.returns-in_default-2
returns-in_default-2 c =
    let line = c.args.line.now in
    let is_path : c.starts_with.result ≡ pointwise eqb (codes "path ") (take 5 line) = search rules in
    let is_hex : c.starts_with-2.result ≡ pointwise eqb (codes "case-hex ") (take 9 line) = search rules in
    let path = begins_is (codes "path ") line c.starts_with.result is_path in
    let hex = begins_is (codes "case-hex ") line c.starts_with-2.result is_hex in
    sym (other_line line false true (passed_words (goal.at.returns-in_default-2 c).In_default) (sym c.if-starts_with.false ∙ path) (sym c.if-starts_with-2.true ∙ hex))

pub returns-in_default-3 : goal.returns-in_default-3
returns-in_default-3 c =
    let line = c.args.line.now in
    let is_path : c.starts_with.result ≡ pointwise eqb (codes "path ") (take 5 line) = search rules in
    let is_hex : c.starts_with-2.result ≡ pointwise eqb (codes "case-hex ") (take 9 line) = search rules in
    let path = begins_is (codes "path ") line c.starts_with.result is_path in
    let hex = begins_is (codes "case-hex ") line c.starts_with-2.result is_hex in
    sym (other_line line false false (passed_words (goal.at.returns-in_default-3 c).In_default) (sym c.if-starts_with.false ∙ path) (sym c.if-starts_with-2.false ∙ hex))
