use Rattle.std.proofs.Common.{◌≡◌, rules}
use Rattle.std.proofs.lemmas.Result.{err_from_is_err_and}
use Rattle.lexer.specs.declared.signs.Sign.TheVariants.{Open}
use Rattle.terms.specs.declared.pull.Word.TheVariants.{Sign}
use Rattle.terms.proofs.Openings.{bracket_none, bracket_more}
use Rattle.terms.proofs.terms.+terms.Goals as goal

pub read_term-returns-in_err-take_from-in-Sign-Open : goal.read_term-returns-in_err-take_from-in-Sign-Open
read_term-returns-in_err-take_from-in-Sign-Open t c =
    let p = c.in_ok-p.p in
    let is : p.word ≡ Sign Open = search rules in
    let q = err_from_is_err_and c.from_residual-in_err-take_from-in-Sign-Open.result c.from_residual-in_err-take_from-in-Sign-Open.ensures.1 in
    rw (q.1, q.2) (bracket_none _ c.args.want _ p c.in_ok-p.ensures.0 is c.args.depth _ c.in_err-take_from-in-Sign-Open.ensures)

pub read_term-returns-in_ok-take_from-in-Sign-Open : goal.read_term-returns-in_ok-take_from-in-Sign-Open
read_term-returns-in_ok-take_from-in-Sign-Open t c =
    let p = c.in_ok-p.p in
    let is : p.word ≡ Sign Open = search rules in
    let same = bracket_more _ c.args.want _ p c.in_ok-p.ensures.0 is c.args.depth _ c.in_ok-take_from-in-Sign-Open.ensures in
    search (rules, same)
