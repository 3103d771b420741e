use Rattle.std.proofs.Common.{[], ◌∷◌, map, Ok, Err, vec_items, sym, ap, ◌∙◌}
use mathlib.Core.List.{map-append}
use Rattle.std.proofs.lemmas.Result.{err_from_is_err_and}
use Rattle.lexer.specs.Tokens.{lexeme_of, lexemes, option_read}
use Rattle.lexer.proofs.Laws.{only, answered, refused, end_some, cut_more}
use Rattle.lexer.proofs.Respacing.{respaced_laid}
use Rattle.lexer.proofs.tokens.tokens.Goals as goal

pub returns-in_err-token : goal.returns-in_err-token
returns-in_err-token c =
    let text = c.args.text.now in
    let p = err_from_is_err_and c.from_residual-in_err-token.result c.from_residual-in_err-token.ensures.1 in
    let told = refused text (lexemes c.loop-found.found) c.loop-found.at c.in_err-token.field-0.0 c.in_ok-check_length.ensures c.loop-found.invariant (sym c.in_err-token.ensures.value) in
    rw (p.1, p.2) (record { answer = told; only = λ ts n l. only text (Err c.in_err-token.field-0.0) ts told n l; respaced = tt })

pub loop-found-preserved : goal.loop-found-preserved
loop-found-preserved c =
    let text = c.args.text.now in
    let next = end_some _ _ _ (sym c.in_ok-token.ensures.value ∙ ap (λ o. Ok (option_read o)) c.in-Some.is) in
    let token = lexeme_of c.in-Some.token in
    let more = cut_more text 0 (lexemes c.loop-found.found) c.loop-found.at token c.loop-found.invariant next.0 in
    let items = ap (map lexeme_of) c.in_ok-push.ensures.items ∙ map-append lexeme_of (vec_items c.loop-found.found) (c.in-Some.token ∷ []) in
    rw (items, next.1) more

pub returns : goal.returns
returns c =
    let text = c.args.text.now in
    let told = answered text (lexemes c.loop-found.found) c.loop-found.at c.in_ok-check_length.ensures c.loop-found.invariant (sym c.in_ok-token.ensures.value ∙ ap (λ o. Ok (option_read o)) c.in_default.is) in
    record {
      answer = told;
      only = λ ts n l. only text (Ok (lexemes c.loop-found.found)) ts told n l;
      respaced = λ other r. respaced_laid text other 0 0 (lexemes c.loop-found.found) told.1 r;
    }
