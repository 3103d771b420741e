use Rattle.std.proofs.Common.{◌≡◌, rules, List, ℕ, [], ◌∷◌, cond, Some, refl, ap, sym, ◌∙◌}
use borrow.Author.Tests.{tests}
use Rattle.std.specs.Str.{bytes_eq}
use Rattle.std.specs.List.{find}
use Rattle.std.proofs.lemmas.Iterator.{YieldsList-from_slice}
use Rattle.std.proofs.lemmas.Iterator.Adapters.{option_map_id}
use Rattle.std.proofs.lemmas.Iterator.Consumers.{YieldsList-from_copied, YieldsList-at}
use Rattle.std.proofs.lemmas.Iterator.Search.{find_from_yields_List}
use Rattle.lexer.specs.declared.keywords.Keyword.{Keyword}
use Rattle.lexer.specs.Keywords.{spell, keywords, first_spelled, keyword_of}
use Rattle.lexer.proofs.keywords.keyword_of.Goals as goal

-- The first keyword that passes is the first that is written so.
first_passes : (w : List ℕ) (ks : List Keyword) → find (λ k. bytes_eq w (spell k)) ks ≡ first_spelled w ks
first_passes w [] = refl
first_passes w (k ∷ ks) = ap (cond (bytes_eq w (spell k)) (Some k)) (first_passes w ks)

pub returns : goal.returns
unfolding keywords keyword_of
returns c =
    let word = c.args.word.now in
    let found = find_from_yields_List (λ k. bytes_eq word (spell k)) _ _ c.find.result c.find.ensures.ran (YieldsList-from_copied (YieldsList-at c.copied.ensures.source (YieldsList-from_slice keywords cc))) (λ x b q k. (search (rules, tests), search (rules, tests))) in
    sym (option_map_id c.find.result) ∙ found ∙ first_passes word keywords
