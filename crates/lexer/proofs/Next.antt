-- The cases of the next token.
use Rattle.std.proofs.Common.{◌≡◌, ℕ, ◌+◌, ◌-◌, ◌<◌, ◌≤◌, List, length, get_or, take, drop, None, Ok, sym, refl, ap, ◌∙◌, arith, drop-cons}
use Rattle.std.proofs.lemmas.List.{take_rest, drop_all, drop-drop}
use Rattle.classes.specs.Bytes.{class_of}
use Rattle.classes.specs.declared.Class.{Class}
use Rattle.lexer.specs.Runs.{Blanks}
use Rattle.lexer.specs.Runs.{reach_of}
use Rattle.lexer.specs.Lexing.{class_token, front_token, found, or_end, next_from, next_token}

pub front_class : (s : List ℕ) (place : ℕ) (k : Class) → k ≡ class_of (get_or s 0 0) → front_token s place ≡ class_token k s place
unfolding front_token
front_class s place k e = ap (λ c. class_token c s place) (sym e)

-- The next token, where n blanks lie before it.
module _ (text : List ℕ) (at n : ℕ) (skipped : n ≡ reach_of Blanks (take (length text - at) (drop at text))) where
  next_past : next_token text at ≡ or_end (drop (at + n) text) (at + n)
  unfolding next_from
  next_past =
      ap (λ m. or_end (drop m (drop at text)) (at + m)) (sym (skipped ∙ ap (reach_of Blanks) (take_rest text at)))
      ∙ ap (λ s. or_end s (at + n)) (drop-drop n at text)

  -- Past the blanks the text has ended.
  pub next_ended : length text ≤ at + n → next_token text at ≡ Ok None
  next_ended h = next_past ∙ ap (λ s. or_end s (at + n)) (drop_all (at + n) text h)

  -- Past the blanks a token stands, or none does.
  pub next_front : at + n < length text → next_token text at ≡ found (front_token (take (length text - (at + n)) (drop (at + n) text)) (at + n))
  next_front h =
      next_past
      ∙ ap (λ s. or_end s (at + n)) (drop-cons text (at + n) 0 h)
      ∙ ap (λ s. found (front_token s (at + n))) (sym (take_rest text (at + n) ∙ drop-cons text (at + n) 0 h))

-- From the end of the text on there is nothing.
pub next_none : (text : List ℕ) (at : ℕ) → length text ≤ at → next_token text at ≡ Ok None
next_none text at h = next_ended text at (reach_of Blanks (take (length text - at) (drop at text))) refl (omega arith)
