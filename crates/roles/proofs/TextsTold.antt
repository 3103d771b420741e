-- The parts of a text that spells a model are its tokens, with the roles that the model's tree gives.
use Rattle.std.proofs.Common.{◌≡◌, ℕ, zero, suc, ◌+◌, ◌≤◌, cond, List, [], ◌∷◌, map, length, IfOk, Some, None, Ok, Err, vec_items, Result, sym, refl, ap, ◌∙◌, subst, map-id, arith, MatchResult}
use mathlib.Core.List.{map-map}
use Rattle.std.specs.List.{between}
use Rattle.std.specs.Global.{Vec}
use Rattle.std.proofs.lemmas.Bool.{lt-ltb}
use Rattle.faults.specs.declared.Fault.{Fault}
use Rattle.faults.specs.declared.Fault.TheVariants.{Memory}
use Rattle.lexer.specs.Tokens.{Lexeme, after}
use Rattle.lexer.specs.Lexing.{next_token, with_end}
use Rattle.lexer.specs.Layout.{Cut}
use Rattle.lexer.proofs.Laws.{laid_cut, next_advances}
use Rattle.terms.specs.declared.pull.Pulled.{Pulled}
use Rattle.terms.specs.Pull.{and_then, or_refused, pulled}
use Rattle.terms.specs.Grammar.{token_of}
use Rattle.terms.proofs.Steps.{word_in, word_in_lem}
use Rattle.roles.specs.declared.mode.Mode.{Mode}
use Rattle.roles.specs.declared.mode.Mode.TheVariants as mode
use Rattle.roles.specs.declared.role.Part.{Part}
use Rattle.roles.specs.Roles.{words, role_of, onward, roles_from, pulled_by, pulled_from, pulled_upto, given, with_roles, parts_upto}
use Rattle.roles.specs.Trees.{pulled_of, pulled_in, Told, Tells}
use Rattle.roles.proofs.ModelsTold.{model_told}

-- A token that comes next is pulled, and where none comes nothing is.
next_pulled : (text : List ℕ) (at : ℕ) (t : Lexeme) → next_token text at ≡ Ok (Some t) → pulled text at ≡ Ok (pulled_of t)
unfolding pulled
next_pulled text at t h = ap (λ r. and_then (with_end r) (or_refused (length text))) h

none_pulled : (text : List ℕ) (at upto : ℕ) (more : ℕ → List Pulled) → next_token text at ≡ Ok None → pulled_by upto more (pulled text at) ≡ []
unfolding pulled
none_pulled text at upto more h = ap (λ r. pulled_by upto more (and_then (with_end r) (or_refused (length text)))) h

-- The tokens that a text is cut into are pulled.
cut_pulled : (text : List ℕ) (upto at to : ℕ) (ts : List Lexeme) (n : ℕ) → Cut text at ts to → next_token text to ≡ Ok None → length text ≤ upto → length text ≤ n + at → pulled_from n text upto at ≡ map pulled_of ts
cut_pulled text upto at to [] zero c h u e = refl
cut_pulled text upto at to [] (suc n) c h u e = none_pulled text at upto _ (ap (next_token text) c ∙ h)
cut_pulled text upto at to (t ∷ ts) zero c h u e =
    let a = next_advances text at t c.0 in
    absurd (omega (arith, a.onward, a.some, a.within))
cut_pulled text upto at to (t ∷ ts) (suc n) c h u e =
    let a = next_advances text at t c.0 in
    ap (pulled_by upto (pulled_from n text upto)) (next_pulled text at t c.0)
    ∙ ap (λ b. cond b (pulled_of t ∷ pulled_from n text upto (after t)) []) (lt-ltb t.place upto (omega (arith, a.some, a.within)))
    ∙ ap (λ ps. pulled_of t ∷ ps) (cut_pulled text upto (after t) to ts n c.1 h u (omega (arith, a.onward, a.some)))

-- Their bytes are those of the text.
cut_bytes : (text : List ℕ) (at to : ℕ) (ts : List Lexeme) → Cut text at ts to → map (λ t. between t.place (after t) text) ts ≡ map (λ t. t.bytes) ts
cut_bytes text at to [] c = refl
cut_bytes text at to (t ∷ ts) c =
    ap (λ b. b ∷ map (λ t. between t.place (after t) text) ts) (sym (next_advances text at t c.0).bytes)
    ∙ ap (λ bs. t.bytes ∷ bs) (cut_bytes text (after t) to ts c.1)

-- Each token is given the role that is its own.
given_roles : (m : Mode) (ps : List Pulled) → map (λ (p : Part). p.role) (given (roles_from m (words ps)) ps) ≡ roles_from m (words ps)
given_roles m [] = refl
given_roles m (p ∷ ps) = ap (λ rs. role_of m p.word (words ps) ∷ rs) (given_roles (onward m p.word (words ps)) ps)

given_pulled : {A : Type 0} (f : Pulled → A) (m : Mode) (ps : List Pulled) → map (λ (p : Part). f (pulled_in p)) (given (roles_from m (words ps)) ps) ≡ map f ps
given_pulled f m [] = refl
given_pulled f m (p ∷ ps) = ap (λ qs. f p ∷ qs) (given_pulled f (onward m p.word (words ps)) ps)

words_tokens : (ts : List Lexeme) → words (map pulled_of ts) ≡ map word_in (map token_of ts)
words_tokens [] = refl
words_tokens (t ∷ ts) = ap (λ w. w ∷ words (map pulled_of ts)) (word_in_lem t (token_of t) refl) ∙ ap (λ ws. word_in (token_of t) ∷ ws) (words_tokens ts)

tells : (text : List ℕ) (upto : ℕ) → Tells text upto (parts_upto text upto)
unfolding parts_upto
tells text upto m well s fits =
    let ts = s.0 in
    let c = laid_cut text 0 ts s.1 in
    let read : pulled_upto text upto ≡ map pulled_of ts = cut_pulled text upto 0 c.0 ts (length text) c.1 c.2 fits (omega arith) in
    subst (λ ps. Told text m ts (with_roles ps)) (sym read) (record {
      tokens = given_pulled (λ p. p) mode.Title (map pulled_of ts) ∙ map-id (map pulled_of ts);
      bytes =
          given_pulled (λ p. between p.place p.end text) mode.Title (map pulled_of ts)
          ∙ map-map (λ p. between p.place p.end text) pulled_of ts
          ∙ cut_bytes text 0 c.0 ts c.1;
      roles =
          given_roles mode.Title (map pulled_of ts)
          ∙ ap (roles_from mode.Title) (words_tokens ts ∙ ap (map word_in) s.2)
          ∙ model_told m well;
    })

pub answer_tells : (text : List ℕ) (upto : ℕ) (r : Result (Vec Part) Fault) → MatchResult r (λ v. vec_items v ≡ parts_upto text upto) (λ f. f ≡ Memory) → IfOk r (λ v. Tells text upto (vec_items v))
answer_tells text upto (Ok v) h = subst (Tells text upto) (sym h) (tells text upto)
answer_tells text upto (Err f) h = tt
