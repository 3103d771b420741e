-- The steps of the loops over tokens.
use Rattle.std.proofs.Common.{◌≡◌, ℕ, zero, suc, ◌+◌, ◌<◌, ◌≤◌, true, false, cond, ltb, List, [], ◌∷◌, ◌++◌, length, Ok, Err, Result, sym, refl, ap, ◌∙◌, append_assoc, append-nil, arith}
use Rattle.faults.specs.declared.Fault.{Fault}
use Rattle.lexer.specs.Tokens.{after}
use Rattle.lexer.proofs.Laws.{next_advances}
use Rattle.terms.specs.declared.pull.Pulled.{Pulled}
use Rattle.terms.specs.Pull.{pulled}
use Rattle.terms.proofs.Steps.{came}
use Rattle.roles.specs.Roles.{pulled_by, pulled_from, pulled_upto}

-- A token ends behind the place from which it is pulled, inside the text.
pub pulled_onward : (text : List ℕ) (at : ℕ) (p : Pulled) → pulled text at ≡ Ok p → (at < p.end) × (p.end ≤ length text)
pulled_onward text at p h =
    let s = (came text at p h).stands in
    let a = next_advances text at s.0 s.1 in
    let e : after s.0 ≡ p.end = s.3 in
    let o = a.onward in
    let b = a.some in
    let w = a.within in
    (omega arith, omega arith)

-- The tokens that are still to come, with enough turns left for them.
pub record Left (text : List ℕ) (upto at : ℕ) (found : List Pulled) : Type 0 where
  pub turns : ℕ
  pub enough : length text ≤ turns + at
  pub whole : pulled_upto text upto ≡ found ++ pulled_from turns text upto at

pub left_none : (text : List ℕ) (upto : ℕ) → Left text upto 0 []
left_none text upto = record { turns = length text; enough = omega arith; whole = refl }

pub left_more : (text : List ℕ) (upto at : ℕ) (found : List Pulled) (p : Pulled) → Left text upto at found → pulled text at ≡ Ok p → ltb p.place upto ≡ true → Left text upto p.end (found ++ (p ∷ []))
left_more text upto at found p l h b = go l.turns l.enough l.whole
  where
    go : (n : ℕ) → length text ≤ n + at → pulled_upto text upto ≡ found ++ pulled_from n text upto at → Left text upto p.end (found ++ (p ∷ []))
    go zero e w = absurd (let o = pulled_onward text at p h in omega (arith, o.0, o.1))
    go (suc n) e w = record {
      turns = n;
      enough = let o = pulled_onward text at p h in omega (arith, o.0, o.1);
      whole =
          w
          ∙ ap (λ r. found ++ pulled_by upto (pulled_from n text upto) r) h
          ∙ ap (λ c. found ++ cond c (p ∷ pulled_from n text upto p.end) []) b
          ∙ sym (append_assoc found (p ∷ []) (pulled_from n text upto p.end));
    }

-- No more come: the next token begins too late, or there is none.
stopped : (text : List ℕ) (upto at : ℕ) (r : Result Pulled Fault) → pulled text at ≡ r → ((n : ℕ) → pulled_by upto (pulled_from n text upto) r ≡ []) → (n : ℕ) → pulled_from n text upto at ≡ []
stopped text upto at r h e zero = refl
stopped text upto at r h e (suc n) = ap (pulled_by upto (pulled_from n text upto)) h ∙ e n

pub left_late : (text : List ℕ) (upto at : ℕ) (found : List Pulled) (p : Pulled) → Left text upto at found → pulled text at ≡ Ok p → ltb p.place upto ≡ false → found ≡ pulled_upto text upto
left_late text upto at found p l h b =
    sym (l.whole ∙ ap (λ ps. found ++ ps) (stopped text upto at (Ok p) h (λ n. ap (λ c. cond c (p ∷ pulled_from n text upto p.end) []) b) l.turns) ∙ append-nil found)

pub left_ended : (text : List ℕ) (upto at : ℕ) (found : List Pulled) (f : Fault) → Left text upto at found → pulled text at ≡ Err f → found ≡ pulled_upto text upto
left_ended text upto at found f l h =
    sym (l.whole ∙ ap (λ ps. found ++ ps) (stopped text upto at (Err f) h (λ n. refl) l.turns) ∙ append-nil found)
