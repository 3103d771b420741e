-- Binding one part after another.
use Rattle.std.proofs.Common.{◌≡◌, ℕ, ◌+◌, ◌≤◌, Bool, true, false, cond, List, [], ◌∷◌, length, is_some, Some, None, Ok, Option, Result, sym, refl, ap, ◌∙◌, inl, inr, arith}
use Rattle.faults.specs.declared.Fault.{Fault}
use Rattle.lexer.specs.declared.signs.Sign.TheVariants.{Semicolon}
use Rattle.terms.specs.Pull.{and_then, is_sign}
use Rattle.roles.specs.declared.role.Part.{Part}
use Rattle.roles.specs.Roles.{name_of}
use Rattle.names.specs.declared.scope.Clause.{Clause}
use Rattle.names.specs.declared.scope.Scope.{Scope}
use Rattle.names.specs.Schema.{Decl}
use Rattle.names.specs.Scopes.{opened, scope_from, scope_after}
use Rattle.names.specs.Binding.{Names, bound_as, bound_from, Fails}
use Rattle.names.specs.Onward.{left_of, outside}

-- A fault of the first step is one of the whole.
fails_then : {A B : Type 0} (f : Fault) (r : Result A Fault) (k : A → Result B Fault) → Fails f r → Fails f (and_then r k)
fails_then f r k (inl m) = inl m
fails_then f r k (inr e) = inr (ap (λ x. and_then x k) e)

pub fails_same : {A : Type 0} (f : Fault) (r s : Result A Fault) → s ≡ r → Fails f r → Fails f s
fails_same f r s e (inl m) = inl m
fails_same f r s e (inr g) = inr (e ∙ g)

-- The first part is bound, or fails.
module _ (d : Decl) (sc : Scope) (s : Names) (p : Part) (ps : List Part) where
  pub bound_ok : (t : Names) → bound_as d sc s (name_of p) ps p.role ≡ Ok t → bound_from d sc s (p ∷ ps) ≡ bound_from d (scope_after d sc p ps) t ps
  unfolding bound_from
  bound_ok t e = ap (λ r. and_then r (λ t. bound_from d (scope_after d sc p ps) t ps)) e

  pub bound_fails : (f : Fault) → Fails f (bound_as d sc s (name_of p) ps p.role) → Fails f (bound_from d sc s (p ∷ ps))
  unfolding bound_from
  bound_fails f e = fails_then f _ _ e

-- With no part left nothing more is bound.
pub none_left : (d : Decl) (sc : Scope) (s : Names) (ps : List Part) → length ps ≡ 0 → bound_from d sc s ps ≡ Ok s
unfolding bound_from
none_left d sc s [] h = refl
none_left d sc s (p ∷ ps) h = absurd (omega arith)

-- A clause lasts to its semicolon.
module _ (d : Decl) (sc : Scope) (p : Part) (ps : List Part) (b : Bool) (is : is_sign Semicolon p.token.word ≡ b) where
  both : (b : Bool) (c : Clause) → sc.clause ≡ Some c → record { declared = sc.declared; clause = cond b None (Some c) } ≡ cond b (left_of sc) sc
  both true c e = refl
  both false c e = ap (λ o. record { declared = sc.declared; clause = o }) (sym e)

  pub lasts : is_some sc.clause ≡ true → scope_after d sc p ps ≡ cond b (left_of sc) sc
  lasts h = go sc.clause refl h
    where
      go : (o : Option Clause) → sc.clause ≡ o → is_some o ≡ true → scope_after d sc p ps ≡ cond b (left_of sc) sc
      go None e h = absurd cc
      go (Some c) e h = ap (scope_from d p ps sc.declared) e ∙ ap (λ x. record { declared = sc.declared; clause = cond x None (Some c) }) is ∙ both b c e

-- Outside of clauses a part may begin one.
pub begins : (d : Decl) (sc : Scope) (p : Part) (ps : List Part) → sc.clause ≡ None → scope_after d sc p ps ≡ record { declared = (outside sc p.role).declared; clause = opened d p ps p.role }
begins d sc p ps e = ap (scope_from d p ps sc.declared) e

-- One table more at most.
pub few_more : (b : Bool) (n : ℕ) → cond b (n + 1) n ≤ n + 1
few_more true n = omega arith
few_more false n = omega arith
