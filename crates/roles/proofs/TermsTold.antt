-- The words of expressions, conditions and lists of names have the roles that their trees give.
use Rattle.std.proofs.Common.{◌≡◌, ℕ, Bool, true, false, cond, ◌⊎◌, List, [], ◌∷◌, ◌++◌, map, Some, sym, refl, ap, ◌∙◌, subst, inl, inr, append_assoc, arith}
use Rattle.lexer.specs.declared.signs.Sign.{Sign}
use Rattle.lexer.specs.declared.signs.Sign.TheVariants.{Not, Open, Close, Times, Plus, Comma, Minus, Dot, Over, Semicolon, Less, Equal, More, And, Or}
use Rattle.terms.specs.declared.pull.Word.TheVariants as word
use Rattle.terms.specs.declared.shapes.Operator.{Operator}
use Rattle.terms.specs.Pull.{is_sign}
use Rattle.terms.specs.Shapes.{operator_of}
use Rattle.terms.specs.Trees.{Token, sign, Tree, literal, lone, head, cell, truth, is_nil, only, pair, words_of, Sound}
use Rattle.terms.proofs.Steps.{nothing, sign_same, word_in}
use Rattle.terms.proofs.Completing.{begun}
use Rattle.syntax.specs.Trees.{names_words, values_words, AllFit}
use Rattle.roles.specs.declared.mode.Mode.{Mode}
use Rattle.roles.specs.declared.mode.Mode.TheVariants as mode
use Rattle.roles.specs.declared.role.Role.{Role}
use Rattle.roles.specs.declared.role.Role.TheVariants.{Plain, Declared, Variable, Attribute}
use Rattle.roles.specs.declared.role.Declared.TheVariants as declared
use Rattle.roles.specs.declared.role.Use.TheVariants as use_of
use Rattle.roles.specs.declared.role.Column.TheVariants as column
use Rattle.roles.specs.Roles.{at, term_use, roles_from}
use Rattle.roles.specs.Trees.{tree_roles, names_roles, values_roles}

-- The roles of tokens.
abbrev pub roles_in : Mode → List Token → List Role
roles_in m ts = roles_from m (map word_in ts)

-- Tokens behind tokens.
pub seq : (m n : Mode) (xs ys rest : List Token) (rs ss z : List Role) → roles_in m (xs ++ (ys ++ rest)) ≡ rs ++ roles_in n (ys ++ rest) → roles_in n (ys ++ rest) ≡ ss ++ z → roles_in m ((xs ++ ys) ++ rest) ≡ (rs ++ ss) ++ z
seq m n xs ys rest rs ss z f g = ap (roles_in m) (append_assoc xs ys rest) ∙ f ∙ ap (λ v. rs ++ v) g ∙ sym (append_assoc rs ss z)

-- Tokens that do not go on with a lone name.
pub record Quiet (ts : List Token) : Type 0 where
  pub alone : term_use (map word_in ts) ≡ use_of.Lone
  pub closed : is_sign Open (at (map word_in ts) 0) ≡ false

-- An operator does not.
operator_quiet : (s : Sign) (o : Operator) → operator_of s ≡ Some o → (t : Tree) (a rest : List Token) → Quiet (sign s ∷ (words_of t ++ a) ++ rest)
operator_quiet Not o h t a rest = absurd (nothing h)
operator_quiet Open o h t a rest = absurd (nothing h)
operator_quiet Close o h t a rest = absurd (nothing h)
operator_quiet Times o h t a rest = record { alone = refl; closed = refl }
operator_quiet Plus o h t a rest = record { alone = refl; closed = refl }
operator_quiet Comma o h t a rest = absurd (nothing h)
operator_quiet Minus o h t a rest = record { alone = refl; closed = refl }
operator_quiet Dot o h t a rest = absurd (nothing h)
operator_quiet Over o h t a rest = record { alone = refl; closed = refl }
operator_quiet Semicolon o h t a rest = absurd (nothing h)
operator_quiet Less o h t a rest = record { alone = refl; closed = refl }
operator_quiet Equal o h t a rest = record {
  alone = ap (λ ws. term_use (word.Sign Equal ∷ map word_in ((ws ++ a) ++ rest))) (begun t).is ∙ ap (λ b. cond b use_of.Nil use_of.Lone) (begun t).no_nil;
  closed = refl;
}
operator_quiet More o h t a rest = record { alone = refl; closed = refl }
operator_quiet And o h t a rest = record { alone = refl; closed = refl }
operator_quiet Or o h t a rest = record { alone = refl; closed = refl }

-- A sign of which something holds that does not hold of a semicolon.
pub no_semicolon : (s : Sign) (P : Sign → Type 0) → P s → (P Semicolon → ⊥) → is_sign Semicolon (word.Sign s) ≡ false
no_semicolon s P p other = go (is_sign Semicolon (word.Sign s)) refl
  where
    go : (b : Bool) → is_sign Semicolon (word.Sign s) ≡ b → is_sign Semicolon (word.Sign s) ≡ false
    go true h = absurd (other (subst P (sign_same s Semicolon h) p))
    go false h = h

neither : (Semicolon ≡ Minus) ⊎ (Semicolon ≡ Not) → ⊥
neither (inl h) = let z : ◌≡◌ {A = ℕ} 0 1 = cc in omega arith
neither (inr h) = let z : ◌≡◌ {A = ℕ} 0 1 = cc in omega arith

-- A sign other than a semicolon.
pub kept : (m : Mode) (s : Sign) (ts : List Token) (z : List Role) → is_sign Semicolon (word.Sign s) ≡ false → roles_in m ts ≡ z → roles_in m (sign s ∷ ts) ≡ Plain ∷ z
kept m s ts z h e = ap (λ b. Plain ∷ roles_in (cond b mode.Target m) ts) h ∙ ap (λ v. Plain ∷ v) e

-- Expressions and conditions.
pub tree_told : (t : Tree) → Sound t → (rest : List Token) → Quiet rest → roles_in mode.Term (words_of t ++ rest) ≡ tree_roles t ++ roles_in mode.Term rest
tree_told (literal n) s rest q = refl
tree_told (lone v) s rest q =
    ap (λ u. Variable u ∷ roles_in (cond (is_sign Open (at (map word_in rest) 0)) mode.Cell mode.Term) rest) q.alone
    ∙ ap (λ b. Variable use_of.Lone ∷ roles_in (cond b mode.Cell mode.Term) rest) q.closed
tree_told (head v) s rest q = refl
tree_told (cell v a) s rest q = refl
tree_told (truth true) s rest q = refl
tree_told (truth false) s rest q = refl
tree_told (is_nil v) s rest q = refl
tree_told (only g t) s rest q =
    ap (λ z. Plain ∷ z) (kept mode.Term g ((words_of t ++ (sign Close ∷ [])) ++ rest) _ (no_semicolon g (λ k. (k ≡ Minus) ⊎ (k ≡ Not)) s.0 neither)
    (seq mode.Term mode.Term (words_of t) (sign Close ∷ []) rest (tree_roles t) (Plain ∷ []) (roles_in mode.Term rest)
    (tree_told t s.2 (sign Close ∷ rest) (record { alone = refl; closed = refl }))
    refl))
tree_told (pair g l r) s rest q =
    ap (λ z. Plain ∷ z) (seq mode.Term mode.Term (words_of l) (sign g ∷ words_of r ++ (sign Close ∷ [])) rest (tree_roles l) (Plain ∷ tree_roles r ++ (Plain ∷ [])) (roles_in mode.Term rest)
    (tree_told l s.4 (sign g ∷ (words_of r ++ (sign Close ∷ [])) ++ rest) (operator_quiet g s.0 s.1 r (sign Close ∷ []) rest))
    (kept mode.Term g ((words_of r ++ (sign Close ∷ [])) ++ rest) _ (no_semicolon g (λ k. operator_of k ≡ Some s.0) s.1 nothing)
    (seq mode.Term mode.Term (words_of r) (sign Close ∷ []) rest (tree_roles r) (Plain ∷ []) (roles_in mode.Term rest)
    (tree_told r s.5 (sign Close ∷ rest) (record { alone = refl; closed = refl }))
    refl)))

-- Lists.
pub fields_told : (ns : List (List ℕ)) (rest : List Token) → roles_in mode.Field (names_words ns ++ rest) ≡ names_roles (Declared declared.Field) ns ++ roles_in mode.Field rest
fields_told [] rest = refl
fields_told (n ∷ ns) rest = ap (λ z. Plain ∷ Declared declared.Field ∷ z) (fields_told ns rest)

pub picks_told : (ns : List (List ℕ)) (rest : List Token) → roles_in mode.Pick (names_words ns ++ rest) ≡ names_roles (Attribute column.Pick) ns ++ roles_in mode.Pick rest
picks_told [] rest = refl
picks_told (n ∷ ns) rest = ap (λ z. Plain ∷ Attribute column.Pick ∷ z) (picks_told ns rest)

pub values_quiet : (es : List Tree) (rest : List Token) → Quiet rest → Quiet (values_words es ++ rest)
values_quiet [] rest q = q
values_quiet (e ∷ es) rest q = record { alone = refl; closed = refl }

pub values_told : (es : List Tree) → AllFit es → (rest : List Token) → Quiet rest → roles_in mode.Term (values_words es ++ rest) ≡ values_roles es ++ roles_in mode.Term rest
values_told [] s rest q = refl
values_told (e ∷ es) s rest q =
    ap (λ z. Plain ∷ z) (seq mode.Term mode.Term (words_of e) (values_words es) rest (tree_roles e) (values_roles es) (roles_in mode.Term rest)
    (tree_told e s.0.0 (values_words es ++ rest) (values_quiet es rest q))
    (values_told es s.1 rest q))
