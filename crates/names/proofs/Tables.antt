-- Tables as they are kept, and as they are spoken of.
use Rattle.std.proofs.Common.{◌≡◌, ℕ, ◌+◌, ◌-◌, ◌≤◌, Bool, cond, ltb, List, [], ◌∷◌, map, length, drop, get_or, slice_set, is_some, IfSome, Some, None, Option, Bor, position, sym, refl, ap, ◌∙◌, arith, tests, rules}
use Rattle.std.specs.List.{slice_get, position_from}
use Rattle.std.specs.Option.{option_map}
use Rattle.std.proofs.lemmas.List.{map-set, length-map, drop_all}
use Rattle.std.proofs.lemmas.Option.{slice_get_past, slice_get_read, slice_get-map}
use Rattle.std.proofs.lemmas.Iterator.Adapters.{position_from-zero}
use Rattle.names.specs.declared.schema.Table as code
use Rattle.lexer.specs.declared.name.Name.{Name}
use Rattle.roles.specs.declared.role.Declared.TheVariants as declares
use Rattle.roles.specs.declared.role.Role.{Role}
use Rattle.roles.specs.declared.role.Role.TheVariants as role
use Rattle.roles.specs.declared.role.Part.{Part}
use Rattle.roles.specs.Roles.{name_of}
use Rattle.names.specs.Schema.{Table, Decl, table_of, last_as, declared_by, declared_from, declared_in}

-- The first of some elements by what they are spoken of as.
from_map : {A B : Type 0} (f : A → B) (p : B → Bool) (k : ℕ) (xs : List A) → position_from p k (map f xs) ≡ position_from (λ x. p (f x)) k xs
from_map f p k [] = refl
from_map f p k (x ∷ xs) = ap (cond (p (f x)) (Some k)) (from_map f p (k + 1) xs)

pub position_map : {A B : Type 0} (f : A → B) (p : B → Bool) (xs : List A) → position p (map f xs) ≡ position (λ x. p (f x)) xs
position_map f p xs = position_from-zero p (map f xs) ∙ from_map f p 0 xs ∙ sym (position_from-zero (λ x. p (f x)) xs)

-- What is read at a place.
pub read_at : {A B : Type 0} (f : A → B) (xs : List A) (i : ℕ) (r : Option (Bor A)) → is_some r ≡ ltb i (length xs) → IfSome r (λ x. x.now ≡ get_or xs i x.now) → option_map (λ x. f x.now) r ≡ slice_get (map f xs) i
read_at f xs i None e h = sym (slice_get-map f xs i ∙ ap (option_map f) (slice_get_past xs i (search (rules, tests))))
read_at f xs i (Some x) e h = sym (slice_get-map f xs i ∙ ap (option_map f) (slice_get_read xs (length xs) i x.now refl (search (rules, tests)) h))

-- The last table is changed.
pub changed : (f : Table → Table) (ts : List code.Table) (i : ℕ) (t u : code.Table) → i + 1 ≡ length ts → t ≡ get_or ts i t → table_of u ≡ f (table_of t) → map table_of (slice_set ts i u) ≡ last_as f (map table_of ts) (slice_get (map table_of ts) (length (map table_of ts) - 1))
changed f ts i t u e h same =
    let all = map table_of ts in
    let at : length (map table_of ts) - 1 ≡ i = omega (arith, length-map ts table_of) in
    let last : slice_get all i ≡ Some (table_of t) = slice_get-map table_of ts i ∙ ap (option_map table_of) (slice_get_read ts (length ts) i t refl (omega arith) h) in
    map-set table_of ts i u
    ∙ ap (slice_set all i) same
    ∙ ap (λ k. slice_set all k (f (table_of t))) (sym at)
    ∙ ap (last_as f all) (sym last ∙ ap (slice_get all) (sym at))

-- What a part declares is declared of the same text.
same_text : (d : Decl) (n : Name) (r : Role) → (declared_by d n r).text ≡ d.text
same_text d n role.Plain = refl
same_text d n role.Title = refl
same_text d n (role.Declared declares.Table) = refl
same_text d n (role.Declared declares.Field) = refl
same_text d n (role.Declared declares.Key) = refl
same_text d n (role.Declared declares.Foreign) = refl
same_text d n (role.Declared declares.References) = refl
same_text d n (role.Declared declares.Check) = refl
same_text d n (role.Variable u) = refl
same_text d n (role.Table a) = refl
same_text d n (role.Attribute a) = refl

text_kept : (d : Decl) (ps : List Part) → (declared_from d ps).text ≡ d.text
unfolding declared_from
text_kept d [] = refl
text_kept d (p ∷ ps) = text_kept (declared_by d (name_of p) p.role) ps ∙ same_text d (name_of p) p.role

-- No part is left.
pub all_gone : (d : Decl) (ps : List Part) (i : ℕ) → length ps ≤ i → declared_from d (drop i ps) ≡ d
unfolding declared_from
all_gone d ps i h = ap (declared_from d) (drop_all i ps h)

-- Tables that were declared of a text, once all its parts are gone through.
pub all_declared : (text own : List ℕ) (ts : List Table) (ps : List Part) → record { text = own; tables = ts } ≡ declared_in text ps → record { text = text; tables = ts } ≡ declared_in text ps
all_declared text own ts ps e =
    let same : own ≡ text = ap (λ (d : Decl). d.text) e ∙ text_kept (record { text = text; tables = [] }) ps in
    ap (λ t. record { text = t; tables = ts }) (sym same) ∙ e
