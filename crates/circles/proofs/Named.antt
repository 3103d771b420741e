-- What an answer says of the table that it names.
use Rattle.std.proofs.Common.{◌≡◌, ℕ, List, Some, None, Option, refl, ap, subst, ⊎_elim}
use Rattle.std.proofs.lemmas.Bool.{cases_order}
use Rattle.circles.specs.declared.Link.{Link}
use Rattle.circles.specs.Ways.{IsTable}
use Rattle.circles.specs.Circles.{OnCircle, NoCircle, First, Answers}

-- What is on a circle is a table.
pub circle_table : (tables : ℕ) (links : List Link) (t : ℕ) → OnCircle tables links t → IsTable tables t
circle_table tables links t w = subst (λ n. IsTable tables n) w.2.1.0 w.2.1.1

-- The first table on a circle is the one that is named.
pub first_named : (tables : ℕ) (links : List Link) (r : Option ℕ) → Answers tables links r → (t : ℕ) → First tables links t → r ≡ Some t
first_named tables links None a t f = absurd (a t f.0)
first_named tables links (Some u) a t f =
    ⊎_elim
    (λ e. ap (λ n. Some n) e)
    (λ ne. ⊎_elim (λ less. absurd (f.1 u less a.0)) (λ more. absurd (a.1 t more f.0)) ne)
    (cases_order u t)

-- The table that is named is itself on a circle.
pub named_on : (tables : ℕ) (links : List Link) (r : Option ℕ) → Answers tables links r → (t : ℕ) → r ≡ Some t → OnCircle tables links t
named_on tables links r a t e = let told : Answers tables links (Some t) = subst (λ o. Answers tables links o) e a in told.0

-- Where no table is on a circle, none is named.
pub none_named : (tables : ℕ) (links : List Link) (r : Option ℕ) → Answers tables links r → NoCircle tables links → r ≡ None
none_named tables links None a free = refl
none_named tables links (Some t) a free = absurd (free t a.0)
