-- Where no table waits any more, the marked tables are those that the start leads to.
use Rattle.std.proofs.Common.{◌≡◌, ℕ, ◌<◌, Bool, true, false, List, [], ◌∷◌, ◌++◌, length, set, replicate, sym, refl, subst, ⊎_elim}
use Rattle.circles.specs.declared.Link.{Link}
use Rattle.circles.specs.Ways.{Follows, Way, Leads}
use Rattle.circles.specs.Visits.{Has, Step, Marked}
use Rattle.circles.proofs.Marks.{has_new, has_kept, has_parts, none_marked}

-- Each reached table is one that the start leads to; the links of each table taken up were followed.
pub record Visited (tables : ℕ) (links : List Link) (start : ℕ) (reached taken : List Bool) : Type 0 where
  pub sound : (t : ℕ) → Has reached t → Leads tables links start t
  pub followed : (t u : ℕ) → Has taken t → Step tables links t u → Has reached u
  pub begun : Has taken start

-- A way goes on by one link.
way_on : (tables : ℕ) (links : List Link) (a : ℕ) (ls : List Link) (b c : ℕ) (s : Step tables links b c) → Way tables links a ls b → Way tables links a (ls ++ s.0 ∷ []) c
way_on tables links a [] b c s e = (s.1, subst (λ n. Follows tables n s.0) (sym e) s.2, s.3)
way_on tables links a (l ∷ ls) b c s w = (w.0, w.1, way_on tables links l.to ls b c s w.2)

leads_on : (tables : ℕ) (links : List Link) (a b c : ℕ) → Leads tables links a b → Step tables links b c → Leads tables links a c
leads_on tables links a b c w s = (w.0, w.1 ++ s.0 ∷ [], way_on tables links a (w.0 ∷ w.1) b c s w.2)

leads_first : (tables : ℕ) (links : List Link) (a b : ℕ) → Step tables links a b → Leads tables links a b
leads_first tables links a b s = (s.0, [], (s.1, s.2, s.3))

-- The start is taken up first.
pub visited_start : (tables : ℕ) (links : List Link) (start n : ℕ) (reached taken : List Bool) → start < length (replicate n false) → Marked tables links start (replicate n false) reached → taken ≡ set (replicate n false) start true → Visited tables links start reached taken
visited_start tables links start n reached taken fits m takes = rw takes (
    record {
      sound = λ t h. ⊎_elim (λ old. absurd (none_marked n t old)) (λ s. leads_first tables links start t s) (m.only t h);
      followed = λ t u h s. ⊎_elim
          (λ old. absurd (none_marked n t old))
          (λ e. m.more u (subst (λ x. Step tables links x u) (sym e) s))
          (has_parts (replicate n false) start t h);
      begun = has_new (replicate n false) start fits;
    })

-- A table that waits is taken up.
pub visited_more : (tables : ℕ) (links : List Link) (start : ℕ) (reached taken : List Bool) (t : ℕ) (after next : List Bool) → t < length taken → Visited tables links start reached taken → Has reached t → Marked tables links t reached after → next ≡ set taken t true → Visited tables links start after next
visited_more tables links start reached taken t after next fits v has m takes = rw takes (
    record {
      sound = λ u h. ⊎_elim (λ old. v.sound u old) (λ s. leads_on tables links start t u (v.sound t has) s) (m.only u h);
      followed = λ x u h s. ⊎_elim
          (λ old. m.kept u (v.followed x u old s))
          (λ e. m.more u (subst (λ y. Step tables links y u) (sym e) s))
          (has_parts taken t x h);
      begun = has_kept taken t start fits v.begun;
    })

-- No way leaves what is reached.
stays : (tables : ℕ) (links : List Link) (start : ℕ) (reached taken : List Bool) → Visited tables links start reached taken → ((t : ℕ) → Has reached t → Has taken t) → (a : ℕ) (ls : List Link) (b : ℕ) → Has reached a → Way tables links a ls b → Has reached b
stays tables links start reached taken v done a [] b has e = subst (λ n. Has reached n) e has
stays tables links start reached taken v done a (l ∷ ls) b has w =
    stays tables links start reached taken v done l.to ls b (v.followed a l.to (done a has) (l, w.0, w.1, refl)) w.2

-- Where none waits, each table that the start leads to is reached.
pub all_reached : (tables : ℕ) (links : List Link) (start : ℕ) (reached taken : List Bool) → Visited tables links start reached taken → ((t : ℕ) → Has reached t → Has taken t) → (b : ℕ) → Leads tables links start b → Has reached b
all_reached tables links start reached taken v done b way =
    stays tables links start reached taken v done way.0.to way.1 b (v.followed start way.0.to v.begun (way.0, way.2.0, way.2.1, refl)) way.2.2
