-- What is marked when the links of a table are followed one by one.
use Rattle.std.proofs.Common.{◌≡◌, ℕ, zero, suc, ◌+◌, ◌<◌, Bool, true, false, cond, sum_by, ◌⊎◌, List, [], ◌∷◌, ◌++◌, length, get_or, set, replicate, sym, refl, ap, ◌∙◌, subst, inl, inr, ⊎_elim, arith, get_or-set_other, get_or-set_same}
use Rattle.std.proofs.lemmas.Bool.{cases_eq, false≢true}
use Rattle.std.proofs.lemmas.List.Sums.{sum_by-set}
use Rattle.circles.specs.declared.Link.{Link}
use Rattle.circles.specs.Ways.{In, Follows}
use Rattle.circles.specs.Visits.{Has, Step, Marked}

in_left : (l : Link) (xs ys : List Link) → In l xs → In l (xs ++ ys)
in_left l [] ys h = absurd h
in_left l (x ∷ xs) ys (inl e) = inl e
in_left l (x ∷ xs) ys (inr h) = inr (in_left l xs ys h)

in_last : (l : Link) (xs : List Link) → In l (xs ++ l ∷ [])
in_last l [] = inl refl
in_last l (x ∷ xs) = inr (in_last l xs)

in_parts : (l x : Link) (xs : List Link) → In l (xs ++ x ∷ []) → In l xs ⊎ (x ≡ l)
in_parts l x [] (inl e) = inr e
in_parts l x [] (inr h) = absurd h
in_parts l x (y ∷ xs) (inl e) = inl (inl e)
in_parts l x (y ∷ xs) (inr h) = ⊎_elim (λ i. inl (inr i)) (λ e. inr e) (in_parts l x xs h)

-- A new mark stands, earlier ones stay, and no other comes.
pub has_new : (marks : List Bool) (i : ℕ) → i < length marks → Has (set marks i true) i
has_new marks i h = get_or-set_same marks i true false h

pub has_kept : (marks : List Bool) (i t : ℕ) → i < length marks → Has marks t → Has (set marks i true) t
has_kept marks i t h has =
    ⊎_elim
    (λ e. subst (λ n. Has (set marks i true) n) (sym e) (has_new marks i h))
    (λ ne. get_or-set_other marks i t true false ne ∙ has)
    (cases_eq t i)

pub has_parts : (marks : List Bool) (i t : ℕ) → Has (set marks i true) t → Has marks t ⊎ (i ≡ t)
has_parts marks i t has =
    ⊎_elim (λ e. inr (sym e)) (λ ne. inl (sym (get_or-set_other marks i t true false ne) ∙ has)) (cases_eq t i)

-- Nothing is marked at first.
pub none_marked : (n t : ℕ) → Has (replicate n false) t → ⊥
none_marked zero t has = false≢true has
none_marked (suc n) zero has = false≢true has
none_marked (suc n) (suc t) has = none_marked n t has

-- How many tables are not marked: a new mark leaves one fewer.
abbrev open_one : Bool → ℕ
open_one marked = cond marked 0 1

abbrev pub free : List Bool → ℕ
free marks = sum_by open_one marks

pub free_set : (marks : List Bool) (i : ℕ) → i < length marks → get_or marks i false ≡ false → free (set marks i true) + 1 ≡ free marks
free_set marks i h e = omega (arith, sum_by-set open_one marks i true false h, ap open_one e)

-- With no link nothing new is marked.
pub marked_none : (tables a : ℕ) (marks : List Bool) → Marked tables [] a marks marks
marked_none tables a marks = record { kept = λ t h. h; more = λ t s. absurd s.1; only = λ t h. inl h }

step_more : (tables : ℕ) (links : List Link) (a t : ℕ) (l : Link) → Step tables links a t → Step tables (links ++ l ∷ []) a t
step_more tables links a t l s = (s.0, in_left s.0 links (l ∷ []) s.1, s.2, s.3)

step_parts : (tables : ℕ) (links : List Link) (a t : ℕ) (l : Link) → Step tables (links ++ l ∷ []) a t → Step tables links a t ⊎ (Follows tables a l × (l.to ≡ t))
step_parts tables links a t l s =
    ⊎_elim
    (λ i. inl (s.0, i, s.2, s.3))
    (λ e. inr (subst (λ x. Follows tables a x × (x.to ≡ t)) (sym e) (s.2, s.3)))
    (in_parts s.0 l links s.1)

-- A link that leads elsewhere marks nothing.
pub marked_past : (tables : ℕ) (links : List Link) (a : ℕ) (before after : List Bool) (l : Link) → Marked tables links a before after → (Follows tables a l → ⊥) → Marked tables (links ++ l ∷ []) a before after
marked_past tables links a before after l m stops =
    record {
      kept = m.kept;
      more = λ t s. ⊎_elim (λ old. m.more t old) (λ new. absurd (stops new.0)) (step_parts tables links a t l s);
      only = λ t h. ⊎_elim (λ old. inl old) (λ s. inr (step_more tables links a t l s)) (m.only t h);
    }

-- A link that leads on marks its end.
pub marked_more : (tables : ℕ) (links : List Link) (a : ℕ) (before after : List Bool) (l : Link) → Marked tables links a before after → Follows tables a l → l.to < length after → Marked tables (links ++ l ∷ []) a before (set after l.to true)
marked_more tables links a before after l m goes fits =
    record {
      kept = λ t h. has_kept after l.to t fits (m.kept t h);
      more = λ t s. ⊎_elim
          (λ old. has_kept after l.to t fits (m.more t old))
          (λ new. subst (λ n. Has (set after l.to true) n) new.1 (has_new after l.to fits))
          (step_parts tables links a t l s);
      only = λ t h. ⊎_elim
          (λ old. ⊎_elim (λ first. inl first) (λ s. inr (step_more tables links a t l s)) (m.only t old))
          (λ e. inr (l, in_last l links, goes, e))
          (has_parts after l.to t h);
    }
