-- Members of lists, tests over lists, and numbers counted from 1. Assumes nothing.
use Rattle.std.proofs.Common.{◌≡◌, ℕ, zero, suc, ◌+◌, ◌<◌, ◌≤◌, Bool, true, false, cond, ◌||◌, eqb, ◌⊎◌, ◌↔◌, List, [], ◌∷◌, ◌++◌, map, length, get_or, sym, refl, ap, ◌∙◌, subst, inl, inr, arith, eq-eqb, eqb-true}
use mathlib.Core.Logic.Iff
use mathlib.Core.Option.{some}
use Rattle.meaning.specs.Values.{nth, any, all}
use Rattle.meaning.specs.Schema.{by_number, places, up_from}
use Rattle.meaning.proofs.Basics.{some_inj, none_some, false_true, and_iff}

-- ---- members

-- a is an element
abbrev pub In : {A : Type 0} → A → List A → Type 0
In a [] = ⊥
In a (x ∷ xs) = (x ≡ a) ⊎ In a xs

-- P of every element
abbrev pub Every : {A : Type 0} → (A → Type 0) → List A → Type 0
Every P [] = Unit {0}
Every P (a ∷ zs) = P a × Every P zs

pub every_iff : {A : Type 0} (P Q : A → Type 0) → ((a : A) → P a ↔ Q a) → (xs : List A) → Every P xs ↔ Every Q xs
every_iff P Q f [] = (λ h. tt, λ h. tt)
every_iff P Q f (x ∷ xs) = Iff.and (f x) (every_iff P Q f xs)

pub all_every : {A : Type 0} (p : A → Bool) (xs : List A) → (all p xs ≡ true) ↔ Every (λ a. p a ≡ true) xs
all_every p [] = (λ q. tt, λ q. refl)
all_every p (x ∷ xs) = Iff.trans (and_iff (p x) (all p xs)) (Iff.and (λ q. q, λ q. q) (all_every p xs))

module _ {A : Type 0} where
  pub all_in : (p : A → Bool) (xs : List A) → (all p xs ≡ true) ↔ ((a : A) → In a xs → p a ≡ true)
  all_in p [] = (λ q a h. absurd h, λ q. refl)
  all_in p (x ∷ xs) = (
    λ q. let r = (and_iff (p x) (all p xs)).0 q in
        λ a h. elim h [ inl e ↦ subst (λ y. p y ≡ true) e r.0 | inr i ↦ (all_in p xs).0 r.1 a i ],
    λ f. (and_iff (p x) (all p xs)).1 (f x (inl refl), (all_in p xs).1 (λ a h. f a (inr h))),
  )

  pub every_in : (P : A → Type 0) (xs : List A) → Every P xs ↔ ((a : A) → In a xs → P a)
  every_in P [] = (λ q a h. absurd h, λ q. tt)
  every_in P (x ∷ xs) = (
    λ q a h. elim h [ inl e ↦ subst P e q.0 | inr i ↦ (every_in P xs).0 q.1 a i ],
    λ f. (f x (inl refl), (every_in P xs).1 (λ a h. f a (inr h))),
  )

  pub any_in : (p : A → Bool) (xs : List A) → (any p xs ≡ true) ↔ ((a : A) × In a xs × (p a ≡ true))
  any_in p [] = (λ q. absurd (false_true q), λ q. absurd q.1)
  any_in p (x ∷ xs) = go (p x) refl (any_in p xs)
    where
      go : (b : Bool) → p x ≡ b → (any p xs ≡ true) ↔ ((a : A) × In a xs × (p a ≡ true)) → ((b || any p xs) ≡ true) ↔ ((a : A) × In a (x ∷ xs) × (p a ≡ true))
      go true e rec = (λ q. (x, inl refl, e), λ q. refl)
      go false e rec = (
        λ q. let r = rec.0 q in (r.0, inr r.1, r.2),
        λ q. elim q.1 [ inl i ↦ absurd (false_true (sym e ∙ ap p i ∙ q.2)) | inr i ↦ rec.1 (q.0, i, q.2) ],
      )

  pub in_left : (a : A) (xs ys : List A) → In a xs → In a (xs ++ ys)
  in_left a [] ys h = absurd h
  in_left a (x ∷ xs) ys (inl e) = inl e
  in_left a (x ∷ xs) ys (inr i) = inr (in_left a xs ys i)

  pub in_right : (a : A) (xs ys : List A) → In a ys → In a (xs ++ ys)
  in_right a [] ys h = h
  in_right a (x ∷ xs) ys h = inr (in_right a xs ys h)

  -- the numbers of what p picks
  pub in_places : (p : A → Bool) (d : A) (xs : List A) (m j : ℕ) → In j (places p m xs) ↔ ((n : ℕ) × (j ≡ m + n) × (n < length xs) × (p (get_or xs n d) ≡ true))
  in_places p d [] m j = (λ h. absurd h, λ q. (absurd (omega (arith, q.2))))
  in_places p d (x ∷ xs) m j = go (p x) refl (in_places p d xs (suc m) j)
    where
      Later : Type 0
      Later = (n : ℕ) × (j ≡ suc m + n) × (n < length xs) × (p (get_or xs n d) ≡ true)

      up : Later → (n : ℕ) × (j ≡ m + n) × (n < length (x ∷ xs)) × (p (get_or (x ∷ xs) n d) ≡ true)
      up q = (suc q.0, omega (arith, q.1), omega (arith, q.2), q.3)

      down : (n : ℕ) → j ≡ m + n → n < length (x ∷ xs) → p (get_or (x ∷ xs) n d) ≡ true → ((j ≡ m) × (p x ≡ true)) ⊎ Later
      down zero e l q = inl (omega arith, q)
      down (suc n) e l q = inr (n, omega arith, omega arith, q)

      go : (b : Bool) → p x ≡ b → In j (places p (suc m) xs) ↔ Later → In j (cond b (m ∷ places p (suc m) xs) (places p (suc m) xs)) ↔ ((n : ℕ) × (j ≡ m + n) × (n < length (x ∷ xs)) × (p (get_or (x ∷ xs) n d) ≡ true))
      go true e rec = (
        λ h. elim h [ inl i ↦ (0, omega (arith, i), omega arith, e) | inr i ↦ up (rec.0 i) ],
        λ q. elim (down q.0 q.1 q.2 q.3) [ inl z ↦ inl (sym z.0) | inr z ↦ inr (rec.1 z) ],
      )
      go false e rec = (
        λ h. up (rec.0 h),
        λ q. elim (down q.0 q.1 q.2 q.3) [ inl z ↦ absurd (false_true (sym e ∙ z.1)) | inr z ↦ rec.1 z ],
      )

-- a number of an element, counted from 1
abbrev pub Numbered : {A : Type 0} → List A → ℕ → Type 0
Numbered xs zero = ⊥
Numbered xs (suc n) = n < length xs

module _ {A : Type 0} (p : A → Bool) (d : A) (xs : List A) where
  pub place_iff : (n : ℕ) → In n (places p 1 xs) ↔ (Numbered xs n × (p (by_number d xs n) ≡ true))
  place_iff zero = (λ i. (let q = (in_places p d xs 1 0).0 i in (absurd (omega (arith, q.1)))), λ q. absurd q.0)
  place_iff (suc n) = (λ i. go ((in_places p d xs 1 (suc n)).0 i), λ q. (in_places p d xs 1 (suc n)).1 (n, omega arith, q.0, q.1))
    where
      go : ((m : ℕ) × (suc n ≡ 1 + m) × (m < length xs) × (p (get_or xs m d) ≡ true)) → (n < length xs) × (p (get_or xs n d) ≡ true)
      go q = let e : q.0 ≡ n = omega (arith, q.1) in subst (λ m. (m < length xs) × (p (get_or xs m d) ≡ true)) e (q.2, q.3)

pub in_map : {A B : Type 0} (f : A → B) (a : A) (xs : List A) → In a xs → In (f a) (map f xs)
in_map f a [] h = absurd h
in_map f a (x ∷ xs) (inl e) = inl (ap f e)
in_map f a (x ∷ xs) (inr i) = inr (in_map f a xs i)

-- ---- elements by number

pub nth_below : {A : Type 0} (xs : List A) (t : ℕ) (a : A) → nth xs t ≡ some a → t < length xs
nth_below [] t a e = absurd (none_some e)
nth_below (x ∷ xs) zero a e = omega arith
nth_below (x ∷ xs) (suc t) a e = let h : t < length xs = nth_below xs t a e in omega arith

pub every_below : {A : Type 0} (P : ℕ → Type 0) (m : ℕ) (xs : List A) → Every P (up_from m xs) → (t : ℕ) → m ≤ t → t < m + length xs → P t
every_below P m [] h t lo hi = absurd (omega arith)
every_below P m (x ∷ xs) h t lo hi = go (eqb t m) refl (every_below P (suc m) xs h.1 t)
  where
    go : (b : Bool) → eqb t m ≡ b → (suc m ≤ t → t < suc m + length xs → P t) → P t
    go true e rec = subst P (sym (eqb-true t m e)) h.0
    go false e rec =
        let ne : ¬ (t ≡ m) = (λ q. false_true (sym e ∙ ap (λ z. eqb z m) q ∙ eq-eqb m m refl)) in
        rec (omega arith) (omega arith)

pub below_every : {A : Type 0} (P : ℕ → Type 0) (m : ℕ) (xs : List A) → ((t : ℕ) → m ≤ t → t < m + length xs → P t) → Every P (up_from m xs)
below_every P m [] h = tt
below_every P m (x ∷ xs) h = (h m (omega arith) (omega arith), below_every P (suc m) xs (λ t lo hi. h t (omega arith) (omega arith)))

pub nth_get_d : {A : Type 0} (xs : List A) (n : ℕ) (a d : A) → nth xs n ≡ some a → get_or xs n d ≡ a
nth_get_d [] n a d e = absurd (none_some e)
nth_get_d (x ∷ xs) zero a d e = some_inj e
nth_get_d (x ∷ xs) (suc n) a d e = nth_get_d xs n a d e
