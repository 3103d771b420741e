-- Missing values, truths, and functions changed at one place. Assumes nothing.
use Rattle.std.proofs.Common.{◌≡◌, ℕ, suc, ◌<◌, Bool, true, false, cond, ◌&&◌, T, eqb, ◌↔◌, List, [], ◌∷◌, sym, refl, ap, ◌∙◌, subst, subst₂, arith, tests, eq-eqb}
use mathlib.Core.Path.{fun_ext}
use mathlib.Core.Option.{Option, none, some}
use Rattle.meaning.specs.Values.{bind, put}

pub some_inj : {A : Type 0} {a b : A} → some a ≡ some b → a ≡ b
some_inj p = cc

pub none_some : {A : Type 0} {a : A} → none ≡ some a → ⊥
none_some p = let z : ◌≡◌ {A = ℕ} 0 1 = cc in omega arith

pub nil_cons : {A : Type 0} {x : A} {xs : List A} → [] ≡ x ∷ xs → ⊥
nil_cons p = let z : ◌≡◌ {A = ℕ} 0 1 = cc in omega arith

pub cons_nil : {A : Type 0} {x : A} {xs : List A} → x ∷ xs ≡ [] → ⊥
cons_nil p = nil_cons (sym p)

pub cons_tail : {A : Type 0} {x y : A} {xs ys : List A} → x ∷ xs ≡ y ∷ ys → xs ≡ ys
cons_tail p = cc

-- f and g agree on the first n numbers, which count from 1
abbrev pub Below : {A : Type 0} → ℕ → (ℕ → A) → (ℕ → A) → Type 0
Below n f g = (m : ℕ) → m < n → f (suc m) ≡ g (suc m)

module _ {A : Type 0} where
  pub put_same : (f : ℕ → A) (x : ℕ) (v : A) → put f x v x ≡ v
  put_same f x v = rw (eq-eqb x x refl)

  pub put_other : (f : ℕ → A) (x y : ℕ) (v : A) → (y ≡ x → ⊥) → put f x v y ≡ f y
  put_other f x y v ne = grind (arith, tests)

  -- set twice, and set to what it is
  pub put_twice : (f : ℕ → A) (x : ℕ) (v w : A) → put (put f x v) x w ≡ put f x w
  put_twice f x v w = fun_ext (λ y. grind (arith, tests))

  pub put_own : (f : ℕ → A) (x : ℕ) → put f x (f x) ≡ f
  put_own f x = fun_ext (λ y. grind (arith, tests))

  pub below_new : (n : ℕ) (f : ℕ → A) (v : A) → Below n f (put f (suc n) v)
  below_new n f v m h = grind (arith, tests)

  pub below_put : (n : ℕ) (f g : ℕ → A) → Below n f g → Below (suc n) (put f (suc n) (g (suc n))) g
  below_put n f g b m h = grind (arith, tests)

  pub below_less : (n : ℕ) (f g : ℕ → A) (v : A) → Below (suc n) (put f (suc n) v) g → Below n f g
  below_less n f g v b m h = grind (arith, tests)

  pub below_at : (n : ℕ) (f g : ℕ → A) (v : A) → Below (suc n) (put f (suc n) v) g → g (suc n) ≡ v
  below_at n f g v b = grind (arith, tests)

pub put_all : {A : Type 0} (P : A → Type 0) (f : ℕ → A) (x : ℕ) (v : A) → P v → ((y : ℕ) → P (f y)) → (y : ℕ) → P (put f x v y)
put_all P f x v p q y = go (eqb y x)
  where
    go : (b : Bool) → P (cond b v (f y))
    go true = p
    go false = q y

cond_map : {A B : Type 0} (h : A → B) (b : Bool) (x y : A) → h (cond b x y) ≡ cond b (h x) (h y)
cond_map h true x y = refl
cond_map h false x y = refl

pub put_map : {A B : Type 0} (h : A → B) (f : ℕ → A) (x : ℕ) (v : A) → (λ y. h (put f x v y)) ≡ put (λ y. h (f y)) x (h v)
put_map h f x v = fun_ext (λ y. cond_map h (eqb y x) v (f y))

-- a value by one name or another, and what is said of it
pub some_iff : {A : Type 0} (o o' : Option A) (P P' : A → Type 0) → o ≡ o' → ((a : A) → P a ↔ P' a) → ((a : A) × (o ≡ some a) × P a) ↔ ((a : A) × (o' ≡ some a) × P' a)
some_iff o o' P P' e f = (λ q. (q.0, sym e ∙ q.1, (f q.0).0 q.2), λ q. (q.0, e ∙ q.1, (f q.0).1 q.2))

-- a value made of a value that there is
pub bind_some : {A B : Type 0} (o : Option A) (f : A → Option B) (b : B) → bind o f ≡ some b → (a : A) × (o ≡ some a) × (f a ≡ some b)
bind_some none f b e = absurd (none_some e)
bind_some (some a) f b e = (a, refl, e)

pub false_true : false ≡ true → ⊥
false_true q = subst T (sym q) tt

-- a value that is there
pub one_iff : {A : Type 0} (a : A) (P : A → Type 0) → ((z : A) × (some a ≡ some z) × P z) ↔ P a
one_iff a P = (λ q. subst P (sym (some_inj q.1)) q.2, λ p. (a, refl, p))

pub and_iff : (a b : Bool) → ((a && b) ≡ true) ↔ ((a ≡ true) × (b ≡ true))
and_iff true b = (λ q. (refl, q), λ q. q.1)
and_iff false b = (λ q. absurd (false_true q), λ q. q.0)

-- a value made of a value, and what is said of it
pub made_iff : {A B : Type 0} (o : Option A) (f : A → B) (P : B → Type 0) → ((b : B) × (bind o (λ a. some (f a)) ≡ some b) × P b) ↔ ((a : A) × (o ≡ some a) × P (f a))
made_iff none f P = (λ q. absurd (none_some q.1), λ q. absurd (none_some q.1))
made_iff (some a) f P = (λ q. (a, refl, subst P (sym (some_inj q.1)) q.2), λ q. (f q.0, ap (λ z. some (f z)) (some_inj q.1), q.2))

pub subst_iff : {A : Type 0} (P : A → Type 0) {a b : A} → a ≡ b → P a ↔ P b
subst_iff P e = (subst P e, subst P (sym e))

pub subst₂-iff : {A B : Type 0} (P : A → B → Type 0) {a a' : A} {b b' : B} → a ≡ a' → b ≡ b' → P a b ↔ P a' b'
subst₂-iff P e f = (subst₂ P e f, subst₂ P (sym e) (sym f))
