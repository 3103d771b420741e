-- Loops over the elements of a list: one element on, an early exit, and the end. Assumes nothing.
use Rattle.std.proofs.Common.{◌≡◌, ℕ, suc, ◌+◌, ◌<◌, ◌≤◌, Bool, true, false, cond, not, ◌&&◌, ◌||◌, List, [], ◌∷◌, ◌++◌, map, length, get_or, take, drop, ℤ, sym, refl, ap, ◌∙◌, ap₂, append_assoc, append-nil, add-one, arith}
use mathlib.Core.Option.{Option, none, some}
use Rattle.std.proofs.lemmas.Grind.{common_steps}
use Rattle.std.proofs.Math.Bool.{or_assoc}
use Rattle.std.proofs.lemmas.List.{at_drop_more, at_drop_all, take_more, take_all}
use Rattle.meaning.specs.Values.{bind, is_some, any, all, compares, eq_z}
use Rattle.meaning.specs.Schema.{Schema, key_of, ref_at, check_at, places, up_from}
use Rattle.meaning.specs.Evaluation.{Row, attr}
use Rattle.meaning.specs.Tables.{Table, among, in_order, has, distinct, finds, keeps}
use Rattle.meaning.specs.Writes.{kept, dropped, changed, holds_one}
use Rattle.meaning.specs.Records.{Record}
use Rattle.meaning.specs.Listing.{line_text, lines_text}
use Rattle.meaning.specs.Folds.{sofar, held_sofar, told, chosen, unchosen, each}
use Rattle.meaning.proofs.Basics.{false_true}

-- ---- tests of all and of some

-- element i is a
module _ {A : Type 0} (p : A → Bool) (xs : List A) (i : ℕ) (d : A) (lt : i < length xs) where
  pub all_next : p (get_or xs i d) ≡ true → all p (drop i xs) ≡ all p (drop (i + 1) xs)
  all_next e = at_drop_more (all p) xs i d lt ∙ ap (λ b. b && all p (drop (i + 1) xs)) e

  pub all_stop : p (get_or xs i d) ≡ false → all p (drop i xs) ≡ false
  all_stop e = at_drop_more (all p) xs i d lt ∙ ap (λ b. b && all p (drop (i + 1) xs)) e

  pub any_next : p (get_or xs i d) ≡ false → any p (drop i xs) ≡ any p (drop (i + 1) xs)
  any_next e = at_drop_more (any p) xs i d lt ∙ ap (λ b. b || any p (drop (i + 1) xs)) e

  pub any_stop : p (get_or xs i d) ≡ true → any p (drop i xs) ≡ true
  any_stop e = at_drop_more (any p) xs i d lt ∙ ap (λ b. b || any p (drop (i + 1) xs)) e

pub all_end : {A : Type 0} (p : A → Bool) (xs : List A) (i : ℕ) → length xs ≤ i → all p (drop i xs) ≡ true
all_end p xs i h = at_drop_all (all p) xs i h

pub any_end : {A : Type 0} (p : A → Bool) (xs : List A) (i : ℕ) → length xs ≤ i → any p (drop i xs) ≡ false
any_end p xs i h = at_drop_all (any p) xs i h

-- ---- a value among rows; references that find their keys; checks

module _ (T : Table) (i : ℕ) (lt : i < length T) where
  pub has_next : (k : ℕ) (z : ℤ) → eq_z (attr (get_or T i []) k) z ≡ false → has k (drop i T) z ≡ has k (drop (i + 1) T) z
  has_next k z e = any_next (λ r. eq_z (attr r k) z) T i [] lt e

  pub has_stop : (k : ℕ) (z : ℤ) → eq_z (attr (get_or T i []) k) z ≡ true → has k (drop i T) z ≡ true
  has_stop k z e = any_stop (λ r. eq_z (attr r k) z) T i [] lt e

  module _ (S : Schema) (n : ℕ) where
    pub finds_next : (U : Table) → has (key_of S (ref_at S n).to) U (attr (get_or T i []) (ref_at S n).from) ≡ true → finds S n (drop i T) U ≡ finds S n (drop (i + 1) T) U
    finds_next U e = all_next (λ r. has (key_of S (ref_at S n).to) U (attr r (ref_at S n).from)) T i [] lt e

    pub finds_stop : (U : Table) → has (key_of S (ref_at S n).to) U (attr (get_or T i []) (ref_at S n).from) ≡ false → finds S n (drop i T) U ≡ false
    finds_stop U e = all_stop (λ r. has (key_of S (ref_at S n).to) U (attr r (ref_at S n).from)) T i [] lt e

    pub keeps_next : compares (check_at S n).order (attr (get_or T i []) (check_at S n).at) (check_at S n).bound ≡ true → keeps S n (drop i T) ≡ keeps S n (drop (i + 1) T)
    keeps_next e = all_next (λ r. compares (check_at S n).order (attr r (check_at S n).at) (check_at S n).bound) T i [] lt e

    pub keeps_stop : compares (check_at S n).order (attr (get_or T i []) (check_at S n).at) (check_at S n).bound ≡ false → keeps S n (drop i T) ≡ false
    keeps_stop e = all_stop (λ r. compares (check_at S n).order (attr r (check_at S n).at) (check_at S n).bound) T i [] lt e

-- ---- distinct keys: each row is looked for among those behind it

module _ (k : ℕ) (T : Table) (i : ℕ) where
  pub distinct_next : i < length T → has k (drop (i + 1) T) (attr (get_or T i []) k) ≡ false → distinct k (drop i T) ≡ distinct k (drop (i + 1) T)
  distinct_next lt e = at_drop_more (distinct k) T i [] lt ∙ ap (λ b. not b && distinct k (drop (i + 1) T)) e

  pub distinct_stop : i < length T → has k (drop (i + 1) T) (attr (get_or T i []) k) ≡ true → distinct k (drop i T) ≡ false
  distinct_stop lt e = at_drop_more (distinct k) T i [] lt ∙ ap (λ b. not b && distinct k (drop (i + 1) T)) e

  pub distinct_end : length T ≤ i → distinct k (drop i T) ≡ true
  distinct_end h = at_drop_all (distinct k) T i h

-- ---- rows kept, and rows dropped

pub sofar_start : {A : Type 0} (k : Option (List A)) → k ≡ sofar [] k
sofar_start none = refl
sofar_start (some T) = refl

module _ (c : Row → Option Bool) (T : Table) (i : ℕ) (done : Table) where
  kept_at : (o : Option Bool) → i < length T → c (get_or T i []) ≡ o → sofar done (kept c (drop i T)) ≡ sofar done (bind o (λ b. bind (kept c (drop (i + 1) T)) (λ X. some (cond b (get_or T i [] ∷ X) X))))
  kept_at o lt e = at_drop_more (λ X. sofar done (kept c X)) T i [] lt ∙ ap (λ o. sofar done (bind o (λ b. bind (kept c (drop (i + 1) T)) (λ X. some (cond b (get_or T i [] ∷ X) X))))) e

  -- a row without a truth: the whole has no value, whatever comes behind it
  pub kept_stuck : i < length T → c (get_or T i []) ≡ none → sofar done (kept c (drop i T)) ≡ none
  kept_stuck lt e = kept_at none lt e

  pub kept_next : (b : Bool) → i < length T → c (get_or T i []) ≡ some b → sofar done (kept c (drop i T)) ≡ sofar (done ++ cond b (get_or T i [] ∷ []) []) (kept c (drop (i + 1) T))
  kept_next b lt e = kept_at (some b) lt e ∙ glue b (kept c (drop (i + 1) T))
    where
      glue : (b : Bool) (k : Option Table) → sofar done (bind k (λ X. some (cond b (get_or T i [] ∷ X) X))) ≡ sofar (done ++ cond b (get_or T i [] ∷ []) []) k
      glue b none = refl
      glue true (some X) = ap some (sym (append_assoc done (get_or T i [] ∷ []) X))
      glue false (some X) = ap (λ d. some (d ++ X)) (sym (append-nil done))

  pub kept_end : length T ≤ i → sofar done (kept c (drop i T)) ≡ some done
  kept_end h = at_drop_all (λ X. sofar done (kept c X)) T i h ∙ ap some (append-nil done)

-- the negation that `dropped` works with
pub turned_some : (o : Option Bool) (b : Bool) → o ≡ some b → bind o (λ b. some (not b)) ≡ some (not b)
turned_some o b e = ap (λ o. bind o (λ b. some (not b))) e

pub turned_none : (o : Option Bool) → o ≡ none → bind o (λ b. some (not b)) ≡ none
turned_none o e = ap (λ o. bind o (λ b. some (not b))) e

-- ---- clauses that have a value for each row, or not

module _ (c : Row → Option Bool) where
  pub untold_kept : (T : Table) → told c T ≡ false → kept c T ≡ none
  untold_kept [] e = absurd (false_true (sym e))
  untold_kept (r ∷ rs) e = go (c r) (untold_kept rs) e
    where
      go : (o : Option Bool) → (told c rs ≡ false → kept c rs ≡ none) → (is_some o && told c rs) ≡ false → bind o (λ b. bind (kept c rs) (λ X. some (cond b (r ∷ X) X))) ≡ none
      go none rec e = refl
      go (some b) rec e = ap (λ k. bind k (λ X. some (cond b (r ∷ X) X))) (rec e)

  pub untold_dropped : (T : Table) → told c T ≡ false → dropped c T ≡ none
  untold_dropped [] e = absurd (false_true (sym e))
  untold_dropped (r ∷ rs) e = go (c r) (untold_dropped rs) e
    where
      go : (o : Option Bool) → (told c rs ≡ false → dropped c rs ≡ none) → (is_some o && told c rs) ≡ false → bind (bind o (λ b. some (not b))) (λ b. bind (dropped c rs) (λ X. some (cond b (r ∷ X) X))) ≡ none
      go none rec e = refl
      go (some b) rec e = ap (λ k. bind k (λ X. some (cond (not b) (r ∷ X) X))) (rec e)

  pub told_dropped : (T : Table) → told c T ≡ true → dropped c T ≡ some (unchosen c T)
  told_dropped [] e = refl
  told_dropped (r ∷ rs) e = go (c r) (told_dropped rs) e
    where
      over : (b : Bool) → some (cond (not b) (r ∷ unchosen c rs) (unchosen c rs)) ≡ some (cond b (unchosen c rs) (r ∷ unchosen c rs))
      over true = refl
      over false = refl

      go : (o : Option Bool) → (told c rs ≡ true → dropped c rs ≡ some (unchosen c rs)) → (is_some o && told c rs) ≡ true →
          bind (bind o (λ b. some (not b))) (λ b. bind (dropped c rs) (λ X. some (cond b (r ∷ X) X))) ≡ some (cond (chosen o) (unchosen c rs) (r ∷ unchosen c rs))
      go none rec e = absurd (false_true e)
      go (some b) rec e = ap (λ k. bind k (λ X. some (cond (not b) (r ∷ X) X))) (rec e) ∙ over b

-- ---- the chosen elements taken out in place: the first i stay, and of the others those that are not chosen

module _ {A : Type 0} (c : A → Option Bool) (xs : List A) (i : ℕ) where
  unchosen_at : (d : A) (b : Bool) → i < length xs → chosen (c (get_or xs i d)) ≡ b → unchosen c (drop i xs) ≡ cond b (unchosen c (drop (i + 1) xs)) (get_or xs i d ∷ unchosen c (drop (i + 1) xs))
  unchosen_at d b lt e = at_drop_more (unchosen c) xs i d lt ∙ ap (λ b. cond b (unchosen c (drop (i + 1) xs)) (get_or xs i d ∷ unchosen c (drop (i + 1) xs))) e

  -- element i is not chosen, and stays
  pub unchosen_stays : (d : A) → i < length xs → chosen (c (get_or xs i d)) ≡ false → take i xs ++ unchosen c (drop i xs) ≡ take (i + 1) xs ++ unchosen c (drop (i + 1) xs)
  unchosen_stays d lt e =
      ap (λ ys. take i xs ++ ys) (unchosen_at d false lt e) ∙ sym (append_assoc (take i xs) (get_or xs i d ∷ []) (unchosen c (drop (i + 1) xs)))
      ∙ ap (λ ys. ys ++ unchosen c (drop (i + 1) xs)) (sym (take_more xs i d lt))

  -- element i is chosen, and taken out: those that stay are of the list without it
  pub unchosen_goes : (d : A) → i < length xs → chosen (c (get_or xs i d)) ≡ true →
      take i xs ++ unchosen c (drop i xs) ≡ take i (take i xs ++ drop (i + 1) xs) ++ unchosen c (drop i (take i xs ++ drop (i + 1) xs))
  unchosen_goes d lt e =
      ap (λ ys. take i xs ++ ys) (unchosen_at d true lt e)
      ∙ ap₂ (λ ys zs. ys ++ unchosen c zs) (sym (front xs i (drop (i + 1) xs) lt)) (sym (back xs i (drop (i + 1) xs) lt))
    where
      front : (xs : List A) (i : ℕ) (ys : List A) → i < length xs → take i (take i xs ++ ys) ≡ take i xs
      front xs i ys h = grind (arith, common_steps)

      back : (xs : List A) (i : ℕ) (ys : List A) → i < length xs → drop i (take i xs ++ ys) ≡ ys
      back xs i ys h = grind (arith, common_steps)

  -- there is none left
  pub unchosen_end : length xs ≤ i → take i xs ++ unchosen c (drop i xs) ≡ xs
  unchosen_end h = ap₂ (λ ys zs. ys ++ zs) (take_all i xs h) (at_drop_all (unchosen c) xs i h) ∙ append-nil xs

-- through a reading of the elements
pub unchosen_map : {A B : Type 0} (f : A → B) (c : B → Option Bool) (xs : List A) → map f (unchosen (λ x. c (f x)) xs) ≡ unchosen c (map f xs)
unchosen_map f c [] = refl
unchosen_map f c (x ∷ xs) = go (chosen (c (f x))) (unchosen_map f c xs)
  where
    go : (b : Bool) → map f (unchosen (λ x. c (f x)) xs) ≡ unchosen c (map f xs) → map f (cond b (unchosen (λ x. c (f x)) xs) (x ∷ unchosen (λ x. c (f x)) xs)) ≡ cond b (unchosen c (map f xs)) (f x ∷ unchosen c (map f xs))
    go true rec = rec
    go false rec = ap (λ l. f x ∷ l) rec

-- ---- rows held

pub held_start : (k : Option Bool) → k ≡ held_sofar false k
held_start none = refl
held_start (some b) = refl

module _ (key from : ℕ) (U : Table) (c : Row → Option Bool) (T : Table) (i : ℕ) (h : Bool) where
  held_at : (o : Option Bool) → i < length T → c (get_or T i []) ≡ o →
      held_sofar h (holds_one key from U c (drop i T)) ≡ held_sofar h (bind o (λ b. bind (holds_one key from U c (drop (i + 1) T)) (λ r. some ((b && has from U (attr (get_or T i []) key)) || r))))
  held_at o lt e =
      at_drop_more (λ X. held_sofar h (holds_one key from U c X)) T i [] lt
      ∙ ap (λ o. held_sofar h (bind o (λ b. bind (holds_one key from U c (drop (i + 1) T)) (λ r. some ((b && has from U (attr (get_or T i []) key)) || r))))) e

  -- a row without a truth leaves no value, also where an earlier row is held
  pub held_stuck : i < length T → c (get_or T i []) ≡ none → held_sofar h (holds_one key from U c (drop i T)) ≡ none
  held_stuck lt e = held_at none lt e

  pub held_next : (b : Bool) → i < length T → c (get_or T i []) ≡ some b →
      held_sofar h (holds_one key from U c (drop i T)) ≡ held_sofar (h || (b && has from U (attr (get_or T i []) key))) (holds_one key from U c (drop (i + 1) T))
  held_next b lt e = held_at (some b) lt e ∙ glue h (b && has from U (attr (get_or T i []) key)) (holds_one key from U c (drop (i + 1) T))
    where
      glue : (h x : Bool) (k : Option Bool) → held_sofar h (bind k (λ r. some (x || r))) ≡ held_sofar (h || x) k
      glue h x none = refl
      glue h x (some r) = ap some (sym (or_assoc h x r))

  pub held_end : length T ≤ i → held_sofar h (holds_one key from U c (drop i T)) ≡ some h
  held_end g = at_drop_all (λ X. held_sofar h (holds_one key from U c X)) T i g ∙ over h
    where
      over : (h : Bool) → some (h || false) ≡ some h
      over true = refl
      over false = refl

-- ---- rows changed: each is made anew, and then all are put in order

pub changed_each : (key : ℕ) (f : Row → Option Row) (T : Table) → changed key f T ≡ bind (each f T) (λ rs. some (in_order key rs))
changed_each key f [] = refl
changed_each key f (r ∷ rs) = go (f r) (changed_each key f rs)
  where
    behind : (q : Row) (k : Option (List Row)) → bind (bind k (λ rs. some (in_order key rs))) (λ T. some (among key q T)) ≡ bind (bind k (λ qs. some (q ∷ qs))) (λ rs. some (in_order key rs))
    behind q none = refl
    behind q (some qs) = refl

    go : (o : Option Row) → changed key f rs ≡ bind (each f rs) (λ rs. some (in_order key rs)) → bind o (λ q. bind (changed key f rs) (λ T. some (among key q T))) ≡ bind (bind o (λ q. bind (each f rs) (λ qs. some (q ∷ qs)))) (λ rs. some (in_order key rs))
    go none rec = refl
    go (some q) rec = ap (λ k. bind k (λ T. some (among key q T))) rec ∙ behind q (each f rs)

module _ {A B : Type 0} (f : A → Option B) (xs : List A) (i : ℕ) (d : A) (done : List B) where
  each_at : (o : Option B) → i < length xs → f (get_or xs i d) ≡ o → sofar done (each f (drop i xs)) ≡ sofar done (bind o (λ q. bind (each f (drop (i + 1) xs)) (λ qs. some (q ∷ qs))))
  each_at o lt e = at_drop_more (λ ys. sofar done (each f ys)) xs i d lt ∙ ap (λ o. sofar done (bind o (λ q. bind (each f (drop (i + 1) xs)) (λ qs. some (q ∷ qs))))) e

  pub each_stuck : i < length xs → f (get_or xs i d) ≡ none → sofar done (each f (drop i xs)) ≡ none
  each_stuck lt e = each_at none lt e

  pub each_next : (q : B) → i < length xs → f (get_or xs i d) ≡ some q → sofar done (each f (drop i xs)) ≡ sofar (done ++ (q ∷ [])) (each f (drop (i + 1) xs))
  each_next q lt e = each_at (some q) lt e ∙ glue (each f (drop (i + 1) xs))
    where
      glue : (k : Option (List B)) → sofar done (bind k (λ qs. some (q ∷ qs))) ≡ sofar (done ++ (q ∷ [])) k
      glue none = refl
      glue (some qs) = ap some (sym (append_assoc done (q ∷ []) qs))

  pub each_end : length xs ≤ i → sofar done (each f (drop i xs)) ≡ some done
  each_end h = at_drop_all (λ ys. sofar done (each f ys)) xs i h ∙ ap some (append-nil done)

-- rows put in order from the last to the first
module _ (k : ℕ) (rs : List Row) (i : ℕ) where
  pub order_next : i < length rs → in_order k (drop i rs) ≡ among k (get_or rs i []) (in_order k (drop (i + 1) rs))
  order_next lt = at_drop_more (in_order k) rs i [] lt

  pub order_end : length rs ≤ i → in_order k (drop i rs) ≡ []
  order_end h = at_drop_all (in_order k) rs i h

-- ---- numbers counted from 1: element i has the number i + 1

module _ {A : Type 0} (xs : List A) (i : ℕ) where
  pub numbers_next : (d : A) → i < length xs → up_from (i + 1) (drop i xs) ≡ (i + 1) ∷ up_from ((i + 1) + 1) (drop (i + 1) xs)
  numbers_next d lt = at_drop_more (up_from (i + 1)) xs i d lt ∙ ap (λ n. (i + 1) ∷ up_from n (drop (i + 1) xs)) (sym (add-one (i + 1)))

  pub numbers_end : length xs ≤ i → up_from (i + 1) (drop i xs) ≡ []
  numbers_end h = at_drop_all (up_from (i + 1)) xs i h

  module _ (p : A → Bool) where
    places_at : (d : A) (b : Bool) → i < length xs → p (get_or xs i d) ≡ b → places p (i + 1) (drop i xs) ≡ cond b ((i + 1) ∷ places p ((i + 1) + 1) (drop (i + 1) xs)) (places p ((i + 1) + 1) (drop (i + 1) xs))
    places_at d b lt e =
        at_drop_more (places p (i + 1)) xs i d lt ∙ ap (λ b. cond b ((i + 1) ∷ places p (suc (i + 1)) (drop (i + 1) xs)) (places p (suc (i + 1)) (drop (i + 1) xs))) e
        ∙ ap (λ n. cond b ((i + 1) ∷ places p n (drop (i + 1) xs)) (places p n (drop (i + 1) xs))) (sym (add-one (i + 1)))

    pub places_here : (d : A) → i < length xs → p (get_or xs i d) ≡ true → places p (i + 1) (drop i xs) ≡ (i + 1) ∷ places p ((i + 1) + 1) (drop (i + 1) xs)
    places_here d lt e = places_at d true lt e

    pub places_past : (d : A) → i < length xs → p (get_or xs i d) ≡ false → places p (i + 1) (drop i xs) ≡ places p ((i + 1) + 1) (drop (i + 1) xs)
    places_past d lt e = places_at d false lt e

    pub places_end : length xs ≤ i → places p (i + 1) (drop i xs) ≡ []
    places_end h = at_drop_all (places p (i + 1)) xs i h

-- ---- the lines of a listing: record i + 1 is at place i

module _ (rs : List Record) (i : ℕ) where
  pub lines_next : (d : Record) → i < length rs → lines_text (i + 1) (drop i rs) ≡ line_text (i + 1) (get_or rs i d) ++ lines_text ((i + 1) + 1) (drop (i + 1) rs)
  lines_next d lt = at_drop_more (lines_text (i + 1)) rs i d lt ∙ ap (λ n. line_text (i + 1) (get_or rs i d) ++ lines_text n (drop (i + 1) rs)) (sym (add-one (i + 1)))

  pub lines_end : length rs ≤ i → lines_text (i + 1) (drop i rs) ≡ []
  lines_end h = at_drop_all (lines_text (i + 1)) rs i h
