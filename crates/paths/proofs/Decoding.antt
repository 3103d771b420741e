-- The mark at the front of some bytes: what is read is spelled there, and what is spelled is read.
use Rattle.std.proofs.Common.{◌≡◌, ℕ, zero, suc, ◌+◌, ◌<◌, ◌≤◌, true, false, eqb, ◌⊎◌, List, [], ◌∷◌, ◌++◌, length, get_or, take, drop, Ok, Err, Result, sym, refl, ap, ◌∙◌, subst, inl, inr, arith}
use mathlib.Core.Option.{Option, none, some}
use Rattle.std.specs.List.{prefix_len}
use Rattle.std.proofs.lemmas.List.{take_at, get_or_append_left, drop_more, drop_all}
use lib.Arith.{lt_of_le-ne}
use Rattle.std.proofs.lemmas.Bool.{cond-true, cond-false, ne_eqb, eq-eqb, eqb-true, eqb-false, leb-true, and_parts, cases_Bool}
use Rattle.faults.specs.declared.Fault.{Fault}
use Rattle.faults.specs.declared.Fault.TheVariants.{BadPath}
use Rattle.meaning.specs.Syntax.{Exception, branched, turned, fetched, wrote}
use Rattle.meaning.specs.Letters as letter
use Rattle.meaning.specs.Letters.{Letter, letters}
use Rattle.paths.specs.declared.mark.Mark.TheVariants.{F, C, D}
use Rattle.paths.specs.Marks.{Meant, Held, held, held_number}
use Rattle.paths.specs.Spelling.{code_of, numeral, spell}
use Rattle.paths.specs.Reading.{is_digit, value_of, read_digits, read_number, with_number, letter_by, mark_by, read_mark}
use Rattle.paths.proofs.Numerals.{AllDigits, digitless, leading_digits, split_digits, numeral_digits, value_numeral, numeral_first, numeral_some, numeral_value}
use Rattle.paths.proofs.Marks.{letter_code}

-- What stands behind a number does not go on with it; a lone zero has ended by itself.
abbrev pub EndsNumber : Option ℕ → List ℕ → Type 0
EndsNumber none s = Unit {0}
EndsNumber (some zero) s = Unit {0}
EndsNumber (some (suc n)) s = digitless s

abbrev pub ends : Meant → List ℕ → Type 0
ends m s = EndsNumber (letters m).number s

space_number : (o : Option ℕ) (s : List ℕ) → EndsNumber o (32 ∷ s)
space_number none s = tt
space_number (some zero) s = tt
space_number (some (suc n)) s = refl

-- A space ends every mark.
pub ends_space : (m : Meant) (s : List ℕ) → ends m (32 ∷ s)
ends_space m s = space_number (letters m).number s

same_front : (o : Option ℕ) (b : ℕ) (s t : List ℕ) → EndsNumber o (b ∷ s) → EndsNumber o (b ∷ t)
same_front none b s t e = tt
same_front (some zero) b s t e = tt
same_front (some (suc n)) b s t e = e

-- Only the first byte behind a mark matters.
pub ends_front : (m : Meant) (b : ℕ) (s t : List ℕ) → ends m (b ∷ s) → ends m (b ∷ t)
ends_front m b s t e = same_front (letters m).number b s t e

-- ---- numbers

pub by_count : (s : List ℕ) (at count : ℕ) → prefix_len is_digit s ≡ count → read_number s at ≡ read_digits count s at
unfolding read_number
by_count s at count e = ap (λ k. read_digits k s at) e

pub no_number : (s : List ℕ) (at : ℕ) → digitless s → read_number s at ≡ Err (BadPath at)
no_number s at d = by_count s at 0 (leading_digits [] s tt d)

pub zero_first : (s : List ℕ) (at k : ℕ) → 0 < k → get_or s 0 0 ≡ 48 → read_digits k s at ≡ Ok (0, at + 1)
zero_first s at k h z = cond-false _ _ _ (ne_eqb k 0 (λ e. omega arith)) ∙ cond-true _ _ _ (eq-eqb _ _ z)

pub more_first : (s : List ℕ) (at k : ℕ) → 0 < k → (get_or s 0 0 ≡ 48 → ⊥) → read_digits k s at ≡ Ok (held_number (value_of (take k s)), at + k)
more_first s at k h z = cond-false _ _ _ (ne_eqb k 0 (λ e. omega arith)) ∙ cond-false _ _ _ (ne_eqb (get_or s 0 0) 48 z)

digits_read : (ds s : List ℕ) (at : ℕ) → AllDigits ds → digitless s → 48 < get_or ds 0 0 → 0 < length ds → read_number (ds ++ s) at ≡ Ok (held_number (value_of ds), at + length ds)
digits_read ds s at a e f h =
    by_count (ds ++ s) at (length ds) (leading_digits ds s a e)
    ∙ more_first (ds ++ s) at (length ds) h (λ e. omega (arith, get_or_append_left ds s 0 0 h))
    ∙ ap (λ l. Ok (held_number (value_of l), at + length ds)) (take_at ds s (length ds) refl)

-- A numeral is read.
pub read_numeral : (n : ℕ) (s : List ℕ) (at : ℕ) → EndsNumber (some n) s → read_number (numeral n ++ s) at ≡ Ok (held_number n, at + length (numeral n))
read_numeral zero s at e = by_count (48 ∷ s) at (1 + prefix_len is_digit s) refl ∙ zero_first (48 ∷ s) at (1 + prefix_len is_digit s) (omega arith) refl
read_numeral (suc n) s at e =
    digits_read (numeral (suc n)) s at (numeral_digits (suc n)) e (numeral_first n) (numeral_some (suc n))
    ∙ ap (λ v. Ok (held_number v, at + length (numeral (suc n)))) (value_numeral (suc n))

-- A number stands at the front.
pub record Numbered (s : List ℕ) (at : ℕ) (v : ℕ × ℕ) : Type 0 where
  pub n : ℕ
  pub rest : List ℕ
  pub whole : s ≡ numeral n ++ rest
  pub is : v ≡ (held_number n, at + length (numeral n))
  pub stops : EndsNumber (some n) rest

ok_same : {A B : Type 0} {r : Result A B} (x y : A) → r ≡ Ok x → r ≡ Ok y → x ≡ y
ok_same x y p q = cc

pub not_both : {A B : Type 0} {r : Result A B} (x : A) (f : B) → r ≡ Ok x → r ≡ Err f → ⊥
not_both x f p q = let z : ◌≡◌ {A = ℕ} 0 1 = cc in omega arith

numbered_by : (ds rest : List ℕ) (at : ℕ) (v : ℕ × ℕ) → AllDigits ds → digitless rest → read_number (ds ++ rest) at ≡ Ok v → (eqb (get_or ds 0 0) 48 ≡ true) ⊎ (eqb (get_or ds 0 0) 48 ≡ false) → Numbered (ds ++ rest) at v
numbered_by [] rest at v a e r z = absurd (not_both v (BadPath at) r (no_number rest at e))
numbered_by (d ∷ ds) rest at v a e r (inl z) =
    let is = eqb-true d 48 z in
    let count : prefix_len is_digit (d ∷ (ds ++ rest)) ≡ length (d ∷ ds) = leading_digits (d ∷ ds) rest a e in
    let read = by_count (d ∷ (ds ++ rest)) at (length (d ∷ ds)) count ∙ zero_first (d ∷ (ds ++ rest)) at (length (d ∷ ds)) (omega arith) is in
    record { n = 0; rest = ds ++ rest; whole = ap (λ b. b ∷ (ds ++ rest)) is; is = ok_same v (0, at + 1) r read; stops = tt }
numbered_by (d ∷ ds) rest at v a e r (inr z) = past (numeral_value (d ∷ ds) a (first_past d a.0 z)) where
  first_past : (d : ℕ) → is_digit d ≡ true → eqb d 48 ≡ false → 48 < d
  first_past d g ne = let low = leb-true 48 d (and_parts _ _ g).0 in let no = eqb-false d 48 ne in lt_of_le-ne low (λ e. no (sym e))

  past : (n : ℕ) × (value_of (d ∷ ds) ≡ suc n) × (numeral (suc n) ≡ d ∷ ds) → Numbered (d ∷ (ds ++ rest)) at v
  past p =
      let read = digits_read (d ∷ ds) rest at a e (first_past d a.0 z) (omega arith) in
      record {
        n = suc p.0;
        rest = rest;
        whole = ap (λ l. l ++ rest) (sym p.2);
        is = ok_same v (held_number (value_of (d ∷ ds)), at + length (d ∷ ds)) r read ∙ ap (λ k. (held_number k, at + length (d ∷ ds))) p.1 ∙ ap (λ (l : List ℕ). (held_number (suc p.0), at + length l)) (sym p.2);
        stops = e;
      }

moved : {s t : List ℕ} (at : ℕ) (v : ℕ × ℕ) → s ≡ t → Numbered t at v → Numbered s at v
moved at v e h = record { n = h.n; rest = h.rest; whole = e ∙ h.whole; is = h.is; stops = h.stops }

-- A number that is read is spelled there, and has ended.
pub number_sound : (s : List ℕ) (at : ℕ) (v : ℕ × ℕ) → read_number s at ≡ Ok v → Numbered s at v
number_sound s at v r =
    let h = split_digits s in
    moved at v h.whole (numbered_by h.ds h.rest at v h.digits h.ends (ap (λ l. read_number l at) (sym h.whole) ∙ r) (cases_Bool _))

err_same : {A : Type 0} {r : Result A Fault} (f g : Fault) → r ≡ Err g → r ≡ Err f → f ≡ g
err_same f g p q = cc

refused_by : (ds rest : List ℕ) (at : ℕ) (f : Fault) → AllDigits ds → digitless rest → read_number (ds ++ rest) at ≡ Err f → (eqb (get_or ds 0 0) 48 ≡ true) ⊎ (eqb (get_or ds 0 0) 48 ≡ false) → (f ≡ BadPath at) × digitless (ds ++ rest)
refused_by [] rest at f a e r z = (err_same f (BadPath at) (no_number rest at e) r, e)
refused_by (d ∷ ds) rest at f a e r (inl z) =
    absurd (not_both (0, at + 1) f (by_count (d ∷ (ds ++ rest)) at (length (d ∷ ds)) (leading_digits (d ∷ ds) rest a e) ∙ zero_first (d ∷ (ds ++ rest)) at (length (d ∷ ds)) (omega arith) (eqb-true d 48 z)) r)
refused_by (d ∷ ds) rest at f a e r (inr z) =
    let low = leb-true 48 d (and_parts _ _ a.0).0 in
    let no = eqb-false d 48 z in
    absurd (not_both _ f (digits_read (d ∷ ds) rest at a e (lt_of_le-ne low (λ p. no (sym p))) (omega arith)) r)

-- A number is refused at its place, and no digit stands there.
pub number_refused : (s : List ℕ) (at : ℕ) (f : Fault) → read_number s at ≡ Err f → (f ≡ BadPath at) × digitless s
number_refused s at f r =
    let h = split_digits s in
    let t = refused_by h.ds h.rest at f h.digits h.ends (ap (λ l. read_number l at) (sym h.whole) ∙ r) (cases_Bool _) in
    (t.0, subst digitless (sym h.whole) t.1)

-- ---- marks

numbered_read : (mark : ℕ → Held) (n : ℕ) (s : List ℕ) (at : ℕ) → EndsNumber (some n) s → with_number mark (read_number (numeral n ++ s) (at + 1)) ≡ Ok (mark (held_number n), at + suc (length (numeral n)))
numbered_read mark n s at e = ap (with_number mark) (read_numeral n s (at + 1) e) ∙ ap (λ k. Ok (mark (held_number n), k)) (omega arith)

-- A mark that is spelled at the front, and ends there, is read.
pub whole_read : (m : Meant) (s : List ℕ) (at : ℕ) → ends m s → read_mark (spell m ++ s) at ≡ Ok (held m, at + length (spell m))
unfolding read_mark
whole_read (branched true) s at e = refl
whole_read (branched false) s at e = refl
whole_read (turned true) s at e = refl
whole_read (turned false) s at e = refl
whole_read (fetched true) s at e = refl
whole_read (fetched false) s at e = refl
whole_read (wrote none) s at e = refl
whole_read (wrote (some Exception.K)) s at e = refl
whole_read (wrote (some (Exception.F n))) s at e = numbered_read F n s at e
whole_read (wrote (some (Exception.C n))) s at e = numbered_read C n s at e
whole_read (wrote (some (Exception.D n))) s at e = numbered_read D n s at e

-- A mark stands at the front, and ends there.
pub record Found (s : List ℕ) (at : ℕ) (r : Held × ℕ) : Type 0 where
  pub m : Meant
  pub rest : List ℕ
  pub whole : s ≡ spell m ++ rest
  pub is : r ≡ (held m, at + length (spell m))
  pub stops : ends m rest

abbrev as_read : Held × ℕ → Result (Held × ℕ) Fault
as_read r = Ok r

plain_found : (m : Meant) (c b : ℕ) (s : List ℕ) (at : ℕ) (r : Held × ℕ) → spell m ≡ c ∷ [] → ends m s → b ≡ c → as_read (held m, at + 1) ≡ Ok r → Found (b ∷ s) at r
plain_found m c b s at r is e code p =
    record {
      m = m;
      rest = s;
      whole = ap (λ x. x ∷ s) code ∙ ap (λ l. l ++ s) (sym is);
      is = ok_same r (held m, at + 1) p refl ∙ ap (λ (l : List ℕ). (held m, at + length l)) (sym is);
      stops = e;
    }

with_number_lem : (mark : ℕ → Held) (q : Result (ℕ × ℕ) Fault) (r : Held × ℕ) → with_number mark q ≡ Ok r → (v : ℕ × ℕ) × (q ≡ Ok v) × (r ≡ (mark v.0, v.1))
with_number_lem mark (Ok v) r p = (v, refl, ok_same r _ p refl)
with_number_lem mark (Err f) r p = absurd (not_both r f p refl)

number_found : (x : ℕ → Exception) (mark : ℕ → Held) (c b : ℕ) (s : List ℕ) (at : ℕ) (r : Held × ℕ) → ((n : ℕ) → spell (wrote (some (x n))) ≡ c ∷ numeral n) → ((n : ℕ) → held (wrote (some (x n))) ≡ mark (held_number n)) → ((n : ℕ) → (letters (wrote (some (x n)))).number ≡ some n) → b ≡ c → with_number mark (read_number s (at + 1)) ≡ Ok r → Found (b ∷ s) at r
number_found x mark c b s at r is marks carries code p =
    let w = with_number_lem mark (read_number s (at + 1)) r p in
    let h = number_sound s (at + 1) w.0 w.1 in
    let size : (at + 1) + length (numeral h.n) ≡ at + length (c ∷ numeral h.n) = omega arith in
    record {
      m = wrote (some (x h.n));
      rest = h.rest;
      whole = ap (λ y. y ∷ s) code ∙ ap (λ l. c ∷ l) h.whole ∙ ap (λ l. l ++ h.rest) (sym (is h.n));
      is = w.2 ∙ ap (λ (v : ℕ × ℕ). (mark v.0, v.1)) h.is ∙ ap (λ k. (mark (held_number h.n), k)) size ∙ ap (λ (l : List ℕ). (mark (held_number h.n), at + length l)) (sym (is h.n)) ∙ ap (λ k. (k, at + length (spell (wrote (some (x h.n)))))) (sym (marks h.n));
      stops = subst (λ (o : Option ℕ). EndsNumber o h.rest) (sym (carries h.n)) h.stops;
    }

found_by : (b : ℕ) (s : List ℕ) (at : ℕ) (r : Held × ℕ) (o : Option Letter) → letter_by b ≡ o → mark_by o s at ≡ Ok r → Found (b ∷ s) at r
found_by b s at r none e p = absurd (not_both r (BadPath at) p refl)
found_by b s at r (some letter.T) e p = plain_found (branched true) 84 b s at r refl tt (letter_code b letter.T e) p
found_by b s at r (some letter.E) e p = plain_found (branched false) 69 b s at r refl tt (letter_code b letter.E e) p
found_by b s at r (some letter.L) e p = plain_found (turned true) 76 b s at r refl tt (letter_code b letter.L e) p
found_by b s at r (some letter.O) e p = plain_found (turned false) 79 b s at r refl tt (letter_code b letter.O e) p
found_by b s at r (some letter.N) e p = plain_found (fetched true) 78 b s at r refl tt (letter_code b letter.N e) p
found_by b s at r (some letter.X) e p = plain_found (fetched false) 88 b s at r refl tt (letter_code b letter.X e) p
found_by b s at r (some letter.W) e p = plain_found (wrote none) 87 b s at r refl tt (letter_code b letter.W e) p
found_by b s at r (some letter.K) e p = plain_found (wrote (some Exception.K)) 75 b s at r refl tt (letter_code b letter.K e) p
found_by b s at r (some letter.F) e p = number_found Exception.F F 70 b s at r (λ n. refl) (λ n. refl) (λ n. refl) (letter_code b letter.F e) p
found_by b s at r (some letter.C) e p = number_found Exception.C C 67 b s at r (λ n. refl) (λ n. refl) (λ n. refl) (letter_code b letter.C e) p
found_by b s at r (some letter.D) e p = number_found Exception.D D 68 b s at r (λ n. refl) (λ n. refl) (λ n. refl) (letter_code b letter.D e) p

-- The mark at a place inside a line, by the byte there.
pub read_at : (line : List ℕ) (at : ℕ) → at < length line → read_mark (drop at line) at ≡ mark_by (letter_by (get_or line at 0)) (drop (at + 1) line) at
unfolding read_mark
read_at line at lt = ap (λ l. read_mark l at) (drop_more line at 0 lt)

pub read_end : (line : List ℕ) (at : ℕ) → length line ≤ at → read_mark (drop at line) at ≡ Err (BadPath at)
unfolding read_mark
read_end line at le = ap (λ l. read_mark l at) (drop_all at line le)

-- A mark that is read is spelled there, and has ended.
pub mark_sound : (s : List ℕ) (at : ℕ) (r : Held × ℕ) → read_mark s at ≡ Ok r → Found s at r
unfolding read_mark
mark_sound [] at r p = absurd (not_both r (BadPath at) p refl)
mark_sound (b ∷ s) at r p = found_by b s at r (letter_by b) refl p

-- ---- refusals

-- No mark is read from bytes that begin like these and have one byte more, or that end here with a space behind them.
pub record Refused (s : List ℕ) (at : ℕ) (f : Fault) : Type 0 where
  pub k : ℕ
  pub is : f ≡ BadPath (at + k)
  pub within : k ≤ length s
  pub m : Meant
  pub t : List ℕ
  pub begun : take k s ++ t ≡ spell m ++ (32 ∷ [])
  pub there : k < length s → (u : List ℕ) (r : Held × ℕ) → read_mark (take (k + 1) s ++ u) at ≡ Ok r → ⊥
  pub ended : k ≡ length s → (u : List ℕ) (r : Held × ℕ) → read_mark (s ++ (32 ∷ u)) at ≡ Ok r → ⊥

with_refused : (mark : ℕ → Held) (q : Result (ℕ × ℕ) Fault) (f : Fault) → with_number mark q ≡ Err f → q ≡ Err f
with_refused mark (Ok v) f p = absurd (not_both (mark v.0, v.1) f refl p)
with_refused mark (Err g) f p = ap Err (err_same g f p refl)

no_mark : (mark : ℕ → Held) (x : Letter) (b : ℕ) (s : List ℕ) (at : ℕ) → letter_by b ≡ some x → ((s : List ℕ) (at : ℕ) → mark_by (some x) s at ≡ with_number mark (read_number s (at + 1))) → digitless s → (r : Held × ℕ) → read_mark (b ∷ s) at ≡ Ok r → ⊥
unfolding read_mark
no_mark mark x b s at e by d r p =
    not_both r (BadPath (at + 1)) p (ap (λ o. mark_by o s at) e ∙ by s at ∙ ap (with_number mark) (no_number s (at + 1) d))

number_missing : (x : Letter) (m : Meant) (mark : ℕ → Held) (b : ℕ) (s : List ℕ) (at : ℕ) (f : Fault) → letter_by b ≡ some x → spell m ≡ code_of x ∷ (48 ∷ []) → ((s : List ℕ) (at : ℕ) → mark_by (some x) s at ≡ with_number mark (read_number s (at + 1))) → with_number mark (read_number s (at + 1)) ≡ Err f → Refused (b ∷ s) at f
number_missing x m mark b s at f e is by p =
    let h = number_refused s (at + 1) f (with_refused mark _ f p) in
    record {
      k = 1;
      is = h.0;
      within = omega arith;
      m = m;
      t = 48 ∷ (32 ∷ []);
      begun = ap (λ c. c ∷ (48 ∷ (32 ∷ []))) (letter_code b x e) ∙ ap (λ l. l ++ (32 ∷ [])) (sym is);
      there = beyond s h.1;
      ended = last s;
    } where
      beyond : (s : List ℕ) → digitless s → 1 < length (b ∷ s) → (u : List ℕ) (r : Held × ℕ) → read_mark (take 2 (b ∷ s) ++ u) at ≡ Ok r → ⊥
      beyond [] d lt u r q = omega arith
      beyond (c ∷ s) d lt u r q = no_mark mark x b (c ∷ u) at e by d r q

      last : (s : List ℕ) → 1 ≡ length (b ∷ s) → (u : List ℕ) (r : Held × ℕ) → read_mark ((b ∷ s) ++ (32 ∷ u)) at ≡ Ok r → ⊥
      last [] eq u r q = no_mark mark x b (32 ∷ u) at e by refl r q
      last (c ∷ s) eq u r q = omega arith

abbrev as_refused : Fault → Result (Held × ℕ) Fault
as_refused f = Err f

at_once : (b : ℕ) (s : List ℕ) (at : ℕ) (f : Fault) → letter_by b ≡ none → as_refused (BadPath at) ≡ Err f → Refused (b ∷ s) at f
unfolding read_mark
at_once b s at f e p =
    record {
      k = 0;
      is = err_same f (BadPath at) refl p ∙ ap BadPath (omega arith);
      within = omega arith;
      m = branched true;
      t = 84 ∷ (32 ∷ []);
      begun = refl;
      there = λ lt u r q. not_both r (BadPath at) q (ap (λ o. mark_by o u at) e);
      ended = λ eq. absurd (omega arith);
    }

refused_by_letter : (b : ℕ) (s : List ℕ) (at : ℕ) (f : Fault) (o : Option Letter) → letter_by b ≡ o → mark_by o s at ≡ Err f → Refused (b ∷ s) at f
refused_by_letter b s at f none e p = at_once b s at f e p
refused_by_letter b s at f (some letter.T) e p = absurd (not_both _ f refl p)
refused_by_letter b s at f (some letter.E) e p = absurd (not_both _ f refl p)
refused_by_letter b s at f (some letter.L) e p = absurd (not_both _ f refl p)
refused_by_letter b s at f (some letter.O) e p = absurd (not_both _ f refl p)
refused_by_letter b s at f (some letter.N) e p = absurd (not_both _ f refl p)
refused_by_letter b s at f (some letter.X) e p = absurd (not_both _ f refl p)
refused_by_letter b s at f (some letter.W) e p = absurd (not_both _ f refl p)
refused_by_letter b s at f (some letter.K) e p = absurd (not_both _ f refl p)
refused_by_letter b s at f (some letter.F) e p = number_missing letter.F (wrote (some (Exception.F 0))) F b s at f e refl (λ s at. refl) p
refused_by_letter b s at f (some letter.C) e p = number_missing letter.C (wrote (some (Exception.C 0))) C b s at f e refl (λ s at. refl) p
refused_by_letter b s at f (some letter.D) e p = number_missing letter.D (wrote (some (Exception.D 0))) D b s at f e refl (λ s at. refl) p

-- A mark is refused at the first byte at which none can go on.
pub mark_refused : (s : List ℕ) (at : ℕ) (f : Fault) → read_mark s at ≡ Err f → Refused s at f
unfolding read_mark
mark_refused [] at f p =
    record {
      k = 0;
      is = err_same f (BadPath at) refl p ∙ ap BadPath (omega arith);
      within = omega arith;
      m = branched true;
      t = 84 ∷ (32 ∷ []);
      begun = refl;
      there = λ lt. absurd (omega arith);
      ended = λ eq u r q. not_both r (BadPath at) q refl;
    }
mark_refused (b ∷ s) at f p = refused_by_letter b s at f (letter_by b) refl p
