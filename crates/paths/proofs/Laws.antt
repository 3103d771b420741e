-- Paths: marks are told apart, and a line breaks at one place.
use Rattle.std.proofs.Common.{◌≡◌, ℕ, zero, suc, ◌+◌, ◌-◌, ◌<◌, ◌≤◌, true, false, ◌⊎◌, List, [], ◌∷◌, ◌++◌, map, length, get_or, take, drop, Ok, Err, Result, sym, refl, ap, ◌∙◌, subst, inl, inr, append_assoc, arith, length-append, length-drop}
use mathlib.Core.Option.{none, some}
use Rattle.std.specs.List.{prefix_len}
use Rattle.std.proofs.lemmas.List.{take_at, drop_at, take-append-drop, length-take-le, append-nil, length-map, length_push, map_push, take_all, drop_more, nil_from_length}
use Rattle.std.proofs.lemmas.Bool.{cond-true, ne_eqb, not_from_false, cases_lt, leb-true, and_parts}
use Rattle.faults.specs.declared.Fault.{Fault}
use Rattle.faults.specs.declared.Fault.TheVariants.{BadPath, Memory}
use Rattle.meaning.specs.Syntax.{Exception, branched, turned, fetched, wrote}
use Rattle.paths.specs.declared.mark.Mark.TheVariants as variant
use Rattle.paths.specs.Marks.{Meant, Held, held, mark_of, Exact, AllExact}
use Rattle.paths.specs.Spelling.{numeral, spell, further, spelled, opening, in_line, line_of}
use Rattle.paths.specs.Reading.{read_mark}
use Rattle.paths.specs.Answers.{Path, Front, Breaks, LineAnswers}
use Rattle.paths.proofs.Numerals.{AllDigits, numeral_digits}
use Rattle.paths.proofs.Marks.{spell_same}
use Rattle.paths.proofs.Decoding.{ends, ends_space, ends_front, whole_read, Found, mark_sound, mark_refused, not_both}

-- ---- one spelling

pair_same : {r : Result (Held × ℕ) Fault} (x y : Held × ℕ) → r ≡ Ok x → r ≡ Ok y → x ≡ y
pair_same x y p q = cc

end_same : {r : Result (Held × ℕ) Fault} (g h : Held) (a b : ℕ) → r ≡ Ok (g, a) → r ≡ Ok (h, b) → a ≡ b
end_same g h a b p q = ap (λ (x : Held × ℕ). x.1) (pair_same (g, a) (h, b) p q)

-- Bytes that begin with a mark, and with another, each ended there, begin with the same bytes.
sizes : (m n : Meant) (s t : List ℕ) → ends m s → ends n t → spell m ++ s ≡ spell n ++ t → length (spell m) ≡ length (spell n)
sizes m n s t a b e =
    let same : 0 + length (spell m) ≡ 0 + length (spell n) = end_same (held m) (held n) _ _ (whole_read m s 0 a) (ap (λ l. read_mark l 0) e ∙ whole_read n t 0 b) in
    omega arith

front_same : (a b s t : List ℕ) → length a ≡ length b → a ++ s ≡ b ++ t → (a ≡ b) × (s ≡ t)
front_same a b s t n e =
    (sym (take_at a s (length a) refl) ∙ ap (take (length a)) e ∙ take_at b t (length a) (sym n), sym (drop_at a s (length a) refl) ∙ ap (drop (length a)) e ∙ drop_at b t (length a) (sym n))

split_mark : (m n : Meant) (s t : List ℕ) → spell m ++ (32 ∷ s) ≡ spell n ++ (32 ∷ t) → (m ≡ n) × (s ≡ t)
split_mark m n s t e =
    let same = front_same (spell m) (spell n) (32 ∷ s) (32 ∷ t) (sizes m n (32 ∷ s) (32 ∷ t) (ends_space m s) (ends_space n t) e) e in
    (spell_same m n same.0, ap (drop 1) same.1)

-- Marks that stand at the front of others are the first of these.
pub opening_more : (ms ns : List Meant) (u : List ℕ) → opening ms ++ u ≡ opening ns → (ks : List Meant) × (ns ≡ ms ++ ks) × (u ≡ opening ks)
opening_more [] ns u e = (ns, refl, e)
opening_more (m ∷ ms) [] u e = absurd (omega (arith, ap length e))
opening_more (m ∷ ms) (n ∷ ns) u e =
    let split = split_mark m n (opening ms ++ u) (opening ns) (sym (append_assoc (spell m) (32 ∷ opening ms) u) ∙ e) in
    let more = opening_more ms ns u split.1 in
    (more.0, ap (λ x. x ∷ ns) (sym split.0) ∙ ap (λ l. m ∷ l) more.1, more.2)

opening_append : (ms ns : List Meant) → opening (ms ++ ns) ≡ opening ms ++ opening ns
opening_append [] ns = refl
opening_append (m ∷ ms) ns = ap (λ l. spell m ++ (32 ∷ l)) (opening_append ms ns) ∙ sym (append_assoc (spell m) (32 ∷ opening ms) (opening ns))

further_open : (ms : List Meant) → further ms ++ (32 ∷ []) ≡ 32 ∷ opening ms
further_open [] = refl
further_open (m ∷ ms) = ap (λ l. 32 ∷ l) (append_assoc (spell m) (further ms) (32 ∷ []) ∙ ap (λ l. spell m ++ l) (further_open ms))

-- A path with a space behind it is its marks with a space behind each.
pub spelled_open : (ms : List Meant) → 0 < length (spelled ms) → spelled ms ++ (32 ∷ []) ≡ opening ms
spelled_open [] h = absurd (omega arith)
spelled_open (m ∷ ms) h = append_assoc (spell m) (further ms) (32 ∷ []) ∙ ap (λ l. spell m ++ l) (further_open ms)

opening_nil : (ms : List Meant) → [] ≡ opening ms → ms ≡ []
opening_nil [] e = refl
opening_nil (m ∷ ms) e = absurd (omega (arith, ap length e))

-- No two lists of marks are spelled alike.
pub spelled_same : (ms ns : List Meant) → spelled ms ≡ spelled ns → ms ≡ ns
spelled_same [] [] e = refl
spelled_same [] (n ∷ ns) e = absurd (omega (arith, ap length e))
spelled_same (m ∷ ms) [] e = absurd (omega (arith, ap length e))
spelled_same (m ∷ ms) (n ∷ ns) e =
    let opened : opening (m ∷ ms) ++ [] ≡ opening (n ∷ ns) = append-nil (opening (m ∷ ms)) ∙ sym (spelled_open (m ∷ ms) (omega arith)) ∙ ap (λ l. l ++ (32 ∷ [])) e ∙ spelled_open (n ∷ ns) (omega arith) in
    let more = opening_more (m ∷ ms) (n ∷ ns) [] opened in
    sym (append-nil (m ∷ ms)) ∙ ap (λ ks. (m ∷ ms) ++ ks) (sym (opening_nil more.0 more.2)) ∙ sym more.1

-- Marks with a space behind each are read one by one.
opening_read : (ks : List Meant) (s : List ℕ) (at : ℕ) → s ≡ opening ks → 0 < length s → (r : Held × ℕ) × (read_mark s at ≡ Ok r)
opening_read [] s at e h = absurd (omega (arith, ap length e))
opening_read (k ∷ ks) s at e h = ((held k, at + length (spell k)), ap (λ l. read_mark l at) e ∙ whole_read k (32 ∷ opening ks) at (ends_space k (opening ks)))

-- ---- a line as it is read

-- Up to a place these marks have been read, each with the space behind it.
pub record Reached (line : List ℕ) (hs : List Held) (at : ℕ) : Type 0 where
  pub ms : List Meant
  pub holds : hs ≡ map held ms
  pub front : take at line ≡ opening ms
  pub within : at ≤ length line

held_count : (line : List ℕ) (hs : List Held) (at : ℕ) (h : Reached line hs at) → length h.ms ≡ length hs
held_count line hs at h = sym (ap length h.holds ∙ length-map h.ms held)

parted : (line : List ℕ) (hs : List Held) (at : ℕ) (h : Reached line hs at) → line ≡ opening h.ms ++ drop at line
parted line hs at h = sym (take-append-drop at line) ∙ ap (λ l. l ++ drop at line) h.front

opened_size : (line : List ℕ) (hs : List Held) (at : ℕ) (h : Reached line hs at) → length (opening h.ms) ≡ at
opened_size line hs at h = sym (ap length h.front) ∙ length-take-le at line h.within

-- The place behind a mark that is read lies past its first byte, inside the line.
pub end_within : (line : List ℕ) (at : ℕ) (r : Held × ℕ) → at ≤ length line → read_mark (drop at line) at ≡ Ok r → (at < r.1) × (r.1 ≤ length line)
end_within line at r w p =
    let f = mark_sound (drop at line) at r p in
    let is : r.1 ≡ at + length (spell f.m) = ap (λ (q : Held × ℕ). q.1) f.is in
    let size : length line - at ≡ length (spell f.m) + length f.rest = sym (length-drop at line) ∙ ap length f.whole ∙ length-append (spell f.m) f.rest in
    (omega arith, omega arith)

-- The line is the marks so far, the mark that was read, and a rest from its end on.
with_mark : (line : List ℕ) (hs : List Held) (at : ℕ) (r : Held × ℕ) (h : Reached line hs at) (f : Found (drop at line) at r) → line ≡ (opening h.ms ++ spell f.m) ++ f.rest
with_mark line hs at r h f = parted line hs at h ∙ ap (λ l. opening h.ms ++ l) f.whole ∙ sym (append_assoc (opening h.ms) (spell f.m) f.rest)

mark_end : (line : List ℕ) (hs : List Held) (at : ℕ) (r : Held × ℕ) (h : Reached line hs at) (f : Found (drop at line) at r) → length (opening h.ms ++ spell f.m) ≡ r.1
mark_end line hs at r h f =
    length-append (opening h.ms) (spell f.m) ∙ ap (λ n. n + length (spell f.m)) (opened_size line hs at h) ∙ sym (ap (λ (q : Held × ℕ). q.1) f.is)

mark_held : {s : List ℕ} {at : ℕ} {r : Held × ℕ} (f : Found s at r) → r.0 ≡ held f.m
mark_held f = ap (λ (q : Held × ℕ). q.0) f.is

behind_end : (line a rest : List ℕ) (end : ℕ) → line ≡ a ++ rest → length a ≡ end → end < length line → rest ≡ get_or line end 0 ∷ drop (end + 1) line
behind_end line a rest end e n lt = sym (drop_at a rest end n) ∙ ap (drop end) (sym e) ∙ drop_more line end 0 lt

-- One mark more, and the space behind it.
pub reached_more : (line : List ℕ) (hs : List Held) (at : ℕ) (r : Held × ℕ) → Reached line hs at → read_mark (drop at line) at ≡ Ok r → r.1 < length line → get_or line r.1 0 ≡ 32 → Reached line (hs ++ (r.0 ∷ [])) (r.1 + 1)
reached_more line hs at r h p lt space =
    let f = mark_sound (drop at line) at r p in
    let a = opening h.ms ++ spell f.m in
    let whole = with_mark line hs at r h f in
    let size = mark_end line hs at r h f in
    let rest : f.rest ≡ 32 ∷ drop (r.1 + 1) line = behind_end line a f.rest r.1 whole size lt ∙ ap (λ b. b ∷ drop (r.1 + 1) line) space in
    let split : line ≡ (a ++ (32 ∷ [])) ++ drop (r.1 + 1) line = whole ∙ ap (λ l. a ++ l) rest ∙ sym (append_assoc a (32 ∷ []) (drop (r.1 + 1) line)) in
    let long : length (a ++ (32 ∷ [])) ≡ r.1 + 1 = length-append a (32 ∷ []) ∙ omega arith in
    let now : take (r.1 + 1) line ≡ a ++ (32 ∷ []) = ap (take (r.1 + 1)) split ∙ take_at (a ++ (32 ∷ [])) (drop (r.1 + 1) line) (r.1 + 1) long in
    record {
      ms = h.ms ++ (f.m ∷ []);
      holds = ap (λ l. l ++ (r.0 ∷ [])) h.holds ∙ ap (λ x. map held h.ms ++ (x ∷ [])) (mark_held f) ∙ sym (map_push held h.ms f.m);
      front = now ∙ append_assoc (opening h.ms) (spell f.m) (32 ∷ []) ∙ sym (opening_append h.ms (f.m ∷ []));
      within = omega arith;
    }

spelled_last : (ms : List Meant) (m : Meant) → spelled (ms ++ (m ∷ [])) ≡ opening ms ++ spell m
spelled_last [] m = append-nil (spell m)
spelled_last (n ∷ ms) m = ap (λ l. spell n ++ l) (further_last ms) ∙ sym (append_assoc (spell n) (32 ∷ opening ms) (spell m)) where
  further_last : (ms : List Meant) → further (ms ++ (m ∷ [])) ≡ (32 ∷ opening ms) ++ spell m
  further_last [] = ap (λ l. 32 ∷ l) (append-nil (spell m))
  further_last (k ∷ ms) = ap (λ l. 32 ∷ l) (ap (λ l. spell k ++ l) (further_last ms) ∙ sym (append_assoc (spell k) (32 ∷ opening ms) (spell m)))

-- The line ends with the mark that was read: it is a path.
pub reached_all : (line : List ℕ) (hs : List Held) (at : ℕ) (r : Held × ℕ) → Reached line hs at → read_mark (drop at line) at ≡ Ok r → r.1 ≡ length line → length hs < 512 → (ms : List Meant) × Path line ms × (hs ++ (r.0 ∷ []) ≡ map held ms)
reached_all line hs at r h p end few =
    let f = mark_sound (drop at line) at r p in
    let whole = with_mark line hs at r h f in
    let size = mark_end line hs at r h f in
    let a = opening h.ms ++ spell f.m in
    let none : f.rest ≡ [] = nil_from_length f.rest (omega (arith, ap length whole, length-append a f.rest)) in
    let count = held_count line hs at h in (
      h.ms ++ (f.m ∷ []),
      (omega (arith, length_push h.ms f.m), whole ∙ ap (λ l. a ++ l) none ∙ append-nil a ∙ sym (spelled_last h.ms f.m)),
      ap (λ l. l ++ (r.0 ∷ [])) h.holds ∙ ap (λ x. map held h.ms ++ (x ∷ [])) (mark_held f) ∙ sym (map_push held h.ms f.m),
    )

-- ---- refusals

take_past : (a s : List ℕ) (n k : ℕ) → length a ≡ n → take (n + k) (a ++ s) ≡ a ++ take k s
take_past [] s n k e = let z : n + k ≡ k = omega arith in ap (λ j. take j s) z
take_past (x ∷ a) s zero k e = absurd (omega arith)
take_past (x ∷ a) s (suc n) k e = let z : suc n + k ≡ suc (n + k) = omega arith in ap (λ j. take j (x ∷ (a ++ s))) z ∙ ap (λ l. x ∷ l) (take_past a s n k (omega arith))

-- A line breaks k bytes past the marks so far, where no further marks begin like what stands there.
breaks : (line : List ℕ) (hs : List Held) (at k : ℕ) (h : Reached line hs at) → 0 < length line → k ≤ length (drop at line) → Front (take (at + k) line)
    → (k < length (drop at line) → (u : List ℕ) (ks : List Meant) → length (h.ms ++ ks) ≤ 512 → take (k + 1) (drop at line) ++ u ≡ opening ks → ⊥)
    → (k ≡ length (drop at line) → (ks : List Meant) → drop at line ++ (32 ∷ []) ≡ opening ks → ⊥)
    → Breaks line (at + k)
breaks line hs at k h long le before there ended =
    let size = length-drop at line in
    let in-line = h.within in
    record {
      within = omega arith;
      before = before;
      there = λ lt front. beyond (omega arith) front;
      ended = λ eq ms path. last (omega arith) ms path;
    } where
      beyond : k < length (drop at line) → Front (take ((at + k) + 1) line) → ⊥
      beyond lt front =
          let here : (at + k) + 1 ≡ at + (k + 1) = omega arith in
          let cut : take ((at + k) + 1) line ≡ opening h.ms ++ take (k + 1) (drop at line) = ap (λ n. take n line) here ∙ ap (take (at + (k + 1))) (parted line hs at h) ∙ take_past (opening h.ms) (drop at line) at (k + 1) (opened_size line hs at h) in
          let more = opening_more h.ms front.0 (take (k + 1) (drop at line) ++ front.1) (sym (append_assoc (opening h.ms) (take (k + 1) (drop at line)) front.1) ∙ ap (λ l. l ++ front.1) (sym cut) ∙ front.3) in
          there lt front.1 more.0 (subst (λ (l : List Meant). length l ≤ 512) more.1 front.2) more.2

      last : k ≡ length (drop at line) → (ms : List Meant) → Path line ms → ⊥
      last eq ms path =
          let opened = spelled_open ms (subst (λ (l : List ℕ). 0 < length l) path.1 long) in
          let more = opening_more h.ms ms (drop at line ++ (32 ∷ [])) (sym (append_assoc (opening h.ms) (drop at line) (32 ∷ [])) ∙ ap (λ l. l ++ (32 ∷ [])) (sym (parted line hs at h) ∙ path.1) ∙ opened) in
          ended eq more.0 more.2

some_more : (a : List ℕ) (b : ℕ) (u : List ℕ) → 0 < length (a ++ (b ∷ u))
some_more a b u = omega (arith, length-append a (b ∷ u))

taken_some : (k : ℕ) (s u : List ℕ) → k < length s → 0 < length (take (k + 1) s ++ u)
taken_some k s u lt = omega (arith, length-append (take (k + 1) s) u, length-take-le (k + 1) s (omega arith))

-- No mark stands at the place where the next is due.
pub breaks_mark : (line : List ℕ) (hs : List Held) (at : ℕ) (f : Fault) → Reached line hs at → 0 < length line → length hs < 512 → read_mark (drop at line) at ≡ Err f → (place : ℕ) × (f ≡ BadPath place) × Breaks line place
breaks_mark line hs at f h long few p =
    let r = mark_refused (drop at line) at f p in
    let count = held_count line hs at h in
    let cut : take (at + r.k) line ≡ opening h.ms ++ take r.k (drop at line) = ap (take (at + r.k)) (parted line hs at h) ∙ take_past (opening h.ms) (drop at line) at r.k (opened_size line hs at h) in
    let front : Front (take (at + r.k) line) = (
      h.ms ++ (r.m ∷ []),
      r.t,
      omega (arith, length_push h.ms r.m),
      ap (λ l. l ++ r.t) cut ∙ append_assoc (opening h.ms) (take r.k (drop at line)) r.t ∙ ap (λ l. opening h.ms ++ l) r.begun ∙ sym (opening_append h.ms (r.m ∷ [])),
    ) in (
      at + r.k,
      r.is,
      breaks line hs at r.k h long r.within front
          (λ lt u ks n e. let o = opening_read ks _ at e (taken_some r.k (drop at line) u lt) in r.there lt u o.0 o.1)
          (λ eq ks e. let o = opening_read ks _ at e (some_more (drop at line) 32 []) in r.ended eq [] o.0 o.1),
    )

-- No mark begins with a space.
no_space : (ks : List Meant) (s : List ℕ) (at : ℕ) → s ++ (32 ∷ []) ≡ opening ks → 0 ≡ length s → ⊥
unfolding read_mark
no_space ks s at e eq =
    let o = opening_read ks (32 ∷ []) at (ap (λ l. l ++ (32 ∷ [])) (sym (nil_from_length s (sym eq))) ∙ e) (omega arith) in
    not_both o.0 (BadPath at) o.1 refl

-- A 513th mark is due: the line breaks at its first byte, or ends there.
pub breaks_many : (line : List ℕ) (hs : List Held) (at : ℕ) → Reached line hs at → 0 < length line → 512 ≤ length hs → length hs ≤ 512 → Breaks line at
breaks_many line hs at h long many most =
    let count = held_count line hs at h in
    let here : at + 0 ≡ at = omega arith in
    subst (Breaks line) here (breaks line hs at 0 h long (omega arith)
    (h.ms, [], omega arith, append-nil (take (at + 0) line) ∙ ap (λ n. take n line) here ∙ h.front)
    (λ lt u ks n e. too_long ks n e (taken_some 0 (drop at line) u lt) count)
    (λ eq ks e. no_space ks (drop at line) at e eq)) where
      too_long : (ks : List Meant) {s : List ℕ} → length (h.ms ++ ks) ≤ 512 → s ≡ opening ks → 0 < length s → length h.ms ≡ length hs → ⊥
      too_long [] n e lt count = omega (arith, ap length e)
      too_long (k ∷ ks) n e lt count = omega (arith, length-append h.ms (k ∷ ks))

-- Behind a mark stands a byte that is no space.
pub breaks_space : (line : List ℕ) (hs : List Held) (at : ℕ) (r : Held × ℕ) → Reached line hs at → 0 < length line → length hs < 512 → read_mark (drop at line) at ≡ Ok r → r.1 < length line → (get_or line r.1 0 ≡ 32 → ⊥) → Breaks line r.1
breaks_space line hs at r h filled few p lt space =
    let f = mark_sound (drop at line) at r p in
    let n = length (spell f.m) in
    let end : r.1 ≡ at + n = ap (λ (q : Held × ℕ). q.1) f.is in
    let whole = with_mark line hs at r h f in
    let size = mark_end line hs at r h f in
    let b = get_or line r.1 0 in
    let tail = drop (r.1 + 1) line in
    let rest = behind_end line (opening h.ms ++ spell f.m) f.rest r.1 whole size lt in
    let at-line : drop at line ≡ spell f.m ++ (b ∷ tail) = f.whole ∙ ap (λ l. spell f.m ++ l) rest in
    let long = ap length at-line ∙ length-append (spell f.m) (b ∷ tail) in
    let count = held_count line hs at h in
    let front : Front (take (at + n) line) = (
      h.ms ++ (f.m ∷ []),
      32 ∷ [],
      omega (arith, length_push h.ms f.m),
      ap (λ l. l ++ (32 ∷ [])) (ap (λ k. take k line) (sym end) ∙ ap (take r.1) whole ∙ take_at (opening h.ms ++ spell f.m) f.rest r.1 size)
          ∙ append_assoc (opening h.ms) (spell f.m) (32 ∷ []) ∙ sym (opening_append h.ms (f.m ∷ [])),
    ) in
    let stops = subst (ends f.m) rest f.stops in
    let cut : take (n + 1) (drop at line) ≡ spell f.m ++ (b ∷ []) = ap (take (n + 1)) at-line ∙ take_past (spell f.m) (b ∷ tail) n 1 refl in
    subst (Breaks line) (sym end) (breaks line hs at n h filled (omega arith) front
    (λ lt u ks few e. other ks f.m b u space (ends_front f.m b tail u stops) (sym (append_assoc (spell f.m) (b ∷ []) u) ∙ ap (λ l. l ++ u) (sym cut) ∙ e))
    (λ eq. absurd (omega arith))) where
      other : (ks : List Meant) (m : Meant) (b : ℕ) (u : List ℕ) → (b ≡ 32 → ⊥) → ends m (b ∷ u) → spell m ++ (b ∷ u) ≡ opening ks → ⊥
      other [] m b u space e q = omega (arith, ap length q, length-append (spell m) (b ∷ u))
      other (k ∷ ks) m b u space e q =
          let same = front_same (spell m) (spell k) (b ∷ u) (32 ∷ opening ks) (sizes m k (b ∷ u) (32 ∷ opening ks) e (ends_space k (opening ks)) q) q in
          space (ap (λ (l : List ℕ). get_or l 0 0) same.1)

-- ---- what is spelled is read

-- Every front of a path can begin one.
path_front : (line : List ℕ) (ms : List Meant) (k : ℕ) → 0 < length line → Path line ms → Front (take k line)
path_front line ms k long path = (
  ms,
  drop k line ++ (32 ∷ []),
  path.0,
  sym (append_assoc (take k line) (drop k line) (32 ∷ [])) ∙ ap (λ l. l ++ (32 ∷ [])) (take-append-drop k line ∙ path.1) ∙ spelled_open ms (subst (λ (l : List ℕ). 0 < length l) path.1 long),
)

-- A broken line is no path.
broken_no_path : (line : List ℕ) (place : ℕ) (ms : List Meant) → Breaks line place → Path line ms → ⊥
broken_no_path line place ms b path =
    elim (cases_lt place (length line)) [
      | inl lt ↦ b.there lt (path_front line ms (place + 1) (omega arith) path)
      | inr le ↦ let w = b.within in b.ended (omega arith) ms path
    ]

-- All of some bytes stand before a newline.
abbrev InLines : List ℕ → Type 0
InLines [] = Unit {0}
InLines (b ∷ s) = (in_line b ≡ true) × InLines s

in_append : (s t : List ℕ) → InLines s → InLines t → InLines (s ++ t)
in_append [] t a b = b
in_append (x ∷ s) t a b = (a.0, in_append s t a.1 b)

in_digits : (ds : List ℕ) → AllDigits ds → InLines ds
in_digits [] a = tt
in_digits (d ∷ ds) a =
    let low = leb-true 48 d (and_parts _ _ a.0).0 in
    (not_from_false _ (ne_eqb d 10 (λ e. omega arith)), in_digits ds a.1)

in_spell : (m : Meant) → InLines (spell m)
in_spell (branched true) = (refl, tt)
in_spell (branched false) = (refl, tt)
in_spell (turned true) = (refl, tt)
in_spell (turned false) = (refl, tt)
in_spell (fetched true) = (refl, tt)
in_spell (fetched false) = (refl, tt)
in_spell (wrote none) = (refl, tt)
in_spell (wrote (some Exception.K)) = (refl, tt)
in_spell (wrote (some (Exception.F n))) = (refl, in_digits (numeral n) (numeral_digits n))
in_spell (wrote (some (Exception.C n))) = (refl, in_digits (numeral n) (numeral_digits n))
in_spell (wrote (some (Exception.D n))) = (refl, in_digits (numeral n) (numeral_digits n))

in_further : (ms : List Meant) → InLines (further ms)
in_further [] = tt
in_further (m ∷ ms) = (refl, in_append (spell m) (further ms) (in_spell m) (in_further ms))

in_spelled : (ms : List Meant) → InLines (spelled ms)
in_spelled [] = tt
in_spelled (m ∷ ms) = in_append (spell m) (further ms) (in_spell m) (in_further ms)

leading_line : (s : List ℕ) → InLines s → prefix_len in_line s ≡ length s
leading_line [] a = refl
leading_line (b ∷ s) a = cond-true _ _ _ a.0 ∙ omega (arith, leading_line s a.1)

-- No newline stands in what marks are spelled as.
line_spelled : (ms : List Meant) → line_of (spelled ms) ≡ spelled ms
unfolding line_of
line_spelled ms = let all = leading_line (spelled ms) (in_spelled ms) in take_all (prefix_len in_line (spelled ms)) (spelled ms) (omega arith)

-- What is spelled is read back.
pub read_back : (text : List ℕ) (r : Result (List Held) Fault) → LineAnswers (line_of text) r → (ms : List Meant) → length ms ≤ 512 → text ≡ spelled ms → (r ≡ Ok (map held ms)) ⊎ (r ≡ Err Memory)
read_back text (Ok hs) a ms few e =
    let same = spelled_same a.0 ms (sym a.1.1 ∙ ap line_of e ∙ line_spelled ms) in
    inl (ap Ok (a.2 ∙ ap (map held) same))
read_back text (Err f) (inl m) ms few e = inr (ap Err m)
read_back text (Err f) (inr b) ms few e = absurd (broken_no_path (line_of text) b.0 ms b.2 (few, ap line_of e ∙ line_spelled ms))

held_exact : (h : Held) → Exact h → held (mark_of h) ≡ h
held_exact variant.T e = refl
held_exact variant.E e = refl
held_exact variant.L e = refl
held_exact variant.O e = refl
held_exact variant.N e = refl
held_exact variant.X e = refl
held_exact variant.W e = refl
held_exact variant.K e = refl
held_exact (variant.F n) e = ap variant.F (omega arith)
held_exact (variant.C n) e = ap variant.C (omega arith)
held_exact (variant.D n) e = ap variant.D (omega arith)

all_exact : (hs : List Held) → AllExact hs → map held (map mark_of hs) ≡ hs
all_exact [] e = refl
all_exact (h ∷ hs) e = rw (held_exact h e.0, all_exact hs e.1)

-- What is written of marks is read back as they are held.
pub read_again : (text : List ℕ) (r : Result (List Held) Fault) → LineAnswers (line_of text) r → (hs : List Held) → AllExact hs → length hs ≤ 512 → text ≡ spelled (map mark_of hs) → (r ≡ Ok hs) ⊎ (r ≡ Err Memory)
read_again text r a hs e few is = subst (λ l. (r ≡ Ok l) ⊎ (r ≡ Err Memory)) (all_exact hs e) (read_back text r a (map mark_of hs) (omega (arith, length-map hs mark_of)) is)

-- The part of a text that is handed on is its line.
pub line_part : (text : List ℕ) (n : ℕ) → n ≡ prefix_len in_line text → take n text ≡ line_of text
unfolding line_of
line_part text n e = ap (λ k. take k text) e

further_push : (ms : List Meant) (m : Meant) → further (ms ++ (m ∷ [])) ≡ further ms ++ (32 ∷ spell m)
further_push [] m = ap (λ l. 32 ∷ l) (append-nil (spell m))
further_push (k ∷ ms) m = ap (λ l. 32 ∷ l) (ap (λ l. spell k ++ l) (further_push ms m) ∙ sym (append_assoc (spell k) (further ms) (32 ∷ spell m)))

-- One mark more is written: behind a space, where it is not the first.
pub spelled_first : (ms : List Meant) (m : Meant) → length ms ≡ 0 → spelled (ms ++ (m ∷ [])) ≡ spelled ms ++ spell m
spelled_first [] m e = append-nil (spell m)
spelled_first (k ∷ ms) m e = absurd (omega arith)

pub spelled_push : (ms : List Meant) (m : Meant) → 0 < length ms → spelled (ms ++ (m ∷ [])) ≡ (spelled ms ++ (32 ∷ [])) ++ spell m
spelled_push [] m h = absurd (omega arith)
spelled_push (k ∷ ms) m h =
    ap (λ l. spell k ++ l) (further_push ms m) ∙ sym (append_assoc (spell k) (further ms) (32 ∷ spell m))
    ∙ sym (append_assoc (spell k ++ further ms) (32 ∷ []) (spell m))
