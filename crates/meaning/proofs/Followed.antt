-- Following answers `follows` exactly for the path that the run follows; a finished trace is that path. Assumes nothing.
use Rattle.std.proofs.Common.{◌≡◌, ℕ, zero, suc, ◌<◌, ◌≤◌, min, Bool, true, false, ◌↔◌, List, [], ◌∷◌, length, take, sym, refl, ap, ◌∙◌, subst, ap₂, subst₂, arith, tests}
use mathlib.Core.Logic.Iff
use Rattle.meaning.specs.Limits.{longest_path}
use Rattle.meaning.specs.Syntax.{Block, Mark}
use Rattle.meaning.specs.Schema.{Schema, Model}
use Rattle.meaning.specs.Tables.{Table, Case, begun, lawful_tables, Lawful}
use Rattle.meaning.specs.State.{Stored, State, start}
use Rattle.meaning.specs.Run.{Follows, uncaught, leaving}
use Rattle.meaning.specs.Paths.{same_mark}
use Rattle.meaning.specs.Following.{Coming, makes, escapes, closes, stalls, advance, Verdict, follows, departs, halted, unlawful, Followed, thrown_at, closing, further, at_path_end, at_mark, follow, following, unlawful_start, Traced, Finished, at_full, at_room, trace_from, tracing}
use Rattle.meaning.proofs.Basics.{nil_cons, cons_nil, cons_tail, false_true}
use Rattle.meaning.proofs.Moving.{From}
use Rattle.meaning.proofs.Coming.{Reach, reaches}

-- ---- tests

pub same_mark_lem : (m m' : Mark) → (same_mark m m' ≡ true) ↔ (m' ≡ m)
same_mark_lem m m' = (λ q. grind (arith, tests), λ q. grind (arith, tests))

-- ---- following

-- only one verdict is `follows`
abbrev Follow : Verdict → Type 0
Follow follows = Unit {0}
Follow departs = ⊥
Follow halted = ⊥
Follow unlawful = ⊥

yes_follows : (v : Verdict) → v ≡ follows → Follow v
yes_follows v e = subst Follow (sym e) tt

thrown_iff : (p : List Mark) (s : State) → ((thrown_at p s).verdict ≡ follows) ↔ (p ≡ [])
thrown_iff [] s = (λ q. refl, λ q. refl)
thrown_iff (m ∷ p) s = (λ q. absurd (yes_follows departs q), λ q. absurd (cons_nil q))

module _ (S : Schema) (R : ℕ) (κ : Case) where
  pub follow_iff : (p : List Mark) (k : Block) (s : State) → ((follow S R κ p k s).verdict ≡ follows) ↔ From S R κ k s p
  follow_iff [] k s = Iff.trans (go (advance S R κ k s)) (Iff.symm (reaches S R κ k s []))
    where
      go : (c : Coming) → ((at_path_end c).verdict ≡ follows) ↔ Reach S R κ c []
      go (makes m k s) = (yes_follows departs, λ f. absurd f)
      go (escapes m s) = (yes_follows departs, λ f. absurd f)
      go (closes s) = (λ q. tt, λ q. refl)
      go (stalls s) = (yes_follows halted, λ f. absurd f)
  follow_iff (m ∷ p) k s = Iff.trans (go (follow_iff p) (advance S R κ k s)) (Iff.symm (reaches S R κ k s (m ∷ p)))
    where
      on : (k' : Block) (s' : State) (m' : Mark) → ((follow S R κ p k' s').verdict ≡ follows) ↔ From S R κ k' s' p → (b : Bool) → same_mark m m' ≡ b →
          ((at_mark m p (follow S R κ p) (makes m' k' s')).verdict ≡ follows) ↔ ((m' ≡ m) × From S R κ k' s' p)
      on k' s' m' rec true e = rw (e, at_mark) (λ q. ((same_mark_lem m m').0 e, rec.0 q), λ q. rec.1 q.1)
      on k' s' m' rec false e = rw (e, at_mark) (λ q. absurd (yes_follows departs q), λ q. absurd (false_true (sym e ∙ (same_mark_lem m m').1 q.0)))

      out : (s' : State) (m' : Mark) → (b : Bool) → same_mark m m' ≡ b → ((at_mark m p (follow S R κ p) (escapes m' s')).verdict ≡ follows) ↔ ((m' ≡ m) × (p ≡ []))
      out s' m' true e = rw (e, at_mark) (λ q. ((same_mark_lem m m').0 e, (thrown_iff p s').0 q), λ q. (thrown_iff p s').1 q.1)
      out s' m' false e = rw (e, at_mark) (λ q. absurd (yes_follows departs q), λ q. absurd (false_true (sym e ∙ (same_mark_lem m m').1 q.0)))

      go : ((k : Block) (s : State) → ((follow S R κ p k s).verdict ≡ follows) ↔ From S R κ k s p) →
          (c : Coming) → ((at_mark m p (follow S R κ p) c).verdict ≡ follows) ↔ Reach S R κ c (m ∷ p)
      go rec (makes m' k' s') = on k' s' m' (rec k' s') (same_mark m m') refl
      go rec (escapes m' s') = out s' m' (same_mark m m') refl
      go rec (closes s') = (yes_follows departs, λ f. absurd f)
      go rec (stalls s') = (yes_follows halted, λ f. absurd f)

pub following_iff : (M : Model) (R : ℕ) (κ : Case) (p : List Mark) (before : Stored Table) → ((following M R κ p before).verdict ≡ follows) ↔ (Lawful M.schema R κ × Follows M R κ p)
following_iff M R κ p before = go (lawful_tables M.schema R (begun M.schema κ)) refl
  where
    go : (b : Bool) → lawful_tables M.schema R (begun M.schema κ) ≡ b → (◌≡◌ {A = Verdict} (following M R κ p before).verdict follows) ↔ (Lawful M.schema R κ × Follows M R κ p)
    go true e = rw (e, following) (λ q. (refl, (follow_iff M.schema R κ p M.program (start M.schema κ)).0 q), λ q. (follow_iff M.schema R κ p M.program (start M.schema κ)).1 q.1)
    go false e = rw (e, following) (λ q. absurd (yes_follows unlawful q), λ q. absurd (false_true q.0))

-- ---- tracing

-- a trace as a path that is followed to its last mark
abbrev complete : Traced → Followed
complete t = record { verdict = follows; agreed = length t.marks; tables = t.tables }

at_same : (m : Mark) (p : List Mark) (more : Block → State → Followed) (k : Block) (s : State) → at_mark m p more (makes m k s) ≡ further (more k s)
at_same m p more k s = rw ((same_mark_lem m m).1 refl, at_mark)

at_last : (m : Mark) (more : Block → State → Followed) (s : State) → at_mark m [] more (escapes m s) ≡ further (closing follows uncaught s)
at_last m more s = rw ((same_mark_lem m m).1 refl, at_mark)

module _ (S : Schema) (R : ℕ) (κ : Case) where
  pub trace_followed : (n : ℕ) (k : Block) (s : State) → Finished (trace_from S R κ n k s).ending → follow S R κ (trace_from S R κ n k s).marks k s ≡ complete (trace_from S R κ n k s)
  trace_followed zero k s = go (advance S R κ k s) refl
    where
      go : (c : Coming) → advance S R κ k s ≡ c → Finished (at_full c).ending → follow S R κ (at_full c).marks k s ≡ complete (at_full c)
      go (makes m k' s') e h = absurd h
      go (escapes m s') e h = absurd h
      go (closes s') e h = ap at_path_end e
      go (stalls s') e h = absurd h
  trace_followed (suc n) k s = go (trace_followed n) (advance S R κ k s) refl
    where
      go : ((k : Block) (s : State) → Finished (trace_from S R κ n k s).ending → follow S R κ (trace_from S R κ n k s).marks k s ≡ complete (trace_from S R κ n k s)) →
          (c : Coming) → advance S R κ k s ≡ c → Finished (at_room (trace_from S R κ n) c).ending → follow S R κ (at_room (trace_from S R κ n) c).marks k s ≡ complete (at_room (trace_from S R κ n) c)
      go rec (makes m k' s') e h =
          let p : List Mark = (trace_from S R κ n k' s').marks in
          ap (at_mark m p (follow S R κ p)) e ∙ at_same m p (follow S R κ p) k' s' ∙ ap further (rec k' s' h)
      go rec (escapes m s') e h = ap (at_mark m [] (follow S R κ [])) e ∙ at_last m (follow S R κ []) s'
      go rec (closes s') e h = ap at_path_end e
      go rec (stalls s') e h = absurd h

  -- a run that follows p, with room for its marks, is traced as p
  abbrev Is : Traced → List Mark → Type 0
  Is t p = Finished t.ending × (t.marks ≡ p)

  pub followed_trace : (p : List Mark) (n : ℕ) (k : Block) (s : State) → length p ≤ n → From S R κ k s p → Is (trace_from S R κ n k s) p
  followed_trace [] n k s le f = go n (advance S R κ k s) refl ((reaches S R κ k s []).0 f)
    where
      go : (n : ℕ) (c : Coming) → advance S R κ k s ≡ c → Reach S R κ c [] → Is (trace_from S R κ n k s) []
      go n (makes m k' s') e h = absurd h
      go n (escapes m s') e h = absurd h
      go zero (closes s') e h = subst (λ c. Is (at_full c) []) (sym e) (tt, refl)
      go (suc n) (closes s') e h = subst (λ c. Is (at_room (trace_from S R κ n) c) []) (sym e) (tt, refl)
      go n (stalls s') e h = absurd h
  followed_trace (m ∷ p) zero k s le f = absurd (omega arith)
  followed_trace (m ∷ p) (suc n) k s le f = go (λ k s. followed_trace p n k s (omega arith)) (advance S R κ k s) refl ((reaches S R κ k s (m ∷ p)).0 f)
    where
      go : ((k : Block) (s : State) → From S R κ k s p → Is (trace_from S R κ n k s) p) → (c : Coming) → advance S R κ k s ≡ c → Reach S R κ c (m ∷ p) → Is (trace_from S R κ (suc n) k s) (m ∷ p)
      go rec (makes m' k' s') e h =
          let t = rec k' s' h.1 in
          subst (λ c. Is (at_room (trace_from S R κ n) c) (m ∷ p)) (sym e) (t.0, ap₂ (λ m p. m ∷ p) h.0 t.1)
      go rec (escapes m' s') e h = subst (λ c. Is (at_room (trace_from S R κ n) c) (m ∷ p)) (sym e) (tt, ap₂ (λ m p. m ∷ p) h.0 (sym h.1))
      go rec (closes s') e h = absurd h
      go rec (stalls s') e h = absurd h

module _ (M : Model) (R : ℕ) (κ : Case) (buffer : ℕ) (before : Stored Table) where
  -- the trace of a lawful case
  abbrev trace_of : Traced
  trace_of = trace_from M.schema R κ (min buffer longest_path) M.program (start M.schema κ)

  loaded_tracing : lawful_tables M.schema R (begun M.schema κ) ≡ true → tracing M R κ buffer before ≡ trace_of
  loaded_tracing e = rw (e, tracing)

  loaded_following : (p : List Mark) → lawful_tables M.schema R (begun M.schema κ) ≡ true → following M R κ p before ≡ follow M.schema R κ p M.program (start M.schema κ)
  loaded_following p e = rw (e, following)

  unloaded_following : (p : List Mark) → lawful_tables M.schema R (begun M.schema κ) ≡ false → following M R κ p before ≡ record { verdict = unlawful; agreed = 0; tables = before }
  unloaded_following p e = rw (e, following)

  unloaded_tracing : lawful_tables M.schema R (begun M.schema κ) ≡ false → (tracing M R κ buffer before).ending ≡ unlawful_start
  unloaded_tracing e = rw (e, tracing)

  pub tracing_followed : Finished (tracing M R κ buffer before).ending → following M R κ (tracing M R κ buffer before).marks before ≡ complete (tracing M R κ buffer before)
  tracing_followed h = go (lawful_tables M.schema R (begun M.schema κ)) refl
    where
      Wanted : Traced → Type 0
      Wanted t = Finished t.ending → following M R κ t.marks before ≡ complete t

      go : (b : Bool) → lawful_tables M.schema R (begun M.schema κ) ≡ b → following M R κ (tracing M R κ buffer before).marks before ≡ complete (tracing M R κ buffer before)
      go true e = subst Wanted (sym (loaded_tracing e)) (λ q. loaded_following trace_of.marks e ∙ trace_followed M.schema R κ (min buffer longest_path) M.program (start M.schema κ) q) h
      go false e = absurd (subst Finished (unloaded_tracing e) h)

  pub followed_tracing : (p : List Mark) → length p ≤ min buffer longest_path → Lawful M.schema R κ → Follows M R κ p → Is M.schema R κ (tracing M R κ buffer before) p
  followed_tracing p le l f =
      subst (λ t. Is M.schema R κ t p) (sym (loaded_tracing l)) (followed_trace M.schema R κ p (min buffer longest_path) M.program (start M.schema κ) le f)

-- ---- the marks agreed

-- the marks agreed are the first of the run's and of the path's; where the run departs, one more is not
abbrev Agrees : Followed → List Mark → List Mark → Type 0
Agrees f ms p = (take f.agreed ms ≡ take f.agreed p) × (f.verdict ≡ departs → ¬ (take (suc f.agreed) ms ≡ take (suc f.agreed) p))

-- only one verdict is `departs`
abbrev Departs : Verdict → Type 0
Departs follows = ⊥
Departs departs = Unit {0}
Departs halted = ⊥
Departs unlawful = ⊥

yes_departs : (v : Verdict) → v ≡ departs → Departs v
yes_departs v e = subst Departs (sym e) tt

agrees_more : (m : Mark) (f : Followed) (ms p : List Mark) → Agrees f ms p → Agrees (further f) (m ∷ ms) (m ∷ p)
agrees_more m f ms p h = (ap (λ q. m ∷ q) h.0, λ e q. h.1 e (cc))

agrees_none : (s : State) (ms p : List Mark) → ¬ (take 1 ms ≡ take 1 p) → Agrees (closing departs leaving s) ms p
agrees_none s ms p ne = (refl, λ e q. ne q)

agrees_last : (m : Mark) (p : List Mark) (s : State) → Agrees (further (thrown_at p s)) (m ∷ []) (m ∷ p)
agrees_last m [] s = (refl, λ e. absurd (yes_departs follows e))
agrees_last m (x ∷ p) s = (refl, λ e q. nil_cons (cons_tail q))

module _ (S : Schema) (R : ℕ) (κ : Case) where
  agreed_from : (p : List Mark) (n : ℕ) (k : Block) (s : State) → (follow S R κ p k s).agreed < n → Agrees (follow S R κ p k s) (trace_from S R κ n k s).marks p
  agreed_from p zero k s l = absurd (omega arith)
  agreed_from [] (suc n) k s l = go (advance S R κ k s)
    where
      go : (c : Coming) → Agrees (at_path_end c) (at_room (trace_from S R κ n) c).marks []
      go (makes m k' s') = agrees_none s' (m ∷ (trace_from S R κ n k' s').marks) [] cons_nil
      go (escapes m s') = agrees_none s' (m ∷ []) [] cons_nil
      go (closes s') = (refl, λ e. absurd (yes_departs follows e))
      go (stalls s') = (refl, λ e. absurd (yes_departs halted e))
  agreed_from (m ∷ p) (suc n) k s l = go (agreed_from p n) (advance S R κ k s) l
    where
      met : (m' : Mark) (k' : Block) (s' : State) → ((follow S R κ p k' s').agreed < n → Agrees (follow S R κ p k' s') (trace_from S R κ n k' s').marks p) →
          (b : Bool) → same_mark m m' ≡ b → (at_mark m p (follow S R κ p) (makes m' k' s')).agreed < suc n → Agrees (at_mark m p (follow S R κ p) (makes m' k' s')) (m' ∷ (trace_from S R κ n k' s').marks) (m ∷ p)
      met m' k' s' rec true e =
          rw (e, at_mark) (λ lt. subst (λ x. Agrees (further (follow S R κ p k' s')) (m' ∷ (trace_from S R κ n k' s').marks) (x ∷ p)) ((same_mark_lem m m').0 e)
          (agrees_more m' (follow S R κ p k' s') (trace_from S R κ n k' s').marks p (rec (omega arith))))
      met m' k' s' rec false e =
          rw (e, at_mark) (λ lt. agrees_none s' (m' ∷ (trace_from S R κ n k' s').marks) (m ∷ p) (λ q. false_true (sym e ∙ (same_mark_lem m m').1 (cc))))

      left_by : (m' : Mark) (s' : State) (b : Bool) → same_mark m m' ≡ b → Agrees (at_mark m p (follow S R κ p) (escapes m' s')) (m' ∷ []) (m ∷ p)
      left_by m' s' true e = rw (e, at_mark) (subst (λ x. Agrees (further (thrown_at p s')) (m' ∷ []) (x ∷ p)) ((same_mark_lem m m').0 e) (agrees_last m' p s'))
      left_by m' s' false e = rw (e, at_mark) (agrees_none s' (m' ∷ []) (m ∷ p) (λ q. false_true (sym e ∙ (same_mark_lem m m').1 (cc))))

      go : ((k : Block) (s : State) → (follow S R κ p k s).agreed < n → Agrees (follow S R κ p k s) (trace_from S R κ n k s).marks p) →
          (c : Coming) → (at_mark m p (follow S R κ p) c).agreed < suc n → Agrees (at_mark m p (follow S R κ p) c) (at_room (trace_from S R κ n) c).marks (m ∷ p)
      go rec (makes m' k' s') lt = met m' k' s' (rec k' s') (same_mark m m') refl lt
      go rec (escapes m' s') lt = left_by m' s' (same_mark m m') refl
      go rec (closes s') lt = agrees_none s' [] (m ∷ p) nil_cons
      go rec (stalls s') lt = (refl, λ e. absurd (yes_departs halted e))

pub agreed_marks : (M : Model) (R : ℕ) (κ : Case) (p : List Mark) (buffer : ℕ) (before : Stored Table) → (following M R κ p before).agreed < min buffer longest_path →
    Agrees (following M R κ p before) (tracing M R κ buffer before).marks p
agreed_marks M R κ p buffer before = go (lawful_tables M.schema R (begun M.schema κ)) refl
  where
    Wanted : Followed → Traced → Type 0
    Wanted f t = f.agreed < min buffer longest_path → Agrees f t.marks p

    go : (b : Bool) → lawful_tables M.schema R (begun M.schema κ) ≡ b → Wanted (following M R κ p before) (tracing M R κ buffer before)
    go true e =
        subst₂ Wanted (sym (loaded_following M R κ buffer before p e)) (sym (loaded_tracing M R κ buffer before e))
        (agreed_from M.schema R κ p (min buffer longest_path) M.program (start M.schema κ))
    go false e =
        subst (λ f. Wanted f (tracing M R κ buffer before)) (sym (unloaded_following M R κ buffer before p e))
        (λ lt. (refl, λ z. absurd (yes_departs unlawful z)))
