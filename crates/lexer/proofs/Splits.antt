-- The longest run at the front parts some bytes in two, and so does a token.
use Rattle.std.proofs.Common.{◌≡◌, ℕ, suc, Bool, true, false, not, ◌&&◌, List, [], ◌∷◌, ◌++◌, length, take, drop, sym, refl, ap, ◌∙◌, append-nil, one-add}
use Rattle.std.specs.List.{prefix_len}
use Rattle.std.proofs.lemmas.List.{take_at, drop_at}
use Rattle.std.proofs.lemmas.Bool.{cond-true, cond-false, and_from, and_parts}
use Rattle.lexer.specs.Runs.{Run}
use Rattle.lexer.specs.Runs.{goes, reach_of}

-- All of some bytes go on with a run.
abbrev pub every : Run → List ℕ → Bool
every run [] = true
every run (b ∷ s) = goes run b && every run s

-- A run ends before these bytes.
abbrev pub stopped : Run → List ℕ → Bool
stopped run [] = true
stopped run (b ∷ s) = not (goes run b)

reach_yes : (run : Run) (b : ℕ) (s : List ℕ) → goes run b ≡ true → reach_of run (b ∷ s) ≡ suc (reach_of run s)
unfolding reach_of
reach_yes run b s g = cond-true _ _ _ g ∙ one-add (prefix_len (goes run) s)

reach_no : (run : Run) (b : ℕ) (s : List ℕ) → goes run b ≡ false → reach_of run (b ∷ s) ≡ 0
unfolding reach_of
reach_no run b s g = cond-false _ _ _ g

-- A run and what does not go on with it: the run is the longest.
pub reach_glued : (run : Run) (front back : List ℕ) → every run front ≡ true → stopped run back ≡ true → reach_of run (front ++ back) ≡ length front
unfolding reach_of
reach_glued run [] [] e s = refl
reach_glued run [] (b ∷ back) e s =
    let no : goes run b ≡ false = elim (goes run b) as (λ v. not v ≡ true → v ≡ false) [ true ↦ λ h. sym h | false ↦ λ h. refl ] s in
    reach_no run b back no
reach_glued run (b ∷ front) back e s =
    reach_yes run b (front ++ back) (and_parts (goes run b) (every run front) e).0
    ∙ ap suc (reach_glued run front back (and_parts (goes run b) (every run front) e).1 s)

-- The longest run at the front, and the rest.
pub record Split (run : Run) (s : List ℕ) : Type 0 where
  pub front : List ℕ
  pub back : List ℕ
  pub whole : s ≡ front ++ back
  pub all : every run front ≡ true
  pub ends : stopped run back ≡ true
  pub size : reach_of run s ≡ length front
  pub taken : take (reach_of run s) s ≡ front
  pub left : drop (reach_of run s) s ≡ back

made_split : (run : Run) (s front back : List ℕ) → s ≡ front ++ back → every run front ≡ true → stopped run back ≡ true → Split run s
made_split run s front back w a e =
    let n : reach_of run s ≡ length front = ap (reach_of run) w ∙ reach_glued run front back a e in
    record {
      front = front;
      back = back;
      whole = w;
      all = a;
      ends = e;
      size = n;
      taken = ap (take (reach_of run s)) w ∙ take_at front back (reach_of run s) (sym n);
      left = ap (drop (reach_of run s)) w ∙ drop_at front back (reach_of run s) (sym n);
    }

split_more : (run : Run) (b : ℕ) (s : List ℕ) → Split run s → (v : Bool) → goes run b ≡ v → Split run (b ∷ s)
split_more run b s p true g = made_split run (b ∷ s) (b ∷ p.front) p.back (ap (λ r. b ∷ r) p.whole) (and_from _ _ g p.all) p.ends
split_more run b s p false g = made_split run (b ∷ s) [] (b ∷ s) refl refl (ap not g)

pub split : (run : Run) (s : List ℕ) → Split run s
split run [] = made_split run [] [] [] refl refl refl
split run (b ∷ s) = split_more run b s (split run s) (goes run b) refl

-- Bytes that all go on are taken whole, alone or before what does not go on.
pub taken_glued : (run : Run) (front back : List ℕ) → every run front ≡ true → stopped run back ≡ true → take (reach_of run (front ++ back)) (front ++ back) ≡ front
taken_glued run front back a e = take_at front back _ (sym (reach_glued run front back a e))

pub taken_alone : (run : Run) (front : List ℕ) → every run front ≡ true → take (reach_of run front) front ≡ front
taken_alone run front a = rw append-nil at (taken_glued run front [] a refl)

-- What is taken whole all goes on.
pub every_taken : (run : Run) (s : List ℕ) → take (reach_of run s) s ≡ s → every run s ≡ true
every_taken run s h = let p = split run s in ap (every run) (sym h ∙ p.taken) ∙ p.all
