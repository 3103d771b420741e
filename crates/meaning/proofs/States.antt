-- The state that symbols and a valuation come to, and terms read in it. Assumes nothing.
use Rattle.std.proofs.Common.{◌≡◌, ℕ, true, false, cond, not, List, [], ◌∷◌, map, refl, ap, ◌∙◌, ap₂}
use mathlib.Core.Path.{fun_ext}
use mathlib.Core.Option.{Option, none, some}
use Rattle.meaning.specs.Values.{bind, eq_z}
use Rattle.meaning.specs.Syntax.{Expression, num, var, att, head, get, op, neg, Condition, tru, fls, con, non, cmp, nil, Write, insert, update, delete, target}
use Rattle.meaning.specs.Evaluation.{Row, attr, Env, value, truth, values}
use Rattle.meaning.specs.Schema.{Schema, key_of}
use Rattle.meaning.specs.Tables.{Table}
use Rattle.meaning.specs.Writes.{grown, altered, changed, dropped, left, lost}
use Rattle.meaning.specs.State.{Held, Cursor, State, at, env, set_int, set_list, set_cursor, set_table}
use Rattle.meaning.specs.Records.{Stand, never, before, on, Symbols, next_i, next_l, row_symbol, map_e, map_c, map_w, exp_of, cond_of, write_of, new_int, new_list, stands, becomes}
use Rattle.meaning.specs.Truth.{Valuation, int_of, list_of, table_of, row_of, given}
use Rattle.meaning.proofs.Basics.{put_map}

-- the cursor that a stand is
abbrev pub cursor_of : Valuation → Stand → Cursor
cursor_of V never = record { rows = []; on = false }
cursor_of V (before n) = record { rows = V.t n; on = false }
cursor_of V (on n) = record { rows = V.t n; on = true }

-- what is held, each thing taken for another
module _ {I L C T I' L' C' T' : Type 0} (f : I → I') (g : L → L') (h : C → C') (u : T → T') where
  -- each thing taken for what it stands for
  abbrev pub map_held : Held I L C T → Held I' L' C' T'
  map_held s = record {
    vars = record { ints = λ x. f (s.vars.ints x); lists = λ x. g (s.vars.lists x); cursors = λ x. h (s.vars.cursors x) };
    tables = record { now = λ t. u (s.tables.now t); saved = λ t. u (s.tables.saved t) };
    taken = s.taken;
  }

  module _ (s : Held I L C T) where
    -- with other parts
    abbrev like : (ℕ → I') → (ℕ → L') → (ℕ → C') → (ℕ → T') → Held I' L' C' T'
    like i l c t = record { vars = record { ints = i; lists = l; cursors = c }; tables = record { now = t; saved = (map_held s).tables.saved }; taken = s.taken }

    held_int : (x : ℕ) (z : I) → map_held (set_int s x z) ≡ set_int (map_held s) x (f z)
    held_int x z = ap (λ i. like i (map_held s).vars.lists (map_held s).vars.cursors (map_held s).tables.now) (put_map f s.vars.ints x z)

    held_list : (x : ℕ) (z : L) → map_held (set_list s x z) ≡ set_list (map_held s) x (g z)
    held_list x z = ap (λ l. like (map_held s).vars.ints l (map_held s).vars.cursors (map_held s).tables.now) (put_map g s.vars.lists x z)

    held_cursor : (v : ℕ) (c : C) → map_held (set_cursor s v c) ≡ set_cursor (map_held s) v (h c)
    held_cursor v c = ap (λ i. like (map_held s).vars.ints (map_held s).vars.lists i (map_held s).tables.now) (put_map h s.vars.cursors v c)

    held_table : (t : ℕ) (x : T) → map_held (set_table s t x) ≡ set_table (map_held s) t (u x)
    held_table t x = ap (like (map_held s).vars.ints (map_held s).vars.lists (map_held s).vars.cursors) (put_map u s.tables.now t x)

-- the state that the symbols stand for
abbrev pub state : Symbols → Valuation → State
state σ V = map_held (int_of V) (list_of V) (cursor_of V) (table_of V) σ.held

-- ---- terms

module _ {I L A I' L' A' : Type 0} (f : I → I') (g : L → L') (h : A → A') (η : Env I' L' A') where
  -- what the names stand for before they were mapped
  abbrev pub pull : Env I L A
  pull = record { int = λ x. η.int (f x); list = λ x. η.list (g x); row = λ x. η.row (h x) }

  pub value_map : (r : Option Row) (e : Expression I L A) → value η r (map_e f g h e) ≡ value pull r e
  value_map r (num z) = refl
  value_map r (var x) = refl
  value_map r (att k) = refl
  value_map r (head x) = refl
  value_map r (get x k) = refl
  value_map r (op o a b) = rw (value_map r a, value_map r b)
  value_map r (neg a) = rw (value_map r a)

  pub truth_map : (r : Option Row) (c : Condition I L A) → truth η r (map_c f g h c) ≡ truth pull r c
  truth_map r tru = refl
  truth_map r fls = refl
  truth_map r (con o a b) = rw (truth_map r a, truth_map r b)
  truth_map r (non a) = rw (truth_map r a)
  truth_map r (cmp o a b) = rw (value_map r a, value_map r b)
  truth_map r (nil x) = refl

  pub values_map : (es : List (Expression I L A)) → values η (map (map_e f g h) es) ≡ values pull es
  values_map [] = refl
  values_map (e ∷ es) = rw (value_map none e, values_map es)

  pub left_map : (S : Schema) (R : ℕ) (w : Write I L A) (T : Table) → left S R η (map_w f g h w) T ≡ left S R pull w T
  left_map S R (insert t es) T = ap (λ p. bind p (λ r. grown R (key_of S t) r T)) (values_map es)
  left_map S R (update t k e c) T = ap₂ (λ p q. changed (key_of S t) (altered k p q) T) (fun_ext (λ r. value_map (some r) e)) (fun_ext (λ r. truth_map (some r) c))
  left_map S R (delete t c) T = ap (λ p. dropped p T) (fun_ext (λ r. truth_map (some r) c))

  pub lost_map : (S : Schema) (w : Write I L A) (r : Row) → lost S η (map_w f g h w) r ≡ lost S pull w r
  lost_map S (insert t es) r = refl
  lost_map S (update t k e c) r =
      ap₂ (λ p q. bind p (λ b. cond b (bind q (λ z. some (not (eq_z z (attr r (key_of S t)))))) (some false))) (truth_map (some r) c) (value_map (some r) e)
  lost_map S (delete t c) r = truth_map (some r) c

  pub target_map : (w : Write I L A) → target (map_w f g h w) ≡ target w
  target_map (insert t es) = refl
  target_map (update t k e c) = refl
  target_map (delete t c) = refl

row_at : (V : Valuation) (c : Stand) → row_of V (row_symbol c) ≡ at (cursor_of V c)
row_at V never = refl
row_at V (before n) = refl
row_at V (on n) = refl

-- the symbols' values are those of the state's variables
pub pulled : (σ : Symbols) (V : Valuation) → pull σ.held.vars.ints σ.held.vars.lists (λ v. row_symbol (σ.held.vars.cursors v)) (given V) ≡ env (state σ V)
pulled σ V = ap {B = Env ℕ ℕ ℕ} (λ ρ. record { int = (env (state σ V)).int; list = (env (state σ V)).list; row = ρ }) (fun_ext (λ v. row_at V (σ.held.vars.cursors v)))

module _ (σ : Symbols) (V : Valuation) where
  pub exp_is : (r : Option Row) (e : Expression ℕ ℕ ℕ) → value (given V) r (exp_of σ e) ≡ value (env (state σ V)) r e
  exp_is r e = value_map _ _ _ (given V) r e ∙ ap (λ η. value η r e) (pulled σ V)

  pub cnd_is : (r : Option Row) (c : Condition ℕ ℕ ℕ) → truth (given V) r (cond_of σ c) ≡ truth (env (state σ V)) r c
  cnd_is r c = truth_map _ _ _ (given V) r c ∙ ap (λ η. truth η r c) (pulled σ V)

  pub left_is : (S : Schema) (R : ℕ) (w : Write ℕ ℕ ℕ) (T : Table) → left S R (given V) (write_of σ w) T ≡ left S R (env (state σ V)) w T
  left_is S R w T = left_map _ _ _ (given V) S R w T ∙ ap (λ η. left S R η w T) (pulled σ V)

  pub lost_is : (S : Schema) (w : Write ℕ ℕ ℕ) → lost S (given V) (write_of σ w) ≡ lost S (env (state σ V)) w
  lost_is S w = fun_ext (λ r. lost_map _ _ _ (given V) S w r ∙ ap (λ η. lost S η w r) (pulled σ V))

-- ---- new symbols

module _ (σ : Symbols) (V : Valuation) where
  pub state_int : (x : ℕ) → state (new_int σ x) V ≡ set_int (state σ V) x (V.i (next_i σ))
  state_int x = held_int (int_of V) (list_of V) (cursor_of V) (table_of V) σ.held x (some (next_i σ))

  pub state_list : (x : ℕ) → state (new_list σ x) V ≡ set_list (state σ V) x (V.l (next_l σ))
  state_list x = held_list (int_of V) (list_of V) (cursor_of V) (table_of V) σ.held x (some (next_l σ))

  pub state_stands : (v : ℕ) (c : Stand) → state (stands σ v c) V ≡ set_cursor (state σ V) v (cursor_of V c)
  state_stands v c = held_cursor (int_of V) (list_of V) (cursor_of V) (table_of V) σ.held v c

  pub state_becomes : (t n : ℕ) → state (becomes σ t n) V ≡ set_table (state σ V) t (V.t n)
  state_becomes t n = held_table (int_of V) (list_of V) (cursor_of V) (table_of V) σ.held t (some n)
