-- Symbols whose state depends only on the symbols used so far. Assumes nothing.
use Rattle.std.proofs.Common.{◌≡◌, ℕ, false, List, ℤ, sym, ap, ◌∙◌, ap₂, arith}
use Rattle.meaning.specs.Syntax.{Silent, assign, empty, tail, read, load, select, commit, rollback}
use Rattle.meaning.specs.Tables.{Table}
use Rattle.meaning.specs.State.{Cursor, set_int, set_list, set_cursor, set_table, read_one, load_one, with_tables, committed, rolled_back}
use Rattle.meaning.specs.Records.{Stand, before, Symbols, next_i, next_l, next_t, new_int, new_list, new_table, stands, becomes, read_s, load_s, commit_s, rollback_s}
use Rattle.meaning.specs.Conditions.{silent_symbols}
use Rattle.meaning.specs.Truth.{Valuation, put_i, put_l, put_t}
use Rattle.meaning.proofs.Basics.{put_same}
use Rattle.meaning.proofs.Meaning.{Agree, agree_int, agree_list, agree_table, Fixed}
use Rattle.meaning.proofs.States.{cursor_of, state, state_int, state_list, state_stands, state_becomes}

-- the state depends only on the symbols that there are
abbrev pub Stable : Symbols → Type 0
Stable σ = Fixed σ (state σ)

module _ (σ : Symbols) (st : Stable σ) where
  pub stable_int : (x : ℕ) → Stable (new_int σ x)
  stable_int x V V' a =
      let b : Agree σ V V' = record { ints = λ m h. a.ints m (omega arith); lists = a.lists; tables = a.tables } in
      state_int σ V x ∙ ap₂ (λ s z. set_int s x z) (st V V' b) (a.ints σ.used.i (omega arith)) ∙ sym (state_int σ V' x)

  pub stable_list : (x : ℕ) → Stable (new_list σ x)
  stable_list x V V' a =
      let b : Agree σ V V' = record { ints = a.ints; lists = λ m h. a.lists m (omega arith); tables = a.tables } in
      state_list σ V x ∙ ap₂ (λ s z. set_list s x z) (st V V' b) (a.lists σ.used.l (omega arith)) ∙ sym (state_list σ V' x)

  pub stable_table : Stable (new_table σ)
  stable_table V V' a = st V V' (record { ints = a.ints; lists = a.lists; tables = λ m h. a.tables m (omega arith) })

  pub stable_stands : (v : ℕ) (c : Stand) → Fixed σ (λ V. cursor_of V c) → Stable (stands σ v c)
  stable_stands v c fix V V' a =
      state_stands σ V v c ∙ ap₂ (λ s z. set_cursor s v z) (st V V' a) (fix V V' a) ∙ sym (state_stands σ V' v c)

  pub stable_becomes : (t n : ℕ) → Fixed σ (λ V. V.t n) → Stable (becomes σ t n)
  stable_becomes t n fix V V' a =
      state_becomes σ V t n ∙ ap₂ (λ s z. set_table s t z) (st V V' a) (fix V V' a) ∙ sym (state_becomes σ V' t n)

  pub stable_read : Stable (read_s σ)
  stable_read V V' a = ap read_one (st V V' a)

  pub stable_load : Stable (load_s σ)
  stable_load V V' a = ap load_one (st V V' a)

  pub stable_commit : Stable (commit_s σ)
  stable_commit V V' a = ap (λ s. with_tables s (committed s.tables)) (st V V' a)

  pub stable_roll : Stable (rollback_s σ)
  stable_roll V V' a = ap (λ s. with_tables s (rolled_back s.tables)) (st V V' a)

  -- the state after a definition
  pub int_put : (V : Valuation) (x : ℕ) (z : ℤ) → state (new_int σ x) (put_i V (next_i σ) z) ≡ set_int (state σ V) x z
  int_put V x z = state_int σ (put_i V (next_i σ) z) x ∙ ap₂ (λ s y. set_int s x y) (sym (st V (put_i V (next_i σ) z) (agree_int σ V z))) (put_same V.i (next_i σ) z)

  pub list_put : (V : Valuation) (x : ℕ) (z : List ℤ) → state (new_list σ x) (put_l V (next_l σ) z) ≡ set_list (state σ V) x z
  list_put V x z = state_list σ (put_l V (next_l σ) z) x ∙ ap₂ (λ s y. set_list s x y) (sym (st V (put_l V (next_l σ) z) (agree_list σ V z))) (put_same V.l (next_l σ) z)

  pub table_put : (V : Valuation) (T : Table) → state σ (put_t V (next_t σ) T) ≡ state σ V
  table_put V T = sym (st V (put_t V (next_t σ) T) (agree_table σ V T))

-- the symbols after a silent statement
pub stable_silent : (x : Silent) (σ : Symbols) → Stable σ → Stable (silent_symbols σ x)
stable_silent (assign x e) σ st = stable_int σ st x
stable_silent (empty x) σ st = stable_list σ st x
stable_silent (tail x y) σ st = stable_list σ st x
stable_silent (read x) σ st = stable_int (read_s σ) (stable_read σ st) x
stable_silent (load x) σ st = stable_list (load_s σ) (stable_load σ st) x
stable_silent (select v t c) σ st =
    stable_stands (new_table σ) (stable_table σ st) v (before (next_t σ)) (λ V V' a. ap {B = Cursor} (λ X. record { rows = X; on = false }) (a.tables σ.used.t (omega arith)))
stable_silent commit σ st = stable_commit σ st
stable_silent rollback σ st = stable_roll σ st
