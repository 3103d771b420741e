-- What a write leaves, the tests that fit it, and what it comes to. Assumes nothing.
use Rattle.std.proofs.Math.Option.{Option, none, some}
use Rattle.std.specs.Prelude.{ℕ, Bool, false, cond, not, ◌&&◌, ◌||◌, List, [], ◌∷◌, ◌++◌, map, length, ℤ, ◌==◌, nat_lt}
use Rattle.meaning.specs.Values.{bind, eq_z}
use Rattle.meaning.specs.Syntax.{Write, insert, update, delete, target, Exception, K, F, C, D}
use Rattle.meaning.specs.Evaluation.{Row, attr, alter, Env, value, truth, values}
use Rattle.meaning.specs.Schema.{Schema, key_of, ref_at, places, refs_of, checks_of, refs_to}
use Rattle.meaning.specs.Tables.{Table, among, has, distinct, finds, keeps}

-- ---- clauses over the rows of a table: a clause is worked out for every row, and has no value where one row gives none

-- the rows for which c holds
abbrev pub kept : (Row → Option Bool) → Table → Option Table
kept c [] = some []
kept c (r ∷ rs) = bind (c r) (λ b. bind (kept c rs) (λ T. some (cond b (r ∷ T) T)))

-- the rows for which c does not hold
abbrev pub dropped : (Row → Option Bool) → Table → Option Table
dropped c = kept (λ r. bind (c r) (λ b. some (not b)))

-- the row with e for the attribute k, if c chooses it; e is worked out for the chosen rows alone
abbrev pub altered : ℕ → (Row → Option ℤ) → (Row → Option Bool) → Row → Option Row
altered k e c r = bind (c r) (λ b. cond b (bind (e r) (λ z. some (alter r k z))) (some r))

-- each row as f gives it, in the order of the new keys
abbrev pub changed : ℕ → (Row → Option Row) → Table → Option Table
changed key f [] = some []
changed key f (r ∷ rs) = bind (f r) (λ q. bind (changed key f rs) (λ T. some (among key q T)))

-- one row more, unless there are R
abbrev pub grown : (R key : ℕ) → Row → Table → Option Table
grown R key r T = cond (nat_lt (length T) R) (some (among key r T)) none

-- some row of T for which c holds has its key among the values of the attribute `from` in U
abbrev pub holds_one : (key from : ℕ) → Table → (Row → Option Bool) → Table → Option Bool
holds_one key from U c [] = some false
holds_one key from U c (r ∷ rs) = bind (c r) (λ b. bind (holds_one key from U c rs) (λ h. some ((b && has from U (attr r key)) || h)))

-- ---- a write: the table that it leaves, and the tests that fit it

module _ {I L A : Type 0} (S : Schema) where
  -- the table that it leaves of T; none where a clause has no value, or where INSERT meets R rows
  abbrev pub left : ℕ → Env I L A → Write I L A → Table → Option Table
  left R η (insert t es) T = bind (values η es) (λ r. grown R (key_of S t) r T)
  left R η (update t k e c) T = changed (key_of S t) (altered k (λ r. value η (some r) e) (λ r. truth η (some r) c)) T
  left R η (delete t c) T = dropped (λ r. truth η (some r) c) T

  -- the row is deleted, or given a different key
  abbrev pub lost : Env I L A → Write I L A → Row → Option Bool
  lost η (insert t es) r = some false
  lost η (update t k e c) r =
      bind (truth η (some r) c) (λ b. cond b (bind (value η (some r) e) (λ z. some (not (eq_z z (attr r (key_of S t)))))) (some false))
  lost η (delete t c) r = truth η (some r) c

  -- the tests that fit, in order: INSERT all of its table; UPDATE those of the attribute that is set, and where that is the key
  -- also K and D; DELETE D
  abbrev pub fitting : Write I L A → List Exception
  fitting (insert t es) = K ∷ (map F (refs_of S t) ++ map C (checks_of S t))
  fitting (update t k e c) =
      cond (k == key_of S t) (K ∷ []) [] ++ (map F (places (λ f. (f.of == t) && f.from == k) 1 S.refs)
      ++ (map C (places (λ c. (c.of == t) && c.at == k) 1 S.checks) ++ cond (k == key_of S t) (map D (refs_to S t)) []))
  fitting (delete t c) = map D (refs_to S t)

  -- whether a test passes, T being the table that the write would leave and `now` the tables before it: D asks for the rows that are
  -- lost of the old table (a model has no table that refers to itself, so the other table of F and of D is as it was)
  abbrev pub passes : Env I L A → (ℕ → Table) → Write I L A → Table → Exception → Option Bool
  passes η now w T K = some (distinct (key_of S (target w)) T)
  passes η now w T (F n) = some (finds S n T (now (ref_at S n).to))
  passes η now w T (C n) = some (keeps S n T)
  passes η now w T (D n) = bind (holds_one (key_of S (target w)) (ref_at S n).from (now (ref_at S n).of) (lost η w) (now (target w))) (λ h. some (not h))

-- the first test that does not pass, if any
abbrev pub broken : (Exception → Option Bool) → List Exception → Option (Option Exception)
broken p [] = some none
broken p (x ∷ xs) = bind (p x) (λ b. cond b (broken p xs) (some (some x)))

-- ---- what a write comes to

-- halted, since a value is missing or there is no room; thrown, with the exception; or the table to be stored
pub data Outcome : Type 0 where
  halted : Outcome
  threw : Exception → Outcome
  stored : Table → Outcome

-- halted where a value is missing
abbrev pub or_halted : {A : Type 0} → Option A → (A → Outcome) → Outcome
or_halted none f = halted
or_halted (some a) f = f a

-- the tests are over: the first that does not pass is thrown, and otherwise the table is stored
abbrev pub settled : Table → Option Exception → Outcome
settled T none = stored T
settled T (some x) = threw x

-- a write of the tables now: halting comes before any exception. It is the run's write and the register's
abbrev pub perform : {I L A : Type 0} → Schema → ℕ → Env I L A → (ℕ → Table) → Write I L A → Outcome
perform S R η now w = or_halted (left S R η w (now (target w))) (λ T. or_halted (broken (passes S η now w T) (fitting S w)) (settled T))
