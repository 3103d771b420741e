-- Chains of records: which records they have, and the index that meets a record again.
use Rattle.std.specs.Prelude.{ℕ, zero, suc, ◌+◌, ◌*◌, Bool, true, false, cond, ◌&&◌, List, [], ◌∷◌, ◌++◌, replicate, Some, None, Ok, Err, Option, Result, ◌==◌, nat_le, nat_lt, slice_index_or, slice_set}
use Rattle.faults.specs.declared.Fault.{Fault}
use Rattle.faults.specs.declared.Fault.TheVariants.{BadCase}
use Rattle.cases.specs.Words.{word, index_of, record_word}

-- The index in a word.
abbrev pub pointer : List ℕ → ℕ → ℕ
pointer b w = index_of (word b w)

-- Indices run from 1; 0 ends a chain.
abbrev pub is_index : ℕ → ℕ → Bool
is_index n i = nat_lt 0 i && nat_le i n

-- The records of a chain, from an index on; at most as many as are asked for.
abbrev pub chain : List ℕ → ℕ → ℕ → ℕ → List ℕ
chain b n zero i = []
chain b n (suc most) i = cond (is_index n i) (i ∷ chain b n most (pointer b (record_word i))) []

-- The words that a chain goes through, each with the record that it points to.
abbrev pub trail : List ℕ → ℕ → ℕ → ℕ → List (ℕ × ℕ)
trail b n zero w = []
trail b n (suc most) w = cond (is_index n (pointer b w)) ((w, pointer b w) ∷ trail b n most (record_word (pointer b w))) []

-- A chain that meets no record again has at most n; one word more shows whether it does.
abbrev pub trail_from : List ℕ → ℕ → ℕ → List (ℕ × ℕ)
trail_from b n w = trail b n (n + 1) w

-- The chains of some heads in their order; word 10 is the count of lists, and no head.
abbrev pub trails : List ℕ → ℕ → ℕ → ℕ → List (ℕ × ℕ)
trails b n w zero = []
trails b n w (suc heads) = cond (w == 10) [] (trail_from b n w) ++ trails b n (suc w) heads

-- Notes the records that words point to; the first word that meets a noted record is refused at its place.
abbrev pub met : List Bool → List (ℕ × ℕ) → Result (List Bool) Fault
met noted [] = Ok noted
met noted (h ∷ hs) = cond (slice_index_or noted h.1 false) (Err (BadCase (4 * h.0))) (met (slice_set noted h.1 true) hs)

-- At first no record is noted.
abbrev pub none_met : List Bool
none_met = replicate 1025 false

-- Whether some word, chains taken in the order of their heads, meets a record again.
abbrev pub passed : Result (List Bool) Fault → Result (Unit {0}) Fault
passed (Ok noted) = Ok tt
passed (Err f) = Err f

unfoldable pub met_again : List ℕ → ℕ → Result (Unit {0}) Fault
met_again b n = passed (met none_met (trails b n 1 18))

-- What stands at a position of a list, if the list is as long.
abbrev pub item : {A : Type 0} → List A → ℕ → Option A
item [] k = None
item (x ∷ xs) zero = Some x
item (x ∷ xs) (suc k) = item xs k

-- The records of the chain whose head is a word.
abbrev pub chain_from : List ℕ → ℕ → ℕ → List ℕ
chain_from b n w = chain b n n (pointer b w)
