-- Lawful tables, law by law, and the tables of a case. Assumes nothing.
use Rattle.std.proofs.Common.{◌≡◌, ℕ, true, leb, ◌↔◌, [], map, length, ap}
use mathlib.Core.Option.{none, some}
use mathlib.Core.Logic.Iff
use Rattle.meaning.specs.Values.{numbered, all}
use Rattle.meaning.specs.Evaluation.{cut}
use Rattle.meaning.specs.Schema.{Shape, Schema, key_of, ref_at, tables_of, refs_of, checks_of}
use Rattle.meaning.specs.Tables.{Table, in_order, Case, begun, distinct, finds, keeps, lawful_table, LawfulTables}
use Rattle.meaning.proofs.Basics.{and_iff}
use Rattle.meaning.proofs.Members.{Every, every_iff, all_every}

-- the laws of a table
pub record LawfulTable (S : Schema) (R : ℕ) (T : ℕ → Table) (t : ℕ) : Type 0 where
  pub fits : leb (length (T t)) R ≡ true
  pub keyed : distinct (key_of S t) (T t) ≡ true
  pub found : Every (λ n. finds S n (T t) (T (ref_at S n).to) ≡ true) (refs_of S t)
  pub checked : Every (λ n. keeps S n (T t) ≡ true) (checks_of S t)

-- of every table
abbrev pub EachLawful : Schema → ℕ → (ℕ → Table) → Type 0
EachLawful S R T = Every (LawfulTable S R T) (tables_of S)

pub lawful_iff : (S : Schema) (R : ℕ) (T : ℕ → Table) → LawfulTables S R T ↔ EachLawful S R T
lawful_iff S R T = Iff.trans (all_every (lawful_table S R T) (tables_of S)) (every_iff _ _ one (tables_of S))
  where
    one : (t : ℕ) → (lawful_table S R T t ≡ true) ↔ LawfulTable S R T t
    one t = (
      λ q. let a = (and_iff (leb (length (T t)) R) _).0 q in
          let b = (and_iff (distinct (key_of S t) (T t)) _).0 a.1 in
          let c = (and_iff (all (λ n. finds S n (T t) (T (ref_at S n).to)) (refs_of S t)) _).0 b.1 in
          record { fits = a.0; keyed = b.0; found = (all_every _ (refs_of S t)).0 c.0; checked = (all_every _ (checks_of S t)).0 c.1 },
      λ l. (and_iff _ _).1 (l.fits, (and_iff _ _).1 (l.keyed, (and_iff _ _).1 ((all_every _ (refs_of S t)).1 l.found, (all_every _ (checks_of S t)).1 l.checked))),
    )

-- ---- the tables of a case at the start

module _ (S : Schema) (κ : Case) (t : ℕ) where
  pub begun_table : (h : Shape) → numbered S.tables t ≡ some h → begun S κ t ≡ in_order h.key (map (cut h.width) (κ.rows t))
  begun_table h e = ap (λ o. elim o [ none ↦ [] | some h ↦ in_order h.key (map (cut h.width) (κ.rows t)) ]) e

  -- a number that names no table has no rows
  pub begun_other : numbered S.tables t ≡ none → begun S κ t ≡ []
  begun_other e = ap (λ o. elim o [ none ↦ [] | some h ↦ in_order h.key (map (cut h.width) (κ.rows t)) ]) e
