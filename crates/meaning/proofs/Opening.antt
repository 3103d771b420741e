-- The opening of a list: the tables at the start are lawful. Assumes nothing.
use Rattle.std.proofs.Common.{◌≡◌, ℕ, zero, suc, ◌+◌, ◌<◌, ◌≤◌, Bool, true, ◌↔◌, List, [], ◌∷◌, ◌++◌, map, length, pos, sym, refl, ap, ◌∙◌, subst, arith}
use mathlib.Core.Path.{fun_ext}
use mathlib.Core.Logic.Iff
use mathlib.Core.Option.{Option, none, some}
use Rattle.meaning.specs.Values.{nth, numbered}
use Rattle.meaning.specs.Syntax.{Block, Mark}
use Rattle.meaning.specs.Evaluation.{cut}
use Rattle.meaning.specs.Schema.{Model, Shape, Schema, ref_at, refs_of, checks_of, tables_of}
use Rattle.meaning.specs.Tables.{Table, Case, begun, in_order, Lawful, finds, keeps}
use Rattle.meaning.specs.State.{start_on, start}
use Rattle.meaning.specs.Run.{Follows}
use Rattle.meaning.specs.Records.{Symbol, table, Fact, ref, check, Record, def_t, fact}
use Rattle.meaning.specs.Conditions.{Drawn, ◌▸▸◌, refused, drawn, draw, laws_of, joined, symbols, opening, conditions}
use Rattle.meaning.specs.Truth.{Valuation, table_of, holds, True, AllTrue, Satisfies}
use Rattle.meaning.proofs.Basics.{some_inj, subst_iff}
use Rattle.meaning.proofs.Meaning.{agree_refl, Sat, Means}
use Rattle.meaning.proofs.Moving.{From}
use Rattle.meaning.proofs.States.{state}
use Rattle.meaning.proofs.Symbols.{Stable}
use Rattle.meaning.proofs.Members.{Every, nth_below, every_iff, every_below, below_every}
use Rattle.meaning.proofs.Lawful.{LawfulTable, lawful_iff}
use Rattle.meaning.proofs.Drawing.{fronts_drawn, fronts_refused}
use Rattle.meaning.proofs.Walking.{draw_means}

-- ---- lists of records

module _ (S : Schema) (R : ℕ) (κ : Case) (V : Valuation) where
  all_append : (xs ys : List Record) → AllTrue S R κ V (xs ++ ys) ↔ (AllTrue S R κ V xs × AllTrue S R κ V ys)
  all_append [] ys = (λ h. (tt, h), λ h. h.1)
  all_append (x ∷ xs) ys = (λ h. let r = (all_append xs ys).0 h.1 in ((h.0, r.0), r.1), λ h. (h.0.0, (all_append xs ys).1 (h.0.1, h.1)))

  all_map : (f : ℕ → Record) (ns : List ℕ) → AllTrue S R κ V (map f ns) ↔ Every (λ n. True S R κ V (f n)) ns
  all_map f [] = (λ h. tt, λ h. tt)
  all_map f (n ∷ ns) = Iff.and (λ h. h, λ h. h) (all_map f ns)

  all_joined : (f : ℕ → List Record) (ns : List ℕ) → AllTrue S R κ V (joined f ns) ↔ Every (λ n. AllTrue S R κ V (f n)) ns
  all_joined f [] = (λ h. tt, λ h. tt)
  all_joined f (n ∷ ns) = Iff.trans (all_append (f n) (joined f ns)) (Iff.and (λ h. h, λ h. h) (all_joined f ns))

  all_yes : (f : ℕ → Fact) (B : ℕ → Bool) → ((n : ℕ) → holds S R κ V (f n) ≡ some (B n)) → (ns : List ℕ) → AllTrue S R κ V (map (λ n. fact true (f n)) ns) ↔ Every (λ n. B n ≡ true) ns
  all_yes f B e ns = Iff.trans (all_map (λ n. fact true (f n)) ns) (every_iff _ _ (λ n. (λ q. some_inj (sym (e n) ∙ q), λ q. e n ∙ ap some q)) ns)

  module _ (now : ℕ → Symbol) where
    laws_mean : (t : ℕ) → AllTrue S R κ V (laws_of S now t) ↔ LawfulTable S R (λ u. table_of V (now u)) t
    laws_mean t = (
      λ h. let r = both.0 h.1.1 in record { fits = some_inj h.0; keyed = some_inj h.1.0; found = refs.0 r.0; checked = checks.0 r.1 },
      λ l. (ap some l.fits, (ap some l.keyed, both.1 (refs.1 l.found, checks.1 l.checked))),
    )
      where
        both : AllTrue S R κ V (map (λ n. fact true (ref n (now t) (now (ref_at S n).to))) (refs_of S t) ++ map (λ n. fact true (check n (now t))) (checks_of S t))
            ↔ (AllTrue S R κ V (map (λ n. fact true (ref n (now t) (now (ref_at S n).to))) (refs_of S t)) × AllTrue S R κ V (map (λ n. fact true (check n (now t))) (checks_of S t)))
        both = all_append _ _

        refs : AllTrue S R κ V (map (λ n. fact true (ref n (now t) (now (ref_at S n).to))) (refs_of S t)) ↔ Every (λ n. finds S n (table_of V (now t)) (table_of V (now (ref_at S n).to)) ≡ true) (refs_of S t)
        refs = all_yes (λ n. ref n (now t) (now (ref_at S n).to)) (λ n. finds S n (table_of V (now t)) (table_of V (now (ref_at S n).to))) (λ n. refl) (refs_of S t)

        checks : AllTrue S R κ V (map (λ n. fact true (check n (now t))) (checks_of S t)) ↔ Every (λ n. keeps S n (table_of V (now t)) ≡ true) (checks_of S t)
        checks = all_yes (λ n. check n (now t)) (λ n. keeps S n (table_of V (now t))) (λ n. refl) (checks_of S t)

-- ---- the symbols at the start

module _ (S : Schema) where
  -- tables alike up to the schema's count are alike as the symbols name them
  same_tables : (V : Valuation) (X : ℕ → Table) → ((t : ℕ) → t < length S.tables → V.t (suc t) ≡ X (suc t)) → (t : ℕ) →
      table_of V ((symbols S).held.tables.now t) ≡ elim (numbered S.tables t) [ none ↦ [] | some k ↦ X t ]
  same_tables V X h zero = refl
  same_tables V X h (suc t) = go (nth S.tables t) refl
    where
      go : (o : Option Shape) → nth S.tables t ≡ o → table_of V (elim o [ none ↦ none | some k ↦ some (suc t) ]) ≡ elim o [ none ↦ [] | some k ↦ X (suc t) ]
      go none e = refl
      go (some k) e = h t (nth_below S.tables t k e)

  pub stable_start : Stable (symbols S)
  stable_start V V' a =
      ap start_on (fun_ext (λ t. same_tables V V'.t a.tables t ∙ sym (same_tables V' V'.t (λ u h. refl) t)))

  module _ (R : ℕ) (κ : Case) where
    begun_at : (t : ℕ) → elim (numbered S.tables t) [ none ↦ [] | some k ↦ begun S κ t ] ≡ begun S κ t
    begun_at t = go (numbered S.tables t) refl
      where
        go : (o : Option Shape) → numbered S.tables t ≡ o → elim o [ none ↦ [] | some k ↦ begun S κ t ] ≡ begun S κ t
        go none e = ap (λ q. elim q [ none ↦ [] | some k ↦ in_order k.key (map (cut k.width) (κ.rows t)) ]) (sym e)
        go (some k) e = refl

    -- the first symbols stand for the case's tables
    abbrev Opened : Valuation → Type 0
    Opened V = (t : ℕ) → t < length S.tables → V.t (suc t) ≡ begun S κ (suc t)

    module _ (V : Valuation) (h : Opened V) where
      begins : (λ t. table_of V ((symbols S).held.tables.now t)) ≡ begun S κ
      begins = fun_ext (λ t. same_tables V (begun S κ) h t ∙ begun_at t)

      pub starts : state (symbols S) V ≡ start S κ
      starts = ap start_on begins

      lawful : AllTrue S R κ V (joined (laws_of S (symbols S).held.tables.now) (tables_of S)) ↔ Lawful S R κ
      lawful =
          Iff.trans (all_joined S R κ V (laws_of S (symbols S).held.tables.now) (tables_of S))
          (Iff.trans (every_iff _ _ (λ t. Iff.trans (laws_mean S R κ V (symbols S).held.tables.now t) (subst_iff (λ N. LawfulTable S R N t) begins)) (tables_of S))
          (Iff.symm (lawful_iff S R (begun S κ))))

    opened : (V : Valuation) → AllTrue S R κ V (map (λ t. def_t t (table t)) (tables_of S)) ↔ Opened V
    opened V = (
      λ q t h. sym (some_inj (every_below (λ t. some (begun S κ t) ≡ some (V.t t)) 1 S.tables ((all_map S R κ V _ _).0 q) (suc t) (omega arith) (omega arith))),
      λ q. (all_map S R κ V _ _).1 (below_every (λ t. some (begun S κ t) ≡ some (V.t t)) 1 S.tables (λ t lo hi. at q t lo hi)),
    )
      where
        at : Opened V → (t : ℕ) → 1 ≤ t → t < 1 + length S.tables → some (begun S κ t) ≡ some (V.t t)
        at q zero lo hi = absurd (omega arith)
        at q (suc t) lo hi = ap some (sym (q t (omega arith)))

    agreed : (rs : List Record) (program : Block) (p : List Mark) → ((V : Valuation) → Sat S R κ (symbols S) V rs ↔ From S R κ program (state (symbols S) V) p) →
        Satisfies S R κ (opening S ++ rs) ↔ (Lawful S R κ × From S R κ program (start S κ) p)
    agreed rs program p h = (
      λ q. let V : Valuation = q.0 in
          let r = (all_append S R κ V (opening S) rs).0 q.1 in
          let o = (all_append S R κ V (map (λ t. def_t t (table t)) (tables_of S)) (joined (laws_of S (symbols S).held.tables.now) (tables_of S))).0 r.0 in
          let b = (opened V).0 o.0 in
          ((lawful V b).0 o.1, subst (λ s. From S R κ program s p) (starts V b) ((h V).0 (V, agree_refl (symbols S) V, r.1))),
      λ q. let V : Valuation = record { i = λ n. pos 0; l = λ n. []; t = begun S κ } in
          let s = (h V).1 (subst (λ s. From S R κ program s p) (sym (starts V (λ t lt. refl))) q.1) in
          let b : Opened s.0 = (λ t lt. sym (s.1.tables t lt)) in
          (s.0, (all_append S R κ s.0 (opening S) rs).1 ((all_append S R κ s.0 (map (λ t. def_t t (table t)) (tables_of S)) (joined (laws_of S (symbols S).held.tables.now) (tables_of S))).1 ((opened s.0).1 b, (lawful s.0 b).1 q.0), s.2)),
    )

-- ---- the whole list

-- a list, and no refusal
abbrev IsDrawn : Drawn → Type 0
IsDrawn (refused n) = ⊥
IsDrawn (drawn rs) = Unit {0}

-- its records
abbrev listed : Drawn → List Record
listed (refused n) = []
listed (drawn rs) = rs

module _ (M : Model) (R : ℕ) (κ : Case) (p : List Mark) where
  -- what the records behind the opening mean
  abbrev pub Meant : Drawn → Type 0
  Meant d = Means M.schema R κ (symbols M.schema) d (λ V. From M.schema R κ M.program (state (symbols M.schema) V) p)

  -- a list that is drawn is the opening and the records of the path
  pub whole_list : (rs : List Record) → conditions M p ≡ drawn rs → (qs : List Record) × (rs ≡ opening M.schema ++ qs) × Meant (drawn qs)
  whole_list rs e = go (draw M.schema p M.program (symbols M.schema)) (draw_means M.schema R κ p M.program (symbols M.schema) (stable_start M.schema)) e
    where
      go : (d : Drawn) → Meant d → opening M.schema ▸▸ d ≡ drawn rs → (qs : List Record) × (rs ≡ opening M.schema ++ qs) × Meant (drawn qs)
      go (refused n) h q = absurd (subst IsDrawn (sym q ∙ fronts_refused (opening M.schema) n) tt)
      go (drawn qs) h q = (qs, ap listed (sym q ∙ fronts_drawn (opening M.schema) qs), h)

  pub agreement : (rs : List Record) → conditions M p ≡ drawn rs → Satisfies M.schema R κ rs ↔ (Lawful M.schema R κ × Follows M R κ p)
  agreement rs e =
      let w = whole_list rs e in
      subst (λ xs. Satisfies M.schema R κ xs ↔ (Lawful M.schema R κ × Follows M R κ p)) (sym w.1) (agreed M.schema R κ w.0 M.program p w.2.1)

  pub unfollowed : (n : ℕ) → conditions M p ≡ refused n → ¬ Follows M R κ p
  unfollowed n e f = go (draw M.schema p M.program (symbols M.schema)) (draw_means M.schema R κ p M.program (symbols M.schema) (stable_start M.schema)) e
    where
      go : (d : Drawn) → Meant d → opening M.schema ▸▸ d ≡ refused n → ⊥
      go (refused m) h q =
          let V : Valuation = record { i = λ n. pos 0; l = λ n. []; t = begun M.schema κ } in
          h V (subst (λ s. From M.schema R κ M.program s p) (sym (starts M.schema R κ V (λ t lt. refl))) f)
      go (drawn rs) h q = subst IsDrawn (sym (fronts_drawn (opening M.schema) rs) ∙ q) tt
