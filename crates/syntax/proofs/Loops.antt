-- Loops over states that hold a reader: what is left to read gives what the whole gives.
use Rattle.std.proofs.Common.{◌≡◌, ℕ, ◌<◌, List, Some, None, Ok, Err, Option, Result, sym, ap, ◌∙◌, subst}
use Rattle.faults.specs.declared.Fault.{Fault}
use Rattle.terms.specs.declared.reader.Reader.{Reader}
use Rattle.terms.proofs.Steps.{nothing}
use Rattle.syntax.specs.Repeats.{repeated}
use Rattle.syntax.specs.States.{Goes, GoesMore}
use Rattle.syntax.proofs.Repeating.{Going, going_more, going_none, going_refused}

-- A loop has gone from one state to another, in one text.
pub record Loop {S P : Type 0} (reader : S → Reader) (plain : S → P) (size : List ℕ → P → ℕ) (read : List ℕ → P → Result (Option P) Fault) (text : List ℕ) (n : ℕ) (from : P) (s : S) : Type 0 where
  pub same : (reader s).text.now ≡ text
  pub going : Going (read text) (size text) n from (plain s)

-- What reads on from a state also answers anything else that gives the same there.
pub goes_as : {S P : Type 0} (reader : S → Reader) (plain : S → P) (read same : List ℕ → P → Result P Fault) (s : S) (answer : Result S Fault) → read (reader s).text.now (plain s) ≡ same (reader s).text.now (plain s) → Goes reader plain read s answer → Goes reader plain same s answer
goes_as reader plain read same s (Ok t) e h = (h.0 ∙ e, h.1)
goes_as reader plain read same s (Err f) e h = h ∙ e

module _ {S P : Type 0} (reader : S → Reader) (plain : S → P) (size : List ℕ → P → ℕ) (read : List ℕ → P → Result (Option P) Fault) where
  pub loop_less : (s t : S) (o : Option S) → GoesMore reader plain size read s (Ok o) → o ≡ Some t → size (reader s).text.now (plain t) < size (reader s).text.now (plain s)
  loop_less s t None h e = absurd (nothing e)
  loop_less s t (Some u) h e = let k : u ≡ t = cc in subst (λ v. size (reader s).text.now (plain v) < size (reader s).text.now (plain s)) k h.2

module _ {S P : Type 0} (reader : S → Reader) (plain : S → P) (size : List ℕ → P → ℕ) (read : List ℕ → P → Result (Option P) Fault) (text : List ℕ) (n : ℕ) (from : P) where
  pub loop_more : (s t : S) (o : Option S) → Loop reader plain size read text n from s → GoesMore reader plain size read s (Ok o) → o ≡ Some t → Loop reader plain size read text n from t
  loop_more s t None l h e = absurd (nothing e)
  loop_more s t (Some u) l h e =
      let k : u ≡ t = cc in
      let one = ap (λ x. read x (plain s)) (sym l.same) ∙ sym h.0 in
      let less = subst (λ x. size x (plain u) < size x (plain s)) l.same h.2 in
      subst (Loop reader plain size read text n from) k (record {
        same = h.1 ∙ l.same;
        going = going_more (read text) (size text) n from (plain s) (plain u) l.going one less;
      })

  pub loop_none : (s : S) (o : Option S) → Loop reader plain size read text n from s → GoesMore reader plain size read s (Ok o) → o ≡ None → Ok (plain s) ≡ repeated (read text) n from
  loop_none s None l h e = sym (going_none (read text) (size text) n from (plain s) l.going (ap (λ x. read x (plain s)) (sym l.same) ∙ sym h))
  loop_none s (Some u) l h e = absurd (nothing (sym e))

  pub loop_refused : (s : S) (f : Fault) → Loop reader plain size read text n from s → GoesMore reader plain size read s (Err f) → Err f ≡ repeated (read text) n from
  loop_refused s f l h = sym (going_refused (read text) (size text) n from (plain s) f l.going (ap (λ x. read x (plain s)) (sym l.same) ∙ sym h))
