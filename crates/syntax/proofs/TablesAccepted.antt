-- Tables: what is accepted stands there, and what stands there is accepted.
use Rattle.std.proofs.Common.{◌≡◌, ℕ, suc, ◌+◌, ◌-◌, ◌≤◌, Bool, true, false, cond, not, ◌&&◌, List, [], ◌∷◌, ◌++◌, length, Some, None, Ok, Option, Result, sym, refl, ap, ◌∙◌, subst, arith}
use Rattle.std.proofs.lemmas.Bool.{and_parts}
use Rattle.faults.specs.declared.Fault.{Fault}
use Rattle.faults.specs.declared.Fault.TheVariants.{NotAllowed}
use Rattle.lexer.specs.declared.keywords.Keyword.TheVariants as kw
use Rattle.lexer.specs.declared.signs.Sign.{Sign}
use Rattle.lexer.specs.declared.signs.Sign.TheVariants.{Open, Close, Comma, Semicolon}
use Rattle.terms.specs.declared.pull.Word.{Word}
use Rattle.terms.specs.declared.pull.Word.TheVariants as word
use Rattle.terms.specs.Pull.{and_then, pulled, is_sign, is_keyword, is_name}
use Rattle.terms.specs.Trees.{Token, name, number, keyword, sign}
use Rattle.terms.specs.Grammar.{Stands}
use Rattle.terms.proofs.Steps.{never, untrue, then_ok, cond_ok, word_in}
use Rattle.syntax.specs.Repeats.{some, repeated}
use Rattle.syntax.specs.Trees.{Reference, Check, Table, names_words, references_words, checks_words, table_words, tables_words, ChecksFit, TablesFit, references_in, checks_in}
use Rattle.syntax.proofs.Repeating.{repeated_ok}
use Rattle.syntax.proofs.Runs.{Run, run_none, glue, split, ends_at, sign_step, keyword_step, name_step, pull_step}
use Rattle.terms.proofs.Steps.{must_came, keyword_same, sign_is}
use Rattle.syntax.specs.Tables.{Rules}
use Rattle.syntax.specs.Tables.{Schema}
use Rattle.syntax.specs.Clauses.{argument_at}
use Rattle.syntax.specs.Tables.{with_room, attribute_behind, attributes_at, is_order, order_at, is_number, number_at, reference_from, check_from, rule_in, rule_behind, rules_at, table_rest, table_behind}
use Rattle.syntax.proofs.Parts.{some_ok, not_none, argument_ok}
use Rattle.syntax.proofs.BlocksAccepted.{pulled_step, room_ok}

ok_same : {A : Type 0} (x y : A) → ◌≡◌ {A = Result A Fault} (Ok x) (Ok y) → x ≡ y
ok_same x y h = cc

some_same : {A : Type 0} (x y : A) → ◌≡◌ {A = Result (Option A) Fault} (Ok (Some x)) (Ok (Some y)) → x ≡ y
some_same x y h = cc

cond_some : {A : Type 0} (b : Bool) (x : Result (Option A) Fault) (s : A) → cond b x (Ok None) ≡ Ok (Some s) → (b ≡ true) × (x ≡ Ok (Some s))
cond_some true x s h = (refl, h)
cond_some false x s h = absurd (not_none h)

order_is : (w : Token) → is_order (word_in w) ≡ true → (g : Sign) × (w ≡ sign g) × (is_order (word.Sign g) ≡ true)
order_is (name x) h = absurd (untrue h)
order_is (number n) h = absurd (untrue h)
order_is (keyword k) h = absurd (untrue h)
order_is (sign g) h = (g, refl, h)

number_is : (w : Token) → is_number (word_in w) ≡ true → (n : ℕ) × (w ≡ number n)
number_is (name x) h = absurd (untrue h)
number_is (number n) h = (n, refl)
number_is (keyword k) h = absurd (untrue h)
number_is (sign g) h = absurd (untrue h)

pub record RulesRead (text : List ℕ) (s t : Rules) : Type 0 where
  pub refs : List Reference
  pub checks_in_lem : List Check
  pub fits : ChecksFit checks_in_lem
  pub run : Run text s.end (references_words refs ++ checks_words checks_in_lem) t.end
  pub refs_count : length refs + t.references ≡ s.references
  pub checks_count : length checks_in_lem + t.checks ≡ s.checks
  pub before : s.checked ≡ true → refs ≡ []

pub record TablesRead (text : List ℕ) (s t : Schema) : Type 0 where
  pub list : List Table
  pub fits : TablesFit list
  pub run : Run text s.end (tables_words list) t.end
  pub tables_count : length list + t.tables ≡ s.tables
  pub refs_count : references_in list + t.references ≡ s.references
  pub checks_count : checks_in list + t.checks ≡ s.checks

module _ (text : List ℕ) where
  attribute_ok : (s t : ℕ × ℕ) → attribute_behind text s ≡ Ok (Some t) → (x : List ℕ) × Run text s.0 (sign Comma ∷ name x ∷ []) t.0 × (suc t.1 ≡ s.1)
  attribute_ok s t h =
      let a = sign_step text Comma s.0 _ _ h in
      let i = pulled_step text a.0 (λ p. cond (is_name p.word) (with_room s.1 p.place (Ok (Some (p.end, s.1 - 1)))) (Ok None)) (Some t) a.2 in
      go a.0 a.1 i.0 i.1 i.2 i.3 i.4
    where
      go : (c : ℕ) → Run text s.0 (sign Comma ∷ []) c → (w : Token) (place m : ℕ) → Run text c (w ∷ []) m → cond (is_name (word_in w)) (with_room {A = Option (ℕ × ℕ)} s.1 place (Ok (Some (m, s.1 - 1)))) (Ok None) ≡ Ok (Some t) → (x : List ℕ) × Run text s.0 (sign Comma ∷ name x ∷ []) t.0 × (suc t.1 ≡ s.1)
      go c st (name x) place m r h =
          let i = room_ok {A = Option (ℕ × ℕ)} s.1 place (Ok (Some (m, s.1 - 1))) (Some t) h in
          let both : ◌≡◌ {A = ℕ × ℕ} (m, s.1 - 1) t = let z = i.1 in cc in
          let end : m ≡ t.0 = ap (λ q. q.0) both in
          let left : s.1 - 1 ≡ t.1 = ap (λ q. q.1) both in
          let has : 1 ≤ s.1 = i.0 in
          (x, glue st (ends_at r end), omega arith)
      go c st (number n) place m r h = absurd (not_none h)
      go c st (keyword k) place m r h = absurd (not_none h)
      go c st (sign g) place m r h = absurd (not_none h)

  attributes_ok : (n : ℕ) (s t : ℕ × ℕ) → repeated (attribute_behind text) n s ≡ Ok t → (ns : List (List ℕ)) × Run text s.0 (names_words ns) t.0 × (length ns + t.1 ≡ s.1)
  attributes_ok =
      repeated_ok (attribute_behind text) (λ s t. (ns : List (List ℕ)) × Run text s.0 (names_words ns) t.0 × (length ns + t.1 ≡ s.1)) (λ s. ([], run_none, omega arith)) (λ s t r is more.
      let x = attribute_ok s t is in
      let c = x.2 in
      let k = more.2 in
      (x.0 ∷ more.0, glue x.1 more.1, omega arith))

  check_ok : (s : Rules) (at place m : ℕ) (x : List ℕ) (t : Rules) → Run text at (name x ∷ []) m → check_from text s (record { word = word.Name; place = place; end = m }) ≡ Ok t → (c : Check) × (is_order (word.Sign c.order) ≡ true) × Run text at (name c.attribute ∷ sign c.order ∷ number c.bound ∷ []) t.end × (t.references ≡ s.references) × (suc t.checks ≡ s.checks) × (t.checked ≡ true)
  check_ok s at place m x t st h =
      let i = room_ok s.checks place _ t h in
      let a = then_ok (order_at text m) _ _ i.1 in
      let b = then_ok (number_at text a.0) _ _ a.2 in
      let o = must_came text m is_order a.0 a.1 in
      let g = order_is o.0 o.1 in
      let n = must_came text a.0 is_number b.0 b.1 in
      let v = number_is n.0 n.1 in
      let both : ◌≡◌ {A = Rules} (record { end = b.0; references = s.references; checks = s.checks - 1; checked = true }) t = ok_same _ t b.2 in
      let end : b.0 ≡ t.end = ap (λ q. q.end) both in
      let left : s.checks - 1 ≡ t.checks = ap (λ q. q.checks) both in
      let has : 1 ≤ s.checks = i.0 in
      let og : Run text m (sign g.0 ∷ []) a.0 = record { stands = subst (λ w. Stands text m (w ∷ []) a.0) g.1 o.2 } in
      let nv : Run text a.0 (number v.0 ∷ []) b.0 = record { stands = subst (λ w. Stands text a.0 (w ∷ []) b.0) v.1 n.2 } in
      (record { attribute = x; order = g.0; bound = v.0 }, g.2, glue st (glue og (ends_at nv end)), sym (ap (λ q. q.references) both), omega arith, sym (ap (λ q. q.checked) both))

  reference_ok : (s : Rules) (at place m : ℕ) (w : Word) (t : Rules) → Run text at (keyword kw.Foreign ∷ []) m → reference_from text s (record { word = w; place = place; end = m }) ≡ Ok t → (r : Reference) × Run text at (keyword kw.Foreign ∷ keyword kw.Key ∷ sign Open ∷ name r.attribute ∷ sign Close ∷ keyword kw.References ∷ name r.table ∷ []) t.end × (suc t.references ≡ s.references) × (t.checks ≡ s.checks)
  reference_ok s at place m w t st h =
      let i = room_ok s.references place _ t h in
      let a = keyword_step text kw.Key m _ _ i.1 in
      let b = then_ok (argument_at text a.0) _ _ a.2 in
      let x = argument_ok text a.0 b.0 b.1 in
      let c = keyword_step text kw.References b.0 _ _ b.2 in
      let d = name_step text c.0 _ _ c.2 in
      let both : ◌≡◌ {A = Rules} (record { end = d.0; references = s.references - 1; checks = s.checks; checked = false }) t = ok_same _ t d.3 in
      let end : d.0 ≡ t.end = ap (λ q. q.end) both in
      let left : s.references - 1 ≡ t.references = ap (λ q. q.references) both in
      let has : 1 ≤ s.references = i.0 in
      (record { attribute = x.0; table = d.1 }, glue st (glue a.1 (glue x.1 (glue c.1 (ends_at d.2 end)))), omega arith, sym (ap (λ q. q.checks) both))

  rule_ok : (s t r : Rules) → rule_behind text s ≡ Ok (Some t) → RulesRead text t r → RulesRead text s r
  rule_ok s t r h more =
      let i = pulled_step text s.end (λ p. cond (is_sign Comma p.word) (and_then (pulled text p.end) (rule_in text s)) (Ok None)) (Some t) h in
      let k = cond_some (is_sign Comma (word_in i.0)) (and_then (pulled text i.2) (rule_in text s)) t i.4 in
      let comma : Run text s.end (sign Comma ∷ []) i.2 = subst (λ w. Run text s.end (w ∷ []) i.2) (sign_is Comma i.0 k.0) i.3 in
      let j = pulled_step text i.2 (rule_in text s) (Some t) k.1 in
      go i.2 comma j.0 j.1 j.2 j.3 j.4
    where
      go : (c : ℕ) → Run text s.end (sign Comma ∷ []) c → (w : Token) (place m : ℕ) → Run text c (w ∷ []) m → rule_in text s (record { word = word_in w; place = place; end = m }) ≡ Ok (Some t) → RulesRead text s r
      go c st (name x) place m q h =
          let k = check_ok s c place m x t q (some_ok (check_from text s (record { word = word.Name; place = place; end = m })) t h) in
          let empty = more.before k.5 in
          let none_left : length more.refs ≡ 0 = ap length empty in
          let rc = more.refs_count in
          let cc' = more.checks_count in
          let same : t.references ≡ s.references = k.3 in
          let fewer : suc t.checks ≡ s.checks = k.4 in
          record {
            refs = [];
            checks_in_lem = k.0 ∷ more.checks_in_lem;
            fits = (k.1, more.fits);
            run = glue st (glue k.2 (subst (λ rs. Run text t.end (references_words rs ++ checks_words more.checks_in_lem) r.end) empty more.run));
            refs_count = omega arith;
            checks_count = omega arith;
            before = λ z. refl;
          }
      go c st (number n) place m q h = absurd (never h)
      go c st (sign g) place m q h = absurd (never h)
      go c st (keyword k) place m q h =
          let i = cond_ok (is_keyword kw.Foreign (word.Keyword k) && not s.checked) (some (reference_from text s (record { word = word.Keyword k; place = place; end = m }))) (NotAllowed place) (Some t) h in
          let b = and_parts (is_keyword kw.Foreign (word.Keyword k)) (not s.checked) i.0 in
          let first_word : Run text c (keyword kw.Foreign ∷ []) m = subst (λ w. Run text c (keyword w ∷ []) m) (keyword_same k kw.Foreign b.0) q in
          let f = reference_ok s c place m (word.Keyword k) t first_word (some_ok (reference_from text s (record { word = word.Keyword k; place = place; end = m })) t i.1) in
          let rc = more.refs_count in
          let cc' = more.checks_count in
          let fewer : suc t.references ≡ s.references = f.2 in
          let same : t.checks ≡ s.checks = f.3 in
          record {
            refs = f.0 ∷ more.refs;
            checks_in_lem = more.checks_in_lem;
            fits = more.fits;
            run = glue st (glue f.1 more.run);
            refs_count = omega arith;
            checks_count = omega arith;
            before = λ z. absurd (untrue (sym (ap not z) ∙ b.1));
          }

  rules_ok : (n : ℕ) (s t : Rules) → repeated (rule_behind text) n s ≡ Ok t → RulesRead text s t
  rules_ok = repeated_ok (rule_behind text) (RulesRead text) (λ s. record { refs = []; checks_in_lem = []; fits = tt; run = run_none; refs_count = omega arith; checks_count = omega arith; before = λ z. refl }) rule_ok

  table_ok : (at place m : ℕ) (refs checks_left : ℕ) (r : Rules) → Run text at (keyword kw.Table ∷ []) m → table_rest text m refs checks_left ≡ Ok r → (t : Table) × (length t.others ≤ 7) × ChecksFit t.checks × Run text at (table_words t) r.end × (length t.references + r.references ≡ refs) × (length t.checks + r.checks ≡ checks_left)
  table_ok at place m refs checks_left r st h =
      let a = name_step text m _ _ h in
      let b = sign_step text Open a.0 _ _ a.3 in
      let c = then_ok (attributes_at text b.0) _ _ b.2 in
      let c1 = name_step text b.0 _ _ c.1 in
      let c2 = then_ok (repeated (attribute_behind text) 8 (c1.0, 7)) (λ s. Ok s.0) c.0 c1.3 in
      let ns = attributes_ok 8 (c1.0, 7) c2.0 c2.1 in
      let c3 : c2.0.0 ≡ c.0 = ok_same _ _ c2.2 in
      let d = sign_step text Comma c.0 _ _ c.2 in
      let e = keyword_step text kw.Primary d.0 _ _ d.2 in
      let f = keyword_step text kw.Key e.0 _ _ e.2 in
      let g = then_ok (argument_at text f.0) _ _ f.2 in
      let key = argument_ok text f.0 g.0 g.1 in
      let start : Rules = record { end = g.0; references = refs; checks = checks_left; checked = false } in
      let rl = then_ok (rules_at text start) _ _ g.2 in
      let rr = rules_ok (suc (refs + checks_left)) start rl.0 rl.1 in
      let j = sign_step text Close rl.0.end _ _ rl.2 in
      let k = sign_step text Semicolon j.0 _ _ j.2 in
      let both : ◌≡◌ {A = Rules} (record { end = k.0; references = rl.0.references; checks = rl.0.checks; checked = false }) r = ok_same _ r k.2 in
      let end : k.0 ≡ r.end = ap (λ q. q.end) both in
      let p = split (references_words rr.refs) (checks_words rr.checks_in_lem) rr.run in
      let few : length ns.0 + c2.0.1 ≡ 7 = ns.2 in (
        record { title = a.1; attribute = c1.1; others = ns.0; key = key.0; references = rr.refs; checks = rr.checks_in_lem },
        omega arith,
        rr.fits,
        glue st (glue a.2 (glue b.1 (glue c1.2 (glue (ends_at ns.1 c3) (glue d.1 (glue e.1 (glue f.1 (glue key.1 (glue p.1 (glue p.2 (glue j.1 (ends_at k.1 end)))))))))))),
        ap (λ q. length rr.refs + q.references) (sym both) ∙ rr.refs_count,
        ap (λ q. length rr.checks_in_lem + q.checks) (sym both) ∙ rr.checks_count,
      )

  table_step : (s t r : Schema) → table_behind text s ≡ Ok (Some t) → TablesRead text t r → TablesRead text s r
  table_step s t r h more =
      let i = pull_step text s.end _ _ h in
      let p = i.0 in
      let k = cond_some (is_keyword kw.Table p.word) _ t i.4 in
      let first_word : Run text s.end (keyword kw.Table ∷ []) p.end = subst (λ w. Run text s.end (w ∷ []) p.end) (table_word i.1 (sym (ap (is_keyword kw.Table) i.2) ∙ k.0)) i.3 in
      let j = room_ok s.tables p.place _ (Some t) k.1 in
      let l = then_ok (table_rest text p.end s.references s.checks) _ (Some t) j.1 in
      let x = table_ok s.end p.place p.end s.references s.checks l.0 first_word l.1 in
      let both : ◌≡◌ {A = Schema} (record { end = l.0.end; tables = s.tables - 1; references = l.0.references; checks = l.0.checks }) t = some_same _ t l.2 in
      let end : l.0.end ≡ t.end = ap (λ q. q.end) both in
      let left : s.tables - 1 ≡ t.tables = ap (λ q. q.tables) both in
      let lr : l.0.references ≡ t.references = ap (λ q. q.references) both in
      let lc : l.0.checks ≡ t.checks = ap (λ q. q.checks) both in
      let has : 1 ≤ s.tables = j.0 in
      let m1 = more.tables_count in
      let m2 = more.refs_count in
      let m3 = more.checks_count in
      let x2 = x.4 in
      let x3 = x.5 in
      record {
        list = x.0 ∷ more.list;
        fits = (x.1, x.2, more.fits);
        run = glue (ends_at x.3 end) more.run;
        tables_count = omega arith;
        refs_count = omega arith;
        checks_count = omega arith;
      }
    where
      table_word : (w : Token) → is_keyword kw.Table (word_in w) ≡ true → w ≡ keyword kw.Table
      table_word (name x) h = absurd (untrue h)
      table_word (number n) h = absurd (untrue h)
      table_word (keyword k) h = ap keyword (keyword_same k kw.Table h)
      table_word (sign g) h = absurd (untrue h)

  pub tables_ok : (n : ℕ) (s t : Schema) → repeated (table_behind text) n s ≡ Ok t → TablesRead text s t
  tables_ok = repeated_ok (table_behind text) (TablesRead text) (λ s. record { list = []; fits = tt; run = run_none; tables_count = omega arith; refs_count = omega arith; checks_count = omega arith }) table_step
