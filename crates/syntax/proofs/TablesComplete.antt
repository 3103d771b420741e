-- Tables: what stands there is accepted.
use Rattle.std.proofs.Common.{◌≡◌, ℕ, suc, ◌+◌, ◌-◌, ◌<◌, ◌≤◌, Bool, true, false, List, [], ◌∷◌, ◌++◌, length, Some, None, Ok, refl, ap, ◌∙◌, arith}
use Rattle.std.proofs.lemmas.Bool.{cond-false}
use Rattle.lexer.specs.declared.keywords.Keyword.TheVariants as kw
use Rattle.lexer.specs.declared.signs.Sign.TheVariants.{Open, Close, Comma, Semicolon}
use Rattle.terms.specs.declared.pull.Word.TheVariants as word
use Rattle.terms.specs.Pull.{and_then, is_keyword, sign_at, keyword_at, name_at}
use Rattle.terms.specs.Trees.{Token, name, number, keyword, sign}
use Rattle.terms.proofs.Steps.{then_by, word_in}
use Rattle.syntax.specs.Repeats.{some, repeated}
use Rattle.syntax.specs.Trees.{Reference, Check, Table, names_words, references_words, checks_words, key_words, table_words, tables_words, ChecksFit, TablesFit, references_in, checks_in}
use Rattle.syntax.proofs.Repeating.{repeated_none}
use Rattle.syntax.proofs.Runs.{Run, split, over, sign_go, keyword_go, name_go, pull_go, name_end}
use Rattle.terms.proofs.Steps.{must_read}
use Rattle.syntax.specs.Tables.{Rules}
use Rattle.syntax.specs.Tables.{Schema}
use Rattle.syntax.specs.Clauses.{argument_at}
use Rattle.syntax.specs.Tables.{attribute_behind, attributes_at, is_order, order_at, is_number, number_at, rule_in, rule_behind, rules_at, table_rest, table_behind}
use Rattle.syntax.proofs.Repeating.{repeated_some}
use Rattle.syntax.proofs.Parts.{argument_read}
use Rattle.syntax.proofs.BlocksComplete.{with_room_lem}

module _ (text : List ℕ) where
  attributes_read : (ns : List (List ℕ)) (n at room e z : ℕ) (ws : List Token) → length ns ≤ room → room < n → Run text at (names_words ns) e → Run text e (sign Comma ∷ keyword kw.Primary ∷ ws) z → repeated (attribute_behind text) n (at, room) ≡ Ok (e, room - length ns)
  attributes_read [] n at room e z ws few enough s after =
      let here : attribute_behind text (e, room) ≡ Ok None = sign_go text Comma e _ _ _ z after (λ c r. pull_go text (keyword kw.Primary) c _ _ _ z r (λ place m q. refl)) in
      ap (λ k. repeated (attribute_behind text) n (k, room)) (over s) ∙ repeated_none (attribute_behind text) n (e, room) here ∙ (let k : room ≡ room - 0 = omega arith in ap (λ m. Ok (e, m)) k)
  attributes_read (x ∷ ns) n at room e z ws few enough s after =
      let p = split (sign Comma ∷ name x ∷ []) (names_words ns) s in
      let one : attribute_behind text (at, room) ≡ Ok (Some (p.0, room - 1)) =
      sign_go text Comma at _ _ _ p.0 p.1 (λ c r. pull_go text (name x) c _ _ _ p.0 r (λ place m q. with_room_lem text room place _ (omega arith) ∙ ap (λ k. Ok (Some (k, room - 1))) (over q)))
      in
      repeated_some (attribute_behind text) n (at, room) (p.0, room - 1) (omega arith) one
      ∙ attributes_read ns (n - 1) p.0 (room - 1) e z ws (omega arith) (omega arith) p.2 after
      ∙ (let k : room - 1 - length ns ≡ room - length (x ∷ ns) = omega arith in ap (λ m. Ok (e, m)) k)

  abbrev at_rules : ℕ → ℕ → ℕ → Bool → Rules
  at_rules end references checks checked = record { end = end; references = references; checks = checks; checked = checked }

  check_read : (c : Check) (at refs room e : ℕ) (b : Bool) → 1 ≤ room → is_order (word.Sign c.order) ≡ true → Run text at (checks_words (c ∷ [])) e → rule_behind text (at_rules at refs room b) ≡ Ok (Some (at_rules e refs (room - 1) true))
  check_read c at refs room e b has order s =
      pull_go text (sign Comma) at _ _ (name c.attribute ∷ sign c.order ∷ number c.bound ∷ []) e s (λ place m s.
      pull_go text (name c.attribute) m (rule_in text (at_rules at refs room b)) _ (sign c.order ∷ number c.bound ∷ []) e s (λ place2 k s.
      let o = must_read text is_order k (sign c.order) (number c.bound ∷ []) e order s.stands in
      let v = must_read text is_number o.0 (number c.bound) [] e refl o.2 in
      ap some (with_room_lem text room place2 _ has ∙ then_by (order_at text k) _ o.0 _ o.1 (then_by (number_at text o.0) _ v.0 _ v.1 (ap (λ q. Ok (at_rules q refs (room - 1) true)) v.2)))))

  reference_read : (r : Reference) (at room checks_left e : ℕ) → 1 ≤ room → Run text at (references_words (r ∷ [])) e → rule_behind text (at_rules at room checks_left false) ≡ Ok (Some (at_rules e (room - 1) checks_left false))
  reference_read r at room checks_left e has s =
      pull_go text (sign Comma) at _ _ (keyword kw.Foreign ∷ keyword kw.Key ∷ sign Open ∷ name r.attribute ∷ sign Close ∷ keyword kw.References ∷ name r.table ∷ []) e s (λ place m s.
      pull_go text (keyword kw.Foreign) m (rule_in text (at_rules at room checks_left false)) _ (keyword kw.Key ∷ sign Open ∷ name r.attribute ∷ sign Close ∷ keyword kw.References ∷ name r.table ∷ []) e s (λ place2 k s.
      ap some (with_room_lem text room place2 _ has ∙ keyword_go text kw.Key k _ _ (sign Open ∷ name r.attribute ∷ sign Close ∷ keyword kw.References ∷ name r.table ∷ []) e s (λ i s.
      let p = split (sign Open ∷ name r.attribute ∷ sign Close ∷ []) (keyword kw.References ∷ name r.table ∷ []) s in
      then_by (argument_at text i) _ p.0 _ (argument_read text r.attribute i p.0 p.1)
      (keyword_go text kw.References p.0 _ _ (name r.table ∷ []) e p.2 (λ j s.
      name_go text r.table j _ _ [] e s (λ l s. ap (λ q. Ok (at_rules q (room - 1) checks_left false)) (over s))))))))

  no_rule : (e refs room : ℕ) (b : Bool) (ws : List Token) (z : ℕ) → Run text e (sign Close ∷ ws) z → rule_behind text (at_rules e refs room b) ≡ Ok None
  no_rule e refs room b ws z s = pull_go text (sign Close) e _ _ ws z s (λ place m q. refl)

  checks_read : (cs : List Check) (n at refs room e z : ℕ) (b : Bool) (ws : List Token) → length cs ≤ room → length cs ≤ n → ChecksFit cs → Run text at (checks_words cs) e → Run text e (sign Close ∷ ws) z → (b' : Bool) × (repeated (rule_behind text) n (at_rules at refs room b) ≡ Ok (at_rules e refs (room - length cs) b'))
  checks_read [] n at refs room e z b ws few enough fits s after =
      (b, ap (λ k. repeated (rule_behind text) n (at_rules k refs room b)) (over s) ∙ repeated_none (rule_behind text) n (at_rules e refs room b) (no_rule e refs room b ws z after) ∙ (let k : room ≡ room - 0 = omega arith in ap (λ m. Ok (at_rules e refs m b)) k))
  checks_read (c ∷ cs) n at refs room e z b ws few enough fits s after =
      let p = split (checks_words (c ∷ [])) (checks_words cs) s in
      let more = checks_read cs (n - 1) p.0 refs (room - 1) e z true ws (omega arith) (omega arith) fits.1 p.2 after in
      (more.0, repeated_some (rule_behind text) n (at_rules at refs room b) (at_rules p.0 refs (room - 1) true) (omega arith) (check_read c at refs room p.0 b (omega arith) fits.0 p.1) ∙ more.1 ∙ (let k : room - 1 - length cs ≡ room - length (c ∷ cs) = omega arith in ap (λ m. Ok (at_rules e refs m more.0)) k))

  rules_read : (rs : List Reference) (cs : List Check) (n at refs room mid e z : ℕ) (ws : List Token) → length rs ≤ refs → length cs ≤ room → length rs + length cs ≤ n → ChecksFit cs → Run text at (references_words rs) mid → Run text mid (checks_words cs) e → Run text e (sign Close ∷ ws) z → (b' : Bool) × (repeated (rule_behind text) n (at_rules at refs room false) ≡ Ok (at_rules e (refs - length rs) (room - length cs) b'))
  rules_read [] cs n at refs room mid e z ws few few2 enough fits s s2 after =
      let more = checks_read cs n mid refs room e z false ws few2 (omega arith) fits s2 after in
      (more.0, ap (λ k. repeated (rule_behind text) n (at_rules k refs room false)) (over s) ∙ more.1 ∙ (let k : refs ≡ refs - 0 = omega arith in ap (λ m. Ok (at_rules e m (room - length cs) more.0)) k))
  rules_read (r ∷ rs) cs n at refs room mid e z ws few few2 enough fits s s2 after =
      let p = split (references_words (r ∷ [])) (references_words rs) s in
      let more = rules_read rs cs (n - 1) p.0 (refs - 1) room mid e z ws (omega arith) few2 (omega arith) fits p.2 s2 after in
      (more.0, repeated_some (rule_behind text) n (at_rules at refs room false) (at_rules p.0 (refs - 1) room false) (omega arith) (reference_read r at refs room p.0 (omega arith) p.1) ∙ more.1 ∙ (let k : refs - 1 - length rs ≡ refs - length (r ∷ rs) = omega arith in ap (λ m. Ok (at_rules e m (room - length cs) more.0)) k))

  key_read : (t : Table) (at refs room e : ℕ) → length t.references ≤ refs → length t.checks ≤ room → ChecksFit t.checks → Run text at (key_words t) e → and_then (sign_at text Comma at) (λ d. and_then (keyword_at text kw.Primary d) (λ e. and_then (keyword_at text kw.Key e) (λ f. and_then (argument_at text f) (λ g. and_then (rules_at text (at_rules g refs room false)) (λ s. and_then (sign_at text Close s.end) (λ h. and_then (sign_at text Semicolon h) (λ i. Ok (at_rules i s.references s.checks false)))))))) ≡ Ok (at_rules e (refs - length t.references) (room - length t.checks) false)
  key_read t at refs room e few few2 fits s =
      let back = references_words t.references ++ (checks_words t.checks ++ (sign Close ∷ sign Semicolon ∷ [])) in
      sign_go text Comma at _ _ (keyword kw.Primary ∷ keyword kw.Key ∷ sign Open ∷ name t.key ∷ sign Close ∷ back) e s (λ d s. keyword_go text kw.Primary d _ _ (keyword kw.Key ∷ sign Open ∷ name t.key ∷ sign Close ∷ back) e s (λ i s. keyword_go text kw.Key i _ _ (sign Open ∷ name t.key ∷ sign Close ∷ back) e s (λ f s.
      let p = split (sign Open ∷ name t.key ∷ sign Close ∷ []) back s in
      let q = split (references_words t.references) (checks_words t.checks ++ (sign Close ∷ sign Semicolon ∷ [])) p.2 in
      let r = split (checks_words t.checks) (sign Close ∷ sign Semicolon ∷ []) q.2 in
      let rules = rules_read t.references t.checks (suc (refs + room)) p.0 refs room q.0 r.0 e (sign Semicolon ∷ []) few few2 (omega arith) fits q.1 r.1 r.2 in
      then_by (argument_at text f) _ p.0 _ (argument_read text t.key f p.0 p.1)
      (then_by (rules_at text (at_rules p.0 refs room false)) _ (at_rules r.0 (refs - length t.references) (room - length t.checks) rules.0) _ rules.1
      (sign_go text Close r.0 _ _ (sign Semicolon ∷ []) e r.2 (λ j s. sign_go text Semicolon j _ _ [] e s (λ k s. ap (λ m. Ok (at_rules m (refs - length t.references) (room - length t.checks) false)) (over s))))))))

  table_read : (t : Table) (at refs room e : ℕ) → length t.others ≤ 7 → length t.references ≤ refs → length t.checks ≤ room → ChecksFit t.checks → Run text at (name t.title ∷ sign Open ∷ name t.attribute ∷ names_words t.others ++ key_words t) e → table_rest text at refs room ≡ Ok (at_rules e (refs - length t.references) (room - length t.checks) false)
  table_read t at refs room e narrow few few2 fits s =
      name_go text t.title at _ _ (sign Open ∷ name t.attribute ∷ names_words t.others ++ key_words t) e s (λ a s. sign_go text Open a _ _ (name t.attribute ∷ names_words t.others ++ key_words t) e s (λ b s.
      let p = split (name t.attribute ∷ []) (names_words t.others ++ key_words t) s in
      let q = split (names_words t.others) (key_words t) p.2 in
      then_by (attributes_at text b) _ q.0 _
      (then_by (name_at text b) _ p.0 _ (name_end text t.attribute b p.0 p.1) (then_by (repeated (attribute_behind text) 8 (p.0, 7)) (λ s. Ok s.0) (q.0, 7 - length t.others) _ (attributes_read t.others 8 p.0 7 q.0 e _ narrow (omega arith) q.1 q.2) refl))
      (key_read t q.0 refs room e few few2 fits q.2)))

  abbrev at_schema : ℕ → ℕ → ℕ → ℕ → Schema
  at_schema end tables references checks = record { end = end; tables = tables; references = references; checks = checks }

  pub tables_read : (ts : List Table) (n at room refs checks_left e z : ℕ) (w : Token) (ws : List Token) → is_keyword kw.Table (word_in w) ≡ false → length ts ≤ room → room < n → references_in ts ≤ refs → checks_in ts ≤ checks_left → TablesFit ts → Run text at (tables_words ts) e → Run text e (w ∷ ws) z → repeated (table_behind text) n (at_schema at room refs checks_left) ≡ Ok (at_schema e (room - length ts) (refs - references_in ts) (checks_left - checks_in ts))
  tables_read [] n at room refs checks_left e z w ws other few enough few2 few3 fits s after =
      let here : table_behind text (at_schema e room refs checks_left) ≡ Ok None = pull_go text w e _ _ ws z after (λ place m q. cond-false _ _ _ other) in
      let k1 : room ≡ room - 0 = omega arith in
      let k2 : refs ≡ refs - 0 = omega arith in
      let k3 : checks_left ≡ checks_left - 0 = omega arith in
      ap (λ k. repeated (table_behind text) n (at_schema k room refs checks_left)) (over s)
      ∙ repeated_none (table_behind text) n (at_schema e room refs checks_left) here
      ∙ ap (λ m. Ok (at_schema e m refs checks_left)) k1 ∙ ap (λ m. Ok (at_schema e (room - 0) m checks_left)) k2 ∙ ap (λ m. Ok (at_schema e (room - 0) (refs - 0) m)) k3
  tables_read (t ∷ ts) n at room refs checks_left e z w ws other few enough few2 few3 fits s after =
      let p = split (table_words t) (tables_words ts) s in
      let refs' = refs - length t.references in
      let checks' = checks_left - length t.checks in
      let one : table_behind text (at_schema at room refs checks_left) ≡ Ok (Some (at_schema p.0 (room - 1) refs' checks')) =
      pull_go text (keyword kw.Table) at _ _ (name t.title ∷ sign Open ∷ name t.attribute ∷ names_words t.others ++ key_words t) p.0 p.1 (λ place m q.
      with_room_lem text room place _ (omega arith) ∙ then_by (table_rest text m refs checks_left) _ (at_rules p.0 refs' checks' false) _ (table_read t m refs checks_left p.0 fits.0 (omega arith) (omega arith) fits.1 q) refl)
      in
      let k1 : room - 1 - length ts ≡ room - length (t ∷ ts) = omega arith in
      let k2 : refs' - references_in ts ≡ refs - references_in (t ∷ ts) = omega arith in
      let k3 : checks' - checks_in ts ≡ checks_left - checks_in (t ∷ ts) = omega arith in
      repeated_some (table_behind text) n (at_schema at room refs checks_left) (at_schema p.0 (room - 1) refs' checks') (omega arith) one
      ∙ tables_read ts (n - 1) p.0 (room - 1) refs' checks' e z w ws other (omega arith) (omega arith) (omega arith) (omega arith) fits.2 p.2 after
      ∙ ap (λ m. Ok (at_schema e m (refs' - references_in ts) (checks' - checks_in ts))) k1 ∙ ap (λ m. Ok (at_schema e (room - length (t ∷ ts)) m (checks' - checks_in ts))) k2 ∙ ap (λ m. Ok (at_schema e (room - length (t ∷ ts)) (refs - references_in (t ∷ ts)) m)) k3
