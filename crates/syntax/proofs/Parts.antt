-- Lists, writes and the other parts of statements: what is accepted stands there, and what stands there is accepted.
use Rattle.std.proofs.Common.{◌≡◌, ℕ, zero, suc, ◌≤◌, Bool, true, false, cond, List, [], ◌∷◌, ◌++◌, length, Some, None, Ok, Err, Option, Result, sym, refl, ap, ◌∙◌, subst, arith, length-append}
use Rattle.std.proofs.lemmas.Bool.{cond-false}
use Rattle.faults.specs.declared.Fault.{Fault}
use Rattle.lexer.specs.declared.keywords.Keyword.{Keyword}
use Rattle.lexer.specs.declared.keywords.Keyword.TheVariants as kw
use Rattle.lexer.specs.declared.signs.Sign.TheVariants.{Open, Close, Comma, Equal}
use Rattle.terms.specs.declared.pull.Pulled.{Pulled}
use Rattle.terms.specs.declared.shapes.Want.TheVariants as want
use Rattle.terms.specs.Pull.{and_then, pulled, is_sign, sign_at}
use Rattle.terms.specs.Trees.{Token, name, keyword, sign, Tree, words_of}
use Rattle.terms.specs.Grammar.{Stands, Ends}
use Rattle.terms.proofs.Steps.{never, then_ok, then_by, first}
use Rattle.terms.proofs.Completing.{stopped, complete}
use Rattle.syntax.specs.Repeats.{some, onward, repeated}
use Rattle.syntax.specs.Trees.{Act, insert, update, delete, names_words, values_words, act_words, Fits, AllFit, ActFits}
use Rattle.syntax.proofs.Repeating.{repeated_none, repeated_ok}
use Rattle.syntax.proofs.Runs.{Run, run_none, glue, split, over, used, sign_step, keyword_step, name_step, sign_go, keyword_go, name_go, term_go, term_step, sign_last, name_last, sign_end, name_end, term_last, Follows, follows, term_end_lem, pulled_sign}
use Rattle.syntax.specs.declared.clauses.Element.{Element}
use Rattle.syntax.specs.declared.clauses.Element.TheVariants.{Attribute, Value}
use Rattle.syntax.specs.Clauses.{term_end, where_at, element_at, element_in, element_behind, list_at, argument_at, insert_rest, update_rest, delete_rest, select_rest}

pub some_ok : {S : Type 0} (r : Result S Fault) (s : S) → some r ≡ Ok (Some s) → r ≡ Ok s
some_ok (Ok t) s h = cc
some_ok (Err f) s h = absurd (never h)

pub not_none : {S : Type 0} {s : S} → ◌≡◌ {A = Result (Option S) Fault} (Ok None) (Ok (Some s)) → ⊥
not_none h = let z : ◌≡◌ {A = ℕ} 0 1 = cc in omega arith

module _ (text : List ℕ) where
  -- One element more came.
  pub element_came : (el : Element) (at m : ℕ) → element_behind text el at ≡ Ok (Some m) → (c : ℕ) × Run text at (sign Comma ∷ []) c × (element_at text el c ≡ Ok m)
  element_came el at m h = go (pulled text at) refl h
    where
      here : (p : Pulled) → pulled text at ≡ Ok p → (b : Bool) → is_sign Comma p.word ≡ b → cond b (some (element_at text el p.end)) (Ok None) ≡ Ok (Some m) → (c : ℕ) × Run text at (sign Comma ∷ []) c × (element_at text el c ≡ Ok m)
      here p is true same h = (p.end, pulled_sign text Comma at p is same, some_ok (element_at text el p.end) m h)
      here p is false same h = absurd (not_none h)

      go : (q : Result Pulled Fault) → pulled text at ≡ q → element_in text el q ≡ Ok (Some m) → (c : ℕ) × Run text at (sign Comma ∷ []) c × (element_at text el c ≡ Ok m)
      go (Err f) is h = absurd (not_none h)
      go (Ok p) is h = here p is (is_sign Comma p.word) refl h

  names_ok : (n at e : ℕ) → repeated (element_behind text Attribute) n at ≡ Ok e → (ns : List (List ℕ)) × Run text at (names_words ns) e
  names_ok =
      repeated_ok (element_behind text Attribute) (λ at e. (ns : List (List ℕ)) × Run text at (names_words ns) e) (λ at. ([], run_none)) (λ at m e is more.
      let c = element_came Attribute at m is in
      let x = name_last text c.0 m c.2 in
      (x.0 ∷ more.0, glue c.1 (glue x.1 more.1)))

  values_ok : (n at e : ℕ) → repeated (element_behind text Value) n at ≡ Ok e → (es : List Tree) × AllFit es × Run text at (values_words es) e
  values_ok =
      repeated_ok (element_behind text Value) (λ at e. (es : List Tree) × AllFit es × Run text at (values_words es) e) (λ at. ([], tt, run_none)) (λ at m e is more.
      let c = element_came Value at m is in
      let x = term_last text want.Value c.0 m c.2 in
      (x.0 ∷ more.0, (x.1, more.1), glue c.1 (glue x.2 more.2)))

  -- No element more stands there.
  element_none : (el : Element) (e : ℕ) → Follows text e → element_behind text el e ≡ Ok None
  element_none el e f = let i = first text e f.token f.others f.end f.stands in ap (element_in text el) i.pulls ∙ cond-false _ _ _ f.no_comma

  names_read : (n : ℕ) (ns : List (List ℕ)) (at e : ℕ) → length ns ≤ n → Follows text e → Run text at (names_words ns) e → repeated (element_behind text Attribute) n at ≡ Ok e
  unfolding repeated
  names_read n [] at e few f s = ap (repeated (element_behind text Attribute) n) (over s) ∙ repeated_none (element_behind text Attribute) n e (element_none Attribute e f)
  names_read zero (x ∷ ns) at e few f s = absurd (omega arith)
  names_read (suc n) (x ∷ ns) at e few f s =
      let i = first text at (sign Comma) (name x ∷ names_words ns) e s.stands in
      let p = split (name x ∷ []) (names_words ns) (record { stands = i.rest }) in
      let one : element_behind text Attribute at ≡ Ok (Some p.0) = ap (element_in text Attribute) i.pulls ∙ ap some (name_end text x i.mid p.0 p.1) in
      ap (onward (repeated (element_behind text Attribute) n) at) one ∙ names_read n ns p.0 e (omega arith) f p.2

  values_stop : (t : Tree) (es : List Tree) (m e : ℕ) → Follows text e → Run text m (values_words es) e → Ends text t m
  values_stop t [] m e f s = stopped text t f.token f.others m f.end f.stop (subst (λ k. Stands text k (f.token ∷ f.others) f.end) (sym (over s)) f.stands)
  values_stop t (x ∷ es) m e f s = stopped text t (sign Comma) (words_of x ++ values_words es) m e refl s.stands

  value_read : (t : Tree) (es : List Tree) (at m e : ℕ) → Fits want.Value t → Follows text e → Run text at (words_of t) m → Run text m (values_words es) e → term_end text want.Value at ≡ Ok m
  value_read t es at m e fits f s more = then_by _ (λ r. Ok r.1) _ _ (complete text t 12 want.Value at m fits.0 fits.2 fits.1 s.stands (values_stop t es m e f more)) refl

  values_read : (n : ℕ) (es : List Tree) (at e : ℕ) → length es ≤ n → AllFit es → Follows text e → Run text at (values_words es) e → repeated (element_behind text Value) n at ≡ Ok e
  unfolding repeated
  values_read n [] at e few fits f s = ap (repeated (element_behind text Value) n) (over s) ∙ repeated_none (element_behind text Value) n e (element_none Value e f)
  values_read zero (x ∷ es) at e few fits f s = absurd (omega arith)
  values_read (suc n) (x ∷ es) at e few fits f s =
      let i = first text at (sign Comma) (words_of x ++ values_words es) e s.stands in
      let p = split (words_of x) (values_words es) (record { stands = i.rest }) in
      let one : element_behind text Value at ≡ Ok (Some p.0) = ap (element_in text Value) i.pulls ∙ ap some (value_read x es i.mid p.0 e fits.0 f p.1 p.2) in
      ap (onward (repeated (element_behind text Value) n) at) one ∙ values_read n es p.0 e (omega arith) fits.1 f p.2

names_many : (ns : List (List ℕ)) → length ns ≤ length (names_words ns)
names_many [] = omega arith
names_many (x ∷ ns) = let k = names_many ns in omega arith

values_many : (es : List Tree) → length es ≤ length (values_words es)
values_many [] = omega arith
values_many (x ∷ es) = let k = values_many es in omega (arith, length-append (words_of x) (values_words es))

-- An act behind its first word.
pub record Acts (text : List ℕ) (k : Keyword) (at e : ℕ) : Type 0 where
  pub done : Act
  pub more : List Token
  pub is : act_words done ≡ keyword k ∷ more
  pub fits : ActFits done
  pub run : Run text at more e

module _ (text : List ℕ) where
  pub argument_ok : (at e : ℕ) → argument_at text at ≡ Ok e → (v : List ℕ) × Run text at (sign Open ∷ name v ∷ sign Close ∷ []) e
  argument_ok at e h =
      let a = sign_step text Open at _ _ h in
      let b = name_step text a.0 _ _ a.2 in
      (b.1, glue a.1 (glue b.2 (sign_last text Close b.0 e b.3)))

  pub argument_read : (v : List ℕ) (at e : ℕ) → Run text at (sign Open ∷ name v ∷ sign Close ∷ []) e → argument_at text at ≡ Ok e
  argument_read v at e s = sign_go text Open at _ _ _ _ s (λ a s. name_go text v a _ _ _ _ s (λ b s. sign_end text Close b e s))

  pub where_ok : (at e : ℕ) → where_at text at ≡ Ok e → (c : Tree) × Fits want.Truth c × Run text at (keyword kw.Where ∷ words_of c) e
  where_ok at e h =
      let a = keyword_step text kw.Where at _ _ h in
      let c = term_last text want.Truth a.0 e a.2 in
      (c.0, c.1, glue a.1 c.2)

  pub where_read : (c : Tree) (at e : ℕ) → Fits want.Truth c → Follows text e → Run text at (keyword kw.Where ∷ words_of c) e → where_at text at ≡ Ok e
  where_read c at e fits f s = keyword_go text kw.Where at _ _ _ _ s (λ a s. term_end_lem text want.Truth c a e fits f s)

  pub insert_ok : (at e : ℕ) → insert_rest text at ≡ Ok e → Acts text kw.Insert at e
  insert_ok at e h =
      let a = keyword_step text kw.Into at _ _ h in
      let b = name_step text a.0 _ _ a.2 in
      let c = keyword_step text kw.Values b.0 _ _ b.3 in
      let d = sign_step text Open c.0 _ _ c.2 in
      let l = then_ok (list_at text Value d.0) _ _ d.2 in
      let x = term_step text want.Value d.0 _ _ l.1 in
      let xs = values_ok text (length text) x.0 l.0 x.4 in
      record {
        done = insert b.1 x.1 xs.0;
        more = _;
        is = refl;
        fits = (x.2, xs.1);
        run = glue a.1 (glue b.2 (glue c.1 (glue d.1 (glue x.3 (glue xs.2 (sign_last text Close l.0 e l.2))))));
      }

  pub insert_read : (t : List ℕ) (x : Tree) (xs : List Tree) (at e : ℕ) → Fits want.Value x → AllFit xs → Run text at (keyword kw.Into ∷ name t ∷ keyword kw.Values ∷ sign Open ∷ words_of x ++ (values_words xs ++ (sign Close ∷ []))) e → insert_rest text at ≡ Ok e
  insert_read t x xs at e fx fxs s =
      keyword_go text kw.Into at _ _ _ _ s (λ a s. name_go text t a _ _ _ _ s (λ b s. keyword_go text kw.Values b _ _ _ _ s (λ c s. sign_go text Open c _ _ _ _ s (λ d s. here d s))))
    where
      here : (d : ℕ) → Run text d (words_of x ++ (values_words xs ++ (sign Close ∷ []))) e → and_then (list_at text Value d) (sign_at text Close) ≡ Ok e
      here d s =
          let p = split (words_of x) (values_words xs ++ (sign Close ∷ [])) s in
          let q = split (values_words xs) (sign Close ∷ []) p.2 in
          let f : Follows text q.0 = follows text q.2 refl refl in
          let few : length xs ≤ length text = let k = used (values_words xs) q.1 in let j = values_many xs in omega arith in
          then_by _ (sign_at text Close) q.0 _
          (then_by _ (repeated (element_behind text Value) (length text)) p.0 _ (value_read text x xs d p.0 q.0 fx f p.1 q.1) (values_read text (length text) xs p.0 q.0 few fxs f q.1))
          (sign_end text Close q.0 e q.2)

  pub update_ok : (at e : ℕ) → update_rest text at ≡ Ok e → Acts text kw.Update at e
  update_ok at e h =
      let a = name_step text at _ _ h in
      let b = keyword_step text kw.Set a.0 _ _ a.3 in
      let c = name_step text b.0 _ _ b.2 in
      let d = sign_step text Equal c.0 _ _ c.3 in
      let x = term_step text want.Value d.0 _ _ d.2 in
      let w = where_ok x.0 e x.4 in
      record {
        done = update a.1 c.1 x.1 w.0;
        more = _;
        is = refl;
        fits = (x.2, w.1);
        run = glue a.2 (glue b.1 (glue c.2 (glue d.1 (glue x.3 w.2))));
      }

  pub update_read : (t a : List ℕ) (x c : Tree) (at e : ℕ) → Fits want.Value x → Fits want.Truth c → Follows text e → Run text at (name t ∷ keyword kw.Set ∷ name a ∷ sign Equal ∷ words_of x ++ (keyword kw.Where ∷ words_of c)) e → update_rest text at ≡ Ok e
  update_read t a x c at e fx fc f s =
      name_go text t at _ _ _ _ s (λ i s. keyword_go text kw.Set i _ _ _ _ s (λ j s. name_go text a j _ _ _ _ s (λ k s. sign_go text Equal k _ _ _ _ s (λ l s.
      term_go text want.Value x l _ _ (keyword kw.Where) (words_of c) e fx refl s (λ m s. where_read c m e fc f s)))))

  pub delete_ok : (at e : ℕ) → delete_rest text at ≡ Ok e → Acts text kw.Delete at e
  delete_ok at e h =
      let a = keyword_step text kw.From at _ _ h in
      let b = name_step text a.0 _ _ a.2 in
      let w = where_ok b.0 e b.3 in
      record { done = delete b.1 w.0; more = _; is = refl; fits = w.1; run = glue a.1 (glue b.2 w.2) }

  pub delete_read : (t : List ℕ) (c : Tree) (at e : ℕ) → Fits want.Truth c → Follows text e → Run text at (keyword kw.From ∷ name t ∷ keyword kw.Where ∷ words_of c) e → delete_rest text at ≡ Ok e
  delete_read t c at e fc f s = keyword_go text kw.From at _ _ _ _ s (λ i s. name_go text t i _ _ _ _ s (λ j s. where_read c j e fc f s))

  pub select_ok : (at e : ℕ) → select_rest text at ≡ Ok e → (a : List ℕ) × (ns : List (List ℕ)) × (t : List ℕ) × (c : Tree) × Fits want.Truth c × Run text at (name a ∷ names_words ns ++ (keyword kw.From ∷ name t ∷ keyword kw.Where ∷ words_of c)) e
  select_ok at e h =
      let l = then_ok (list_at text Attribute at) _ _ h in
      let x = name_step text at _ _ l.1 in
      let xs = names_ok text (length text) x.0 l.0 x.3 in
      let a = keyword_step text kw.From l.0 _ _ l.2 in
      let b = name_step text a.0 _ _ a.2 in
      let w = where_ok b.0 e b.3 in
      (x.1, xs.0, b.1, w.0, w.1, glue x.2 (glue xs.1 (glue a.1 (glue b.2 w.2))))

  pub select_read : (a : List ℕ) (ns : List (List ℕ)) (t : List ℕ) (c : Tree) (at e : ℕ) → Fits want.Truth c → Follows text e → Run text at (name a ∷ names_words ns ++ (keyword kw.From ∷ name t ∷ keyword kw.Where ∷ words_of c)) e → select_rest text at ≡ Ok e
  select_read a ns t c at e fc f s =
      let p = split (name a ∷ []) (names_words ns ++ (keyword kw.From ∷ name t ∷ keyword kw.Where ∷ words_of c)) s in
      let q = split (names_words ns) (keyword kw.From ∷ name t ∷ keyword kw.Where ∷ words_of c) p.2 in
      let few : length ns ≤ length text = let k = used (names_words ns) q.1 in let j = names_many ns in omega arith in
      then_by _ _ q.0 _
      (then_by _ (repeated (element_behind text Attribute) (length text)) p.0 _ (name_end text a at p.0 p.1) (names_read text (length text) ns p.0 q.0 few (follows text q.2 refl refl) q.1))
      (keyword_go text kw.From q.0 _ _ _ _ q.2 (λ i s. name_go text t i _ _ _ _ s (λ j s. where_read c j e fc f s)))
