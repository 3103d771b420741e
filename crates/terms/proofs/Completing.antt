-- A term that a text has from a place on is what the reader of terms accepts there.
use Rattle.std.proofs.Common.{◌≡◌, ℕ, ◌-◌, ◌≤◌, Bool, true, false, cond, ◌&&◌, ◌||◌, ◌⊎◌, List, [], ◌∷◌, ◌++◌, Some, None, Ok, Err, Result, sym, refl, ap, ◌∙◌, subst, inl, inr, arith}
use Rattle.std.proofs.lemmas.Bool.{and_from, or_parts, cond-true, cond-false}
use Rattle.faults.specs.declared.Fault.{Fault}
use Rattle.lexer.specs.declared.keywords.Keyword.TheVariants.{Head, Nil, True, False}
use Rattle.lexer.specs.declared.signs.Sign.{Sign}
use Rattle.lexer.specs.declared.signs.Sign.TheVariants.{Not, Open, Close, Times, Plus, Comma, Minus, Dot, Over, Semicolon, Less, Equal, More, And, Or}
use Rattle.lexer.specs.Lexing.{next_token}
use Rattle.terms.specs.declared.pull.Word.TheVariants as word
use Rattle.terms.specs.declared.pull.Pulled.{Pulled}
use Rattle.terms.specs.declared.shapes.Shape.{Shape}
use Rattle.terms.specs.declared.shapes.Shape.TheVariants as shape
use Rattle.terms.specs.declared.shapes.Want.{Want}
use Rattle.terms.specs.declared.shapes.Want.TheVariants as want
use Rattle.terms.specs.declared.shapes.Operator.{Operator}
use Rattle.terms.specs.declared.shapes.Operator.TheVariants.{Computes, Compares, Joins}
use Rattle.terms.specs.Pull.{pulled, is_sign, is_keyword, sign_at, keyword_at, name_at}
use Rattle.terms.specs.Shapes.{operator_of, sides_of, given_by, serves, left_side, inner_of, made_of}
use Rattle.terms.specs.Terms.{Inner, closed_as, tail_of, operator_by, operator_at, is_lone, nil_in, nil_behind, right_side, binary, unary, opened, term_at}
use Rattle.terms.specs.Trees.{Token, name, number, keyword, sign, Tree, literal, lone, head, cell, truth, is_nil, only, pair, words_of, given_in, shape_of, Sound, depth_of}
use Rattle.terms.specs.Grammar.{Stands, goes_on, Ends, Completes}
use Rattle.terms.proofs.Openings.{bracket_more}
use Rattle.terms.proofs.Steps.{untrue, nothing, then_by, word_in, First, first, stands_split, sign_read, keyword_read, name_read, taken}
use Rattle.terms.proofs.Accepting.{goes_by, goes_on_lem}

closes : (text : List ℕ) (sh : Shape) (at e : ℕ) → Stands text at (sign Close ∷ []) e → closed_as text sh at ≡ Ok (sh, e)
closes text sh at e st =
    let g = sign_read text Close at [] e st in
    then_by (sign_at text Close at) (λ e. Ok (sh, e)) g.0 (Ok (sh, e)) g.1 (ap (λ m. Ok (sh, m)) g.2)

-- Nothing goes on with a name.
ends_alone : (text : List ℕ) (e : ℕ) → goes_on (next_token text e) ≡ false → tail_of text e (pulled text e) ≡ Ok (shape.Name, e)
ends_alone text e h = go (pulled text e) (sym (goes_on_lem text e) ∙ h)
  where
    go : (q : Result Pulled Fault) → goes_by q ≡ false → tail_of text e q ≡ Ok (shape.Name, e)
    go (Err f) h = refl
    go (Ok p) h = let b = or_parts (is_sign Dot p.word) (is_sign Open p.word) h in cond-false _ _ _ b.0 ∙ cond-false _ _ _ b.1

-- A token that does not go on with a name.
abbrev pub stops : Token → Bool
stops w = is_sign Dot (word_in w) || is_sign Open (word_in w)

pub stopped : (text : List ℕ) (t : Tree) (w : Token) (ws : List Token) (m e : ℕ) → stops w ≡ false → Stands text m (w ∷ ws) e → Ends text t m
stopped text (literal n) w ws m e h st = tt
stopped text (lone v) w ws m e h st = let f = first text m w ws e st in goes_on_lem text m ∙ ap goes_by f.pulls ∙ h
stopped text (head v) w ws m e h st = tt
stopped text (cell v a) w ws m e h st = tt
stopped text (truth b) w ws m e h st = tt
stopped text (is_nil v) w ws m e h st = tt
stopped text (only s t) w ws m e h st = tt
stopped text (pair s l r) w ws m e h st = tt

operator_stops : (s : Sign) (o : Operator) → operator_of s ≡ Some o → stops (sign s) ≡ false
operator_stops Not o h = absurd (nothing h)
operator_stops Open o h = absurd (nothing h)
operator_stops Close o h = absurd (nothing h)
operator_stops Times o h = refl
operator_stops Plus o h = refl
operator_stops Comma o h = absurd (nothing h)
operator_stops Minus o h = refl
operator_stops Dot o h = absurd (nothing h)
operator_stops Over o h = refl
operator_stops Semicolon o h = absurd (nothing h)
operator_stops Less o h = refl
operator_stops Equal o h = refl
operator_stops More o h = refl
operator_stops And o h = refl
operator_stops Or o h = refl

-- No term begins with a sign other than a bracket, or with NIL.
pub record Begun (t : Tree) : Type 0 where
  pub token : Token
  pub others : List Token
  pub is : words_of t ≡ token ∷ others
  pub no_minus : is_sign Minus (word_in token) ≡ false
  pub no_not : is_sign Not (word_in token) ≡ false
  pub no_nil : is_keyword Nil (word_in token) ≡ false

pub begun : (t : Tree) → Begun t
begun (literal n) = record { token = number n; others = _; is = refl; no_minus = refl; no_not = refl; no_nil = refl }
begun (lone v) = record { token = name v; others = _; is = refl; no_minus = refl; no_not = refl; no_nil = refl }
begun (head v) = record { token = name v; others = _; is = refl; no_minus = refl; no_not = refl; no_nil = refl }
begun (cell v a) = record { token = name v; others = _; is = refl; no_minus = refl; no_not = refl; no_nil = refl }
begun (truth true) = record { token = keyword True; others = _; is = refl; no_minus = refl; no_not = refl; no_nil = refl }
begun (truth false) = record { token = keyword False; others = _; is = refl; no_minus = refl; no_not = refl; no_nil = refl }
begun (is_nil v) = record { token = sign Open; others = _; is = refl; no_minus = refl; no_not = refl; no_nil = refl }
begun (only s t) = record { token = sign Open; others = _; is = refl; no_minus = refl; no_not = refl; no_nil = refl }
begun (pair s l r) = record { token = sign Open; others = _; is = refl; no_minus = refl; no_not = refl; no_nil = refl }

pub begins_at : (text : List ℕ) (t : Tree) (at e : ℕ) → Stands text at (words_of t) e → First text at (begun t).token (begun t).others e
begins_at text t at e st = first text at (begun t).token (begun t).others e (subst (λ ws. Stands text at ws e) (begun t).is st)

-- A bracket with two sides is opened as one.
two_sided : (text : List ℕ) (inner : Inner) (want : Want) (l : Tree) (at e : ℕ) → Stands text at (words_of l) e → opened text inner want at ≡ binary text inner want at
two_sided text inner want l at e st =
    let f = begins_at text l at e st in
    then_by (pulled text at) _ _ _ f.pulls (cond-false _ _ _ (begun l).no_minus ∙ cond-false _ _ _ (begun l).no_not)

signed : (text : List ℕ) (inner : Inner) (want : Want) (s : Sign) (at : ℕ) (ws : List Token) (e : ℕ) → (s ≡ Minus) ⊎ (s ≡ Not) → (f : First text at (sign s) ws e) → opened text inner want at ≡ unary text inner want s f.place f.mid
signed text inner want s at ws e (inl p) f =
    then_by (pulled text at) _ _ _ (f.pulls ∙ ap (λ g. Ok (record { word = word.Sign g; place = f.place; end = f.mid })) p) (ap (λ g. unary text inner want g f.place f.mid) (sym p))
signed text inner want s at ws e (inr p) f =
    then_by (pulled text at) _ _ _ (f.pulls ∙ ap (λ g. Ok (record { word = word.Sign g; place = f.place; end = f.mid })) p) (ap (λ g. unary text inner want g f.place f.mid) (sym p))

in_bracket : (text : List ℕ) (d : ℕ) (want : Want) (at : ℕ) (ws : List Token) (e : ℕ) → 1 ≤ d → (f : First text at (sign Open) ws e) → term_at text d want at ≡ opened text (term_at text (d - 1)) want f.mid
in_bracket text d want at ws e some f =
    sym (bracket_more text want at (record { word = word.Sign Open; place = f.place; end = f.mid }) (sym f.pulls) refl d (d - 1) (taken d _ some))

no_nil : (text : List ℕ) (left : Shape) (s : Sign) (t : Tree) (at e : ℕ) → Stands text at (words_of t) e → nil_behind text left s at ≡ None
no_nil text left s t at e st =
    let f = begins_at text t at e st in
    go (is_lone left && is_sign Equal (word.Sign s)) (ap nil_in f.pulls ∙ cond-false _ _ _ (begun t).no_nil)
  where
    go : (b : Bool) → nil_in (pulled text at) ≡ None → cond b (nil_in (pulled text at)) None ≡ None
    go true h = h
    go false h = refl

left_served : (want : Want) (o : Operator) (sh : Shape) → serves (sides_of o) sh ≡ true → serves want (given_by o) ≡ true → serves (left_side want) sh ≡ true
left_served want.Value Computes sh a b = a
left_served want.Value Compares sh a b = absurd (untrue b)
left_served want.Value Joins sh a b = absurd (untrue b)
left_served want.Truth o shape.Name a b = refl
left_served want.Truth o shape.Value a b = refl
left_served want.Truth o shape.Truth a b = refl
left_served want.Either o shape.Name a b = refl
left_served want.Either o shape.Value a b = refl
left_served want.Either o shape.Truth a b = refl

left_of_truth : (want : Want) → serves want shape.Truth ≡ true → serves (left_side want) shape.Name ≡ true
left_of_truth want.Value h = absurd (untrue h)
left_of_truth want.Truth h = refl
left_of_truth want.Either h = refl

named : (want : Want) → serves want shape.Value ≡ true → serves want shape.Name ≡ true
named want.Value h = h
named want.Truth h = h
named want.Either h = h

lone_read : (text v : List ℕ) (d : ℕ) (want : Want) (at e : ℕ) → serves want shape.Name ≡ true → Stands text at (name v ∷ []) e → goes_on (next_token text e) ≡ false → term_at text d want at ≡ Ok (shape.Name, e)
lone_read text v d want at e srv st free =
    let f = first text at (name v) [] e st in
    then_by (pulled text at) _ _ _ f.pulls (cond-true _ _ _ srv ∙ ap (λ k. tail_of text k (pulled text k)) f.rest ∙ ends_alone text e free)

pub complete : (text : List ℕ) (t : Tree) (d : ℕ) (want : Want) (at e : ℕ) → Sound t → serves want (shape_of t) ≡ true → depth_of t ≤ d → Stands text at (words_of t) e → Ends text t e → term_at text d want at ≡ Ok (shape_of t, e)
complete text (literal n) d want at e snd srv shallow st free =
    let f = first text at (number n) [] e st in
    then_by (pulled text at) _ _ _ f.pulls (cond-true _ _ _ srv ∙ ap (λ m. Ok (shape.Value, m)) f.rest)
complete text (lone v) d want at e snd srv shallow st free = lone_read text v d want at e srv st free
complete text (head v) d want at e snd srv shallow st free =
    let f = first text at (name v) (sign Dot ∷ keyword Head ∷ []) e st in
    let g = first text f.mid (sign Dot) (keyword Head ∷ []) e f.rest in
    let k = keyword_read text Head g.mid [] e g.rest in
    then_by (pulled text at) _ _ _ f.pulls (
    cond-true _ _ _ (named want srv)
    ∙ ap (tail_of text f.mid) g.pulls
    ∙ then_by (keyword_at text Head g.mid) (λ e. Ok (shape.Value, e)) k.0 (Ok (shape.Value, e)) k.1 (ap (λ m. Ok (shape.Value, m)) k.2)
    )
complete text (cell v a) d want at e snd srv shallow st free =
    let f = first text at (name v) (sign Open ∷ name a ∷ sign Close ∷ []) e st in
    let g = first text f.mid (sign Open) (name a ∷ sign Close ∷ []) e f.rest in
    let k = name_read text g.mid a (sign Close ∷ []) e g.rest in
    then_by (pulled text at) _ _ _ f.pulls (
    cond-true _ _ _ (named want srv)
    ∙ ap (tail_of text f.mid) g.pulls
    ∙ then_by (name_at text g.mid) (closed_as text shape.Value) k.0 (Ok (shape.Value, e)) k.1 (closes text shape.Value k.0 e k.2)
    )
complete text (truth true) d want at e snd srv shallow st free =
    let f = first text at (keyword True) [] e st in
    then_by (pulled text at) _ _ _ f.pulls (cond-true _ _ _ (and_from _ true srv refl) ∙ ap (λ m. Ok (shape.Truth, m)) f.rest)
complete text (truth false) d want at e snd srv shallow st free =
    let f = first text at (keyword False) [] e st in
    then_by (pulled text at) _ _ _ f.pulls (cond-true _ _ _ (and_from _ true srv refl) ∙ ap (λ m. Ok (shape.Truth, m)) f.rest)
complete text (is_nil v) d want at e snd srv shallow st free =
    let f = first text at (sign Open) (name v ∷ sign Equal ∷ keyword Nil ∷ sign Close ∷ []) e st in
    let sl = stands_split text f.mid e (name v ∷ []) (sign Equal ∷ keyword Nil ∷ sign Close ∷ []) f.rest in
    let fo = first text sl.0 (sign Equal) (keyword Nil ∷ sign Close ∷ []) e sl.2 in
    let fn = first text fo.mid (keyword Nil) (sign Close ∷ []) e fo.rest in
    let inner : Inner = term_at text (d - 1) in
    let left = lone_read text v (d - 1) (left_side want) f.mid sl.0 (left_of_truth want srv) sl.1 (stopped text (lone v) (sign Equal) (keyword Nil ∷ sign Close ∷ []) sl.0 e refl sl.2) in
    let op : operator_at text want shape.Name sl.0 ≡ Ok (Compares, Equal, fo.mid) = then_by (pulled text sl.0) _ _ _ fo.pulls (cond-true _ _ _ srv) in
    in_bracket text d want at (name v ∷ sign Equal ∷ keyword Nil ∷ sign Close ∷ []) e (omega arith) f
    ∙ two_sided text inner want (lone v) f.mid sl.0 sl.1
    ∙ then_by (inner (left_side want) f.mid) _ _ _ left (
    then_by (operator_at text want shape.Name sl.0) _ _ _ op (
    ap (λ q. right_side text inner (Compares, Equal, fo.mid) (nil_in q)) fn.pulls
    ∙ closes text shape.Truth fn.mid e fn.rest
    )
    )
complete text (only s t) d want at e snd srv shallow st free =
    let f = first text at (sign Open) (sign s ∷ words_of t ++ (sign Close ∷ [])) e st in
    let g = first text f.mid (sign s) (words_of t ++ (sign Close ∷ [])) e f.rest in
    let sp = stands_split text g.mid e (words_of t) (sign Close ∷ []) g.rest in
    let ih = complete text t (d - 1) (inner_of s) g.mid sp.0 snd.2 snd.1 (omega arith) sp.1 (stopped text t (sign Close) [] sp.0 e refl sp.2) in
    in_bracket text d want at (sign s ∷ words_of t ++ (sign Close ∷ [])) e (omega arith) f
    ∙ signed text (term_at text (d - 1)) want s f.mid (words_of t ++ (sign Close ∷ [])) e snd.0 g
    ∙ cond-true _ _ _ srv
    ∙ then_by (term_at text (d - 1) (inner_of s) g.mid) _ _ _ ih (closes text (made_of s) sp.0 e sp.2)
complete text (pair s l r) d want at e snd srv shallow st free =
    let o = snd.0 in
    let back = sign s ∷ words_of r ++ (sign Close ∷ []) in
    let f = first text at (sign Open) (words_of l ++ back) e st in
    let sl = stands_split text f.mid e (words_of l) back f.rest in
    let fo = first text sl.0 (sign s) (words_of r ++ (sign Close ∷ [])) e sl.2 in
    let sr = stands_split text fo.mid e (words_of r) (sign Close ∷ []) fo.rest in
    let inner : Inner = term_at text (d - 1) in
    let given : given_in (operator_of s) ≡ given_by o = ap given_in snd.1 in
    let srv' : serves want (given_by o) ≡ true = ap (serves want) (sym given) ∙ srv in
    let left = complete text l (d - 1) (left_side want) f.mid sl.0 snd.4 (left_served want o (shape_of l) snd.2 srv') (omega arith) sl.1 (stopped text l (sign s) (words_of r ++ (sign Close ∷ [])) sl.0 e (operator_stops s o snd.1) sl.2) in
    let right = complete text r (d - 1) (sides_of o) fo.mid sr.0 snd.5 snd.3 (omega arith) sr.1 (stopped text r (sign Close) [] sr.0 e refl sr.2) in
    let op : operator_at text want (shape_of l) sl.0 ≡ Ok (o, s, fo.mid) =
    then_by (pulled text sl.0) _ _ _ fo.pulls (ap (operator_by want (shape_of l) s (record { word = word.Sign s; place = fo.place; end = fo.mid })) snd.1 ∙ cond-true _ _ _ (and_from _ _ snd.2 srv'))
    in
    in_bracket text d want at (words_of l ++ back) e (omega arith) f
    ∙ two_sided text inner want l f.mid sl.0 sl.1
    ∙ then_by (inner (left_side want) f.mid) _ _ _ left (
    then_by (operator_at text want (shape_of l) sl.0) _ _ _ op (
    ap (right_side text inner (o, s, fo.mid)) (no_nil text (shape_of l) s r fo.mid sr.0 sr.1)
    ∙ then_by (inner (sides_of o) fo.mid) _ _ _ right (closes text (given_by o) sr.0 e sr.2)
    ∙ ap (λ sh. Ok (sh, e)) (sym given)
    )
    )

pub completes : Completes
completes text d want at t end term free = complete text t d want at end term.sound term.served term.shallow term.stands free
