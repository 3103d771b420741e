-- What the reader of terms accepts is a term that the text has there.
use Rattle.std.proofs.Common.{◌≡◌, ℕ, zero, suc, ◌≤◌, Bool, true, false, cond, ◌&&◌, ◌||◌, eqb, ◌⊎◌, List, [], ◌∷◌, ◌++◌, length, Some, None, Ok, Err, Option, Result, sym, refl, ap, ◌∙◌, subst, inl, inr, arith}
use Rattle.std.proofs.lemmas.Bool.{and_parts, or_from}
use Rattle.faults.specs.declared.Fault.{Fault}
use Rattle.faults.specs.declared.Fault.TheVariants.{NotAllowed}
use Rattle.lexer.specs.declared.keywords.Keyword.TheVariants.{Head, Nil, True, False}
use Rattle.lexer.specs.declared.signs.Sign.{Sign}
use Rattle.lexer.specs.declared.signs.Sign.TheVariants.{Open, Close, Dot, Minus, Not, Equal}
use Rattle.lexer.specs.Tokens.{Lexeme}
use Rattle.lexer.specs.Lexing.{next_token, with_end}
use Rattle.terms.specs.declared.pull.Word.TheVariants as word
use Rattle.terms.specs.declared.pull.Pulled.{Pulled}
use Rattle.terms.specs.declared.shapes.Shape.{Shape}
use Rattle.terms.specs.declared.shapes.Shape.TheVariants as shape
use Rattle.terms.specs.declared.shapes.Want.{Want}
use Rattle.terms.specs.declared.shapes.Want.TheVariants as want
use Rattle.terms.specs.declared.shapes.Operator.{Operator}
use Rattle.terms.specs.declared.shapes.Operator.TheVariants.{Computes, Compares, Joins}
use Rattle.terms.specs.Pull.{or_refused, and_then, pulled, is_sign, is_keyword, sign_number, sign_at, keyword_at, name_at}
use Rattle.terms.specs.Shapes.{operator_of, sides_of, given_by, serves, left_side, takes, inner_of, made_of}
use Rattle.terms.specs.Terms.{Read, Inner, closed_as, tail_of, operator_by, operator_in, operator_at, is_lone, nil_in, nil_behind, right_side, binary, unary, opened, begins, opening, term_at}
use Rattle.terms.specs.Trees.{Token, name, number, keyword, sign, Tree, literal, lone, head, cell, truth, is_nil, only, pair, words_of, given_in, shape_of, Sound, depth_of}
use Rattle.terms.specs.Grammar.{Stands, Term, goes_on, Ends, Accepts}
use Rattle.terms.proofs.Steps.{never, untrue, nothing, then_ok, cond_ok, sign_same, keyword_same, word_in, sign_is, keyword_is, Came, came, sign_came, keyword_came, name_came, stands_append}

-- What follows a name, by the token that was pulled.
abbrev pub goes_by : Result Pulled Fault → Bool
goes_by (Ok p) = is_sign Dot p.word || is_sign Open p.word
goes_by (Err f) = false

pub goes_on_lem : (text : List ℕ) (at : ℕ) → goes_on (next_token text at) ≡ goes_by (pulled text at)
unfolding pulled
goes_on_lem text at = go (next_token text at)
  where
    go : (r : Result (Option Lexeme) Fault) → goes_on r ≡ goes_by (and_then (with_end r) (or_refused (length text)))
    go (Ok (Some t)) = refl
    go (Ok None) = refl
    go (Err f) = refl

-- A term was found.
abbrev pub Found : List ℕ → ℕ → Want → ℕ → Shape × ℕ → Type 0
Found text d want at r = (t : Tree) × (shape_of t ≡ r.0) × Term text d want at t r.1 × Ends text t r.1

abbrev Good : List ℕ → ℕ → Inner → Type 0
Good text d inner = (want : Want) (at : ℕ) (r : Shape × ℕ) → inner want at ≡ Ok r → Found text d want at r

closed_came : (text : List ℕ) (sh : Shape) (at : ℕ) (r : Shape × ℕ) → closed_as text sh at ≡ Ok r → (sh ≡ r.0) × Stands text at (sign Close ∷ []) r.1
closed_came text sh at r h =
    let i = then_ok (sign_at text Close at) (λ e. Ok (sh, e)) r h in
    let both : ◌≡◌ {A = Shape × ℕ} (sh, i.0) r = let k = i.2 in cc in
    (ap (λ q. q.0) both, sign_came text Close at r.1 (i.1 ∙ ap (λ q. Ok q.1) both))

-- What stands behind an opening bracket, up to the bracket that closes it.
pub record Inside (text : List ℕ) (d : ℕ) (want : Want) (at : ℕ) (r : Shape × ℕ) : Type 0 where
  pub tree : Tree
  pub body : List Token
  pub is : words_of tree ≡ sign Open ∷ body
  pub stands : Stands text at body r.1
  pub shape_is : shape_of tree ≡ r.0
  pub sound : Sound tree
  pub shallow : depth_of tree ≤ d
  pub served : serves want (shape_of tree) ≡ true
  pub ends : Ends text tree r.1

unary_ok : (text : List ℕ) (d : ℕ) (inner : Inner) → Good text d inner → (want : Want) (s : Sign) → (s ≡ Minus) ⊎ (s ≡ Not) → (at place e : ℕ) → Stands text at (sign s ∷ []) e → (r : Shape × ℕ) → unary text inner want s place e ≡ Ok r → Inside text (suc d) want at r
unary_ok text d inner good want s which at place e st r h =
    let i = cond_ok (serves want (made_of s)) (and_then (inner (inner_of s) e) (λ r. closed_as text (made_of s) r.1)) (NotAllowed place) r h in
    let j = then_ok (inner (inner_of s) e) (λ r. closed_as text (made_of s) r.1) r i.1 in
    let g = good (inner_of s) e j.0 j.1 in
    let c = closed_came text (made_of s) j.0.1 r j.2 in
    record {
      tree = only s g.0;
      body = sign s ∷ words_of g.0 ++ (sign Close ∷ []);
      is = refl;
      stands = stands_append text at e r.1 (sign s ∷ []) (words_of g.0 ++ (sign Close ∷ [])) st (stands_append text e j.0.1 r.1 (words_of g.0) (sign Close ∷ []) g.2.stands c.1);
      shape_is = c.0;
      sound = (which, g.2.served, g.2.sound);
      shallow = let k = g.2.shallow in omega arith;
      served = i.0;
      ends = tt;
    }

-- An operator that was taken.
pub record Taken (text : List ℕ) (want : Want) (left : Shape) (at : ℕ) (o : Operator × Sign × ℕ) : Type 0 where
  pub stands : Stands text at (sign o.1 ∷ []) o.2
  pub known : operator_of o.1 ≡ Some o.0
  pub taken : takes want left o.0 ≡ true

operator_by_lem : (text : List ℕ) (want : Want) (left : Shape) (at : ℕ) (s : Sign) (p : Pulled) (k : Option Operator) → operator_of s ≡ k → Stands text at (sign s ∷ []) p.end → (o : Operator × Sign × ℕ) → operator_by want left s p k ≡ Ok o → Taken text want left at o
operator_by_lem text want left at s p None is st o h = absurd (never h)
operator_by_lem text want left at s p (Some k) is st o h =
    let i = cond_ok (takes want left k) (Ok (k, s, p.end)) (NotAllowed p.place) o h in
    let both : ◌≡◌ {A = Operator × Sign × ℕ} (k, s, p.end) o = let g = i.1 in cc in
    subst (λ o. Taken text want left at o) both (record { stands = st; known = is; taken = i.0 })

operator_ok : (text : List ℕ) (want : Want) (left : Shape) (at : ℕ) (o : Operator × Sign × ℕ) → operator_at text want left at ≡ Ok o → Taken text want left at o
operator_ok text want left at o h =
    let i = then_ok (pulled text at) (λ p. operator_in want left p p.word) o h in
    let p = i.0 in
    let c = came text at p i.1 in
    go p c.token c.stands (sym (ap (operator_in want left p) c.is) ∙ i.2)
  where
    go : (p : Pulled) (w : Token) → Stands text at (w ∷ []) p.end → operator_in want left p (word_in w) ≡ Ok o → Taken text want left at o
    go p (name s) st h = absurd (never h)
    go p (number n) st h = absurd (never h)
    go p (keyword k) st h = absurd (never h)
    go p (sign s) st h = operator_by_lem text want left at s p (operator_of s) refl st o h

-- NIL came behind a lone name and an equals sign.
nil_in_lem : (text : List ℕ) (at : ℕ) (q : Result Pulled Fault) → pulled text at ≡ q → (e : ℕ) → nil_in q ≡ Some e → Stands text at (keyword Nil ∷ []) e
nil_in_lem text at (Err f) is e h = absurd (nothing h)
nil_in_lem text at (Ok p) is e h = go (is_keyword Nil p.word) refl h
  where
    go : (b : Bool) → is_keyword Nil p.word ≡ b → cond b (Some p.end) None ≡ Some e → Stands text at (keyword Nil ∷ []) e
    go false same h = absurd (nothing h)
    go true same h =
        let c = came text at p is in
        let k : p.end ≡ e = cc in
        let w : c.token ≡ keyword Nil = keyword_is Nil c.token (sym (ap (is_keyword Nil) c.is) ∙ same) in
        subst (λ m. Stands text at (keyword Nil ∷ []) m) k (subst (λ w. Stands text at (w ∷ []) p.end) w c.stands)

nil_ok : (text : List ℕ) (left : Shape) (s : Sign) (at e : ℕ) → nil_behind text left s at ≡ Some e → (is_lone left ≡ true) × (s ≡ Equal) × Stands text at (keyword Nil ∷ []) e
nil_ok text left s at e h = go (is_lone left && is_sign Equal (word.Sign s)) refl h
  where
    go : (b : Bool) → (is_lone left && is_sign Equal (word.Sign s)) ≡ b → cond b (nil_in (pulled text at)) None ≡ Some e → (is_lone left ≡ true) × (s ≡ Equal) × Stands text at (keyword Nil ∷ []) e
    go false same h = absurd (nothing h)
    go true same h =
        let p = and_parts (is_lone left) (is_sign Equal (word.Sign s)) same in
        (p.0, sign_same s Equal p.1, nil_in_lem text at (pulled text at) refl e h)

made_not_lone : (b : Bool) → is_lone (cond b shape.Value shape.Truth) ≡ true → ⊥
made_not_lone true h = untrue h
made_not_lone false h = untrue h

given_not_lone : (k : Option Operator) → is_lone (given_in k) ≡ true → ⊥
given_not_lone None h = untrue h
given_not_lone (Some Computes) h = untrue h
given_not_lone (Some Compares) h = untrue h
given_not_lone (Some Joins) h = untrue h

lone_is : (t : Tree) → is_lone (shape_of t) ≡ true → (v : List ℕ) × (t ≡ lone v)
lone_is (literal n) h = absurd (untrue h)
lone_is (lone v) h = (v, refl)
lone_is (head v) h = absurd (untrue h)
lone_is (cell v a) h = absurd (untrue h)
lone_is (truth b) h = absurd (untrue h)
lone_is (is_nil v) h = absurd (untrue h)
lone_is (only s t) h = absurd (made_not_lone (eqb (sign_number s) (sign_number Minus)) h)
lone_is (pair s l r) h = absurd (given_not_lone (operator_of s) h)

-- The other side, or NIL, behind an operator.
right_ok : (text : List ℕ) (d : ℕ) (inner : Inner) → Good text d inner → (want v : Want) (at : ℕ) (l : Shape × ℕ) → Found text d v at l → (o : Operator × Sign × ℕ) → Taken text want l.0 l.1 o → (n : Option ℕ) → nil_behind text l.0 o.1 o.2 ≡ n → (r : Shape × ℕ) → right_side text inner o n ≡ Ok r → Inside text (suc d) want at r
right_ok text d inner good want v at l f o op None is r h =
    let j = then_ok (inner (sides_of o.0) o.2) (λ r. closed_as text (given_by o.0) r.1) r h in
    let g = good (sides_of o.0) o.2 j.0 j.1 in
    let c = closed_came text (given_by o.0) j.0.1 r j.2 in
    let both = and_parts (serves (sides_of o.0) l.0) (serves want (given_by o.0)) op.taken in
    let shape_is : shape_of (pair o.1 f.0 g.0) ≡ given_by o.0 = ap given_in op.known in
    let rest = words_of g.0 ++ (sign Close ∷ []) in
    record {
      tree = pair o.1 f.0 g.0;
      body = words_of f.0 ++ (sign o.1 ∷ rest);
      is = refl;
      stands =
          stands_append text at l.1 r.1 (words_of f.0) (sign o.1 ∷ rest) f.2.stands
          (stands_append text l.1 o.2 r.1 (sign o.1 ∷ []) rest op.stands
          (stands_append text o.2 j.0.1 r.1 (words_of g.0) (sign Close ∷ []) g.2.stands c.1));
      shape_is = shape_is ∙ c.0;
      sound = (o.0, op.known, ap (serves (sides_of o.0)) f.1 ∙ both.0, g.2.served, f.2.sound, g.2.sound);
      shallow = let k = f.2.shallow in let m = g.2.shallow in omega arith;
      served = ap (serves want) shape_is ∙ both.1;
      ends = tt;
    }
right_ok text d inner good want v at l f o op (Some e) is r h =
    let n = nil_ok text l.0 o.1 o.2 e is in
    let x = lone_is f.0 (ap is_lone f.1 ∙ n.0) in
    let c = closed_came text shape.Truth e r h in
    let both = and_parts (serves (sides_of o.0) l.0) (serves want (given_by o.0)) op.taken in
    let some : ◌≡◌ {A = Option Operator} (Some Compares) (Some o.0) = sym (ap operator_of n.1) ∙ op.known in
    let compares : Compares ≡ o.0 = cc in
    record {
      tree = is_nil x.0;
      body = name x.0 ∷ sign Equal ∷ keyword Nil ∷ sign Close ∷ [];
      is = refl;
      stands =
          stands_append text at l.1 r.1 (name x.0 ∷ []) (sign Equal ∷ keyword Nil ∷ sign Close ∷ []) (subst (λ t. Stands text at (words_of t) l.1) x.1 f.2.stands)
          (stands_append text l.1 o.2 r.1 (sign Equal ∷ []) (keyword Nil ∷ sign Close ∷ []) (subst (λ s. Stands text l.1 (sign s ∷ []) o.2) n.1 op.stands)
          (stands_append text o.2 e r.1 (keyword Nil ∷ []) (sign Close ∷ []) n.2 c.1));
      shape_is = c.0;
      sound = tt;
      shallow = omega arith;
      served = ap (λ k. serves want (given_by k)) compares ∙ both.1;
      ends = tt;
    }

binary_ok : (text : List ℕ) (d : ℕ) (inner : Inner) → Good text d inner → (want : Want) (at : ℕ) (r : Shape × ℕ) → binary text inner want at ≡ Ok r → Inside text (suc d) want at r
binary_ok text d inner good want at r h =
    let i = then_ok (inner (left_side want) at) (λ l. and_then (operator_at text want l.0 l.1) (λ o. right_side text inner o (nil_behind text l.0 o.1 o.2))) r h in
    let l = i.0 in
    let j = then_ok (operator_at text want l.0 l.1) (λ o. right_side text inner o (nil_behind text l.0 o.1 o.2)) r i.2 in
    right_ok text d inner good want (left_side want) at l (good (left_side want) at l i.1) j.0
    (operator_ok text want l.0 l.1 j.0 j.1)
    (nil_behind text l.0 j.0.1 j.0.2) refl r j.2

sign_stands : (text : List ℕ) (at : ℕ) (p : Pulled) (s : Sign) → Came text at p → is_sign s p.word ≡ true → Stands text at (sign s ∷ []) p.end
sign_stands text at p s c h = subst (λ w. Stands text at (w ∷ []) p.end) (sign_is s c.token (sym (ap (is_sign s) c.is) ∙ h)) c.stands

opened_ok : (text : List ℕ) (d : ℕ) (inner : Inner) → Good text d inner → (want : Want) (at : ℕ) (r : Shape × ℕ) → opened text inner want at ≡ Ok r → Inside text (suc d) want at r
opened_ok text d inner good want at r h =
    let i = then_ok (pulled text at) (λ p. cond (is_sign Minus p.word) (unary text inner want Minus p.place p.end) (cond (is_sign Not p.word) (unary text inner want Not p.place p.end) (binary text inner want at))) r h in
    minus i.0 (came text at i.0 i.1) (is_sign Minus i.0.word) refl i.2
  where
    not : (p : Pulled) → Came text at p → (b : Bool) → is_sign Not p.word ≡ b → cond b (unary text inner want Not p.place p.end) (binary text inner want at) ≡ Ok r → Inside text (suc d) want at r
    not p c true same h = unary_ok text d inner good want Not (inr refl) at p.place p.end (sign_stands text at p Not c same) r h
    not p c false same h = binary_ok text d inner good want at r h

    minus : (p : Pulled) → Came text at p → (b : Bool) → is_sign Minus p.word ≡ b → cond b (unary text inner want Minus p.place p.end) (cond (is_sign Not p.word) (unary text inner want Not p.place p.end) (binary text inner want at)) ≡ Ok r → Inside text (suc d) want at r
    minus p c true same h = unary_ok text d inner good want Minus (inl refl) at p.place p.end (sign_stands text at p Minus c same) r h
    minus p c false same h = not p c (is_sign Not p.word) refl h

-- What stands behind a name.
pub record Tail (text x : List ℕ) (at : ℕ) (r : Shape × ℕ) : Type 0 where
  pub tree : Tree
  pub more : List Token
  pub is : words_of tree ≡ name x ∷ more
  pub stands : Stands text at more r.1
  pub shape_is : shape_of tree ≡ r.0
  pub value : (want : Want) → serves want shape.Name ≡ true → serves want (shape_of tree) ≡ true
  pub sound : Sound tree
  pub flat : depth_of tree ≤ 0
  pub ends : Ends text tree r.1

as_value : (want : Want) → serves want shape.Name ≡ true → serves want shape.Value ≡ true
as_value want.Value h = h
as_value want.Truth h = h
as_value want.Either h = h

dot_ok : (text x : List ℕ) (at m : ℕ) → Stands text at (sign Dot ∷ []) m → (r : Shape × ℕ) → and_then (keyword_at text Head m) (λ e. Ok (shape.Value, e)) ≡ Ok r → Tail text x at r
dot_ok text x at m st r h =
    let i = then_ok (keyword_at text Head m) (λ e. Ok (shape.Value, e)) r h in
    let both : ◌≡◌ {A = Shape × ℕ} (shape.Value, i.0) r = let k = i.2 in cc in
    let c = keyword_came text Head m r.1 (i.1 ∙ ap (λ q. Ok q.1) both) in
    record {
      tree = head x;
      more = sign Dot ∷ keyword Head ∷ [];
      is = refl;
      stands = stands_append text at m r.1 (sign Dot ∷ []) (keyword Head ∷ []) st c;
      shape_is = ap (λ q. q.0) both;
      value = as_value;
      sound = tt;
      flat = omega arith;
      ends = tt;
    }

cell_ok : (text x : List ℕ) (at m : ℕ) → Stands text at (sign Open ∷ []) m → (r : Shape × ℕ) → and_then (name_at text m) (closed_as text shape.Value) ≡ Ok r → Tail text x at r
cell_ok text x at m st r h =
    let i = then_ok (name_at text m) (closed_as text shape.Value) r h in
    let n = name_came text m i.0 i.1 in
    let c = closed_came text shape.Value i.0 r i.2 in
    record {
      tree = cell x n.0;
      more = sign Open ∷ name n.0 ∷ sign Close ∷ [];
      is = refl;
      stands = stands_append text at m r.1 (sign Open ∷ []) (name n.0 ∷ sign Close ∷ []) st (stands_append text m i.0 r.1 (name n.0 ∷ []) (sign Close ∷ []) n.1 c.1);
      shape_is = c.0;
      value = as_value;
      sound = tt;
      flat = omega arith;
      ends = tt;
    }

lone_ok : (text x : List ℕ) (at : ℕ) → goes_by (pulled text at) ≡ false → (r : Shape × ℕ) → ◌≡◌ {A = Read} (Ok (shape.Name, at)) (Ok r) → Tail text x at r
lone_ok text x at free r h =
    let both : ◌≡◌ {A = Shape × ℕ} (shape.Name, at) r = cc in
    record {
      tree = lone x;
      more = [];
      is = refl;
      stands = ap (λ q. q.1) both;
      shape_is = ap (λ q. q.0) both;
      value = λ want h. h;
      sound = tt;
      flat = omega arith;
      ends = ap (λ q. goes_on (next_token text q.1)) (sym both) ∙ goes_on_lem text at ∙ free;
    }

tail_ok : (text x : List ℕ) (at : ℕ) (q : Result Pulled Fault) → pulled text at ≡ q → (r : Shape × ℕ) → tail_of text at q ≡ Ok r → Tail text x at r
tail_ok text x at (Err f) is r h = lone_ok text x at (ap goes_by is) r h
tail_ok text x at (Ok p) is r h = dot (is_sign Dot p.word) refl h
  where
    open_ok : is_sign Dot p.word ≡ false → (b : Bool) → is_sign Open p.word ≡ b → cond b (and_then (name_at text p.end) (closed_as text shape.Value)) (Ok (shape.Name, at)) ≡ Ok r → Tail text x at r
    open_ok before true same h = cell_ok text x at p.end (sign_stands text at p Open (came text at p is) same) r h
    open_ok before false same h = lone_ok text x at (ap goes_by is ∙ or_from (is_sign Dot p.word) (is_sign Open p.word) before same) r h

    dot : (b : Bool) → is_sign Dot p.word ≡ b → cond b (and_then (keyword_at text Head p.end) (λ e. Ok (shape.Value, e))) (cond (is_sign Open p.word) (and_then (name_at text p.end) (closed_as text shape.Value)) (Ok (shape.Name, at))) ≡ Ok r → Tail text x at r
    dot true same h = dot_ok text x at p.end (sign_stands text at p Dot (came text at p is) same) r h
    dot false same h = open_ok same (is_sign Open p.word) refl h

abbrev Opens : List ℕ → ℕ → (Want → Pulled → Read) → Type 0
Opens text d op = (want : Want) (p : Pulled) (r : Shape × ℕ) → op want p ≡ Ok r → Inside text d want p.end r

begins_ok : (text : List ℕ) (d : ℕ) (op : Want → Pulled → Read) → Opens text d op → (want : Want) (at : ℕ) (p : Pulled) (w : Token) → Stands text at (w ∷ []) p.end → (r : Shape × ℕ) → begins text op want p (word_in w) ≡ Ok r → Found text d want at r
begins_ok text d op opens want at p (name x) st r h =
    let i = cond_ok (serves want shape.Name) (tail_of text p.end (pulled text p.end)) (NotAllowed p.place) r h in
    let t = tail_ok text x p.end (pulled text p.end) refl r i.1 in (
      t.tree,
      t.shape_is,
      record {
        stands = subst (λ ws. Stands text at ws r.1) (sym t.is) (stands_append text at p.end r.1 (name x ∷ []) t.more st t.stands);
        sound = t.sound;
        shallow = let k = t.flat in omega arith;
        served = t.value want i.0;
      },
      t.ends,
    )
begins_ok text d op opens want at p (number n) st r h =
    let i = cond_ok (serves want shape.Value) (Ok (shape.Value, p.end)) (NotAllowed p.place) r h in
    let both : ◌≡◌ {A = Shape × ℕ} (shape.Value, p.end) r = let k = i.1 in cc in
    (literal n, ap (λ q. q.0) both, record { stands = subst (λ q. Stands text at (number n ∷ []) q.1) both st; sound = tt; shallow = omega arith; served = i.0 }, tt)
begins_ok text d op opens want at p (keyword k) st r h =
    let i = cond_ok (serves want shape.Truth && (is_keyword True (word.Keyword k) || is_keyword False (word.Keyword k))) (Ok (shape.Truth, p.end)) (NotAllowed p.place) r h in
    let b = and_parts (serves want shape.Truth) (is_keyword True (word.Keyword k) || is_keyword False (word.Keyword k)) i.0 in
    let both : ◌≡◌ {A = Shape × ℕ} (shape.Truth, p.end) r = let k = i.1 in cc in
    let v = which (is_keyword True (word.Keyword k)) refl b.1 in
    let st' : Stands text at (keyword k ∷ []) r.1 = subst (λ q. Stands text at (keyword k ∷ []) q.1) both st in
    (truth v.0, ap (λ q. q.0) both, record { stands = subst (λ w. Stands text at (keyword w ∷ []) r.1) v.1 st'; sound = tt; shallow = omega arith; served = b.0 }, tt)
  where
    which : (x : Bool) → is_keyword True (word.Keyword k) ≡ x → (x || is_keyword False (word.Keyword k)) ≡ true → (y : Bool) × (k ≡ cond y True False)
    which true same h = (true, keyword_same k True same)
    which false same h = (false, keyword_same k False h)
begins_ok text d op opens want at p (sign s) st r h =
    let i = cond_ok (is_sign Open (word.Sign s)) (op want p) (NotAllowed p.place) r h in
    let b = opens want p r i.1 in
    let st' : Stands text at (sign Open ∷ []) p.end = subst (λ g. Stands text at (sign g ∷ []) p.end) (sign_same s Open i.0) st in (
      b.tree,
      b.shape_is,
      record {
        stands = subst (λ ws. Stands text at ws r.1) (sym b.is) (stands_append text at p.end r.1 (sign Open ∷ []) b.body st' b.stands);
        sound = b.sound;
        shallow = b.shallow;
        served = b.served;
      },
      b.ends,
    )

term_ok : (text : List ℕ) (d : ℕ) (op : Want → Pulled → Read) → Opens text d op → (want : Want) (at : ℕ) (r : Shape × ℕ) → and_then (pulled text at) (λ p. begins text op want p p.word) ≡ Ok r → Found text d want at r
term_ok text d op opens want at r h =
    let i = then_ok (pulled text at) (λ p. begins text op want p p.word) r h in
    let c = came text at i.0 i.1 in
    begins_ok text d op opens want at i.0 c.token c.stands r (sym (ap (begins text op want i.0) c.is) ∙ i.2)

opening_ok : (text : List ℕ) (d : ℕ) → Opens text d (opening text d)
unfolding opening
opening_ok text zero want p r h = absurd (never h)
opening_ok text (suc d) want p r h =
    opened_ok text d (λ w at. and_then (pulled text at) (λ q. begins text (opening text d) w q q.word))
    (term_ok text d (opening text d) (opening_ok text d))
    want p.end r h

pub found_term : (text : List ℕ) (d : ℕ) (want : Want) (at : ℕ) (r : Shape × ℕ) → term_at text d want at ≡ Ok r → Found text d want at r
found_term text d want at r h = term_ok text d (opening text d) (opening_ok text d) want at r h

pub accepts : Accepts
accepts text d want at sh end h = found_term text d want at (sh, end) h
