-- Walks over the cells alone, without the heads in front.
use Rattle.std.proofs.Common.{◌≡◌, ℕ, zero, suc, ◌+◌, ◌-◌, ◌<◌, ◌≤◌, List, ◌∷◌, map, length, get_or, Option, Some, None, MatchOption, Bor, sym, refl, ap, ◌∙◌, arith}
use Rattle.std.specs.Slice.{IsItemAt}
use Rattle.std.specs.List.{slice_get}
use Rattle.std.specs.Iterator.{YieldsFirst, YieldsThen}
use Rattle.std.proofs.lemmas.Iterator.Adapters.{option_map_id}
use Rattle.std.proofs.lemmas.Iterator.Consumers.{nth_from_yields_List, YieldsList-from_first}
use Rattle.std.proofs.lemmas.Grind.{common_steps}
use Rattle.std.proofs.lemmas.List.{get_or_append_left, get_or-append_right}
use Rattle.chain.specs.declared.cells.Cell.{Cell}
use Rattle.chain.specs.declared.nodes.Nodes.{Nodes}
use Rattle.chain.specs.Nodes.{nodes_left}
use Rattle.chain.specs.Lists.{walk, nodes, nodes_of, pointers, Sound}
use Rattle.chain.proofs.Links.{walk_is, onward}
use Rattle.chain.proofs.Elements.{strung, is_node, first_node, nodes_few}

-- a step of a walk
pub walk_step : (f node next : ℕ) (ps : List ℕ) → 0 < f → 0 < node → next ≡ get_or ps (node - 1) 0 → walk f 0 ps node ≡ node ∷ walk (f - 1) 0 ps next
walk_step zero node next ps h lt e = absurd (omega arith)
walk_step (suc f) zero next ps h lt e = absurd (omega arith)
walk_step (suc f) (suc i) next ps h lt e =
    let one : suc f - 1 ≡ f = omega arith in
    let at : get_or ps (0 + i) 0 ≡ next = ap (λ j. get_or ps j 0) (omega arith) ∙ sym e in
    ap (λ j. suc i ∷ walk f 0 ps j) at ∙ ap (λ m. suc i ∷ walk m 0 ps next) (sym one)

-- the next of the cell at i, or 0 where there is none
pub next_read : {X : Type 0} (cells : List (Cell X)) (i next : ℕ) (o : Option (Bor (Cell X))) → IsItemAt cells i o → MatchOption o (next ≡ 0) (λ x. next ≡ x.now.next) → next ≡ get_or (map (λ x. x.next) cells) i 0
next_read cells i next None at e = grind (arith, common_steps)
next_read cells i next (Some x) at e = grind (arith, common_steps)

-- the nodes of a sound chain, met over its cells alone
pub walk_nodes : {X : Type 0} (heads : List ℕ) (cells : List (Cell X)) (c : ℕ) → Sound heads cells → c < length heads → walk (length cells) 0 (map (λ x. x.next) cells) (get_or heads c 0) ≡ nodes_of heads cells c
walk_nodes heads cells c s lt =
    walk_is 0 (map (λ x. x.next) cells) (nodes_of heads cells c) (length cells) (get_or heads c 0) (nodes_few heads cells s c lt)
    (sym (get_or_append_left heads (map (λ x. x.next) cells) 0 c lt) ∙ first_node heads cells s c lt)
    (λ q h. let i = is_node heads cells s c q lt h in (
      i.0,
      ap (λ j. get_or (map (λ x. x.next) cells) j 0) (omega arith)
          ∙ sym (get_or-append_right heads (map (λ x. x.next) cells) (length heads) (length heads + (get_or (nodes_of heads cells c) q 0 - 1)) 0 refl (omega arith))
          ∙ onward (length heads) (pointers heads cells) (nodes (length heads) (pointers heads cells)) (strung s) c q lt h
          ∙ ap (λ j. get_or (nodes_of heads cells c) j 0) (omega arith),
    ))

-- the node that comes after p others
pub nth_node : {X : Type 0} (it last : Nodes X) (node : Option ℕ) (p : ℕ) (is : List ℕ) → nodes_left it ≡ is
    → ((xs : List ℕ) × YieldsThen (YieldsFirst nodes_left) it xs node last × MatchOption node (length xs ≤ p) (λ _. length xs ≡ p)) → node ≡ slice_get is p
nth_node it last node p is e ran = sym (option_map_id node) ∙ nth_from_yields_List node last p ran (YieldsList-from_first (λ x. x) nodes_left is e)
