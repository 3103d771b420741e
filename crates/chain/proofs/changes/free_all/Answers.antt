use Rattle.std.proofs.Common.{◌≡◌, ℕ, ◌+◌, ◌<◌, ◌≤◌, List, [], map, length, get_or, set, sym, ap, ◌∙◌, arith}
use Rattle.std.proofs.lemmas.List.{get_or-replicate, length-map, length-set, get_or_past, get_or-set_same, get_or-set_other}
use Rattle.std.proofs.lemmas.Bool.{eqb-true, eqb-false}
use Rattle.chain.specs.declared.cells.Cell.{Cell}
use Rattle.chain.specs.Lists.{up_to, Sound, nodes_of, free}
use Rattle.chain.proofs.Elements.{sound_from}
use Rattle.chain.proofs.Fresh.{length_up_to, get_d_up_to, all_free, none_used, free_all}
use Rattle.chain.proofs.changes.free_all.Goals as goal

-- heads that are 0 but for the first, which leads to cells linked in order
made : {X : Type 0} (heads : List ℕ) (cells : List (Cell X)) → 0 < length heads → get_or heads 0 0 ≡ get_or (up_to (length cells)) 0 0 → ((c : ℕ) → 0 < c → c < length heads → get_or heads c 0 ≡ 0)
    → ((k : ℕ) → k < length cells → get_or (map (λ x. x.next) cells) k 0 ≡ get_or (up_to (length cells)) (k + 1) 0)
    → Sound heads cells × ((c : ℕ) → 0 < c → c < length heads → nodes_of heads cells c ≡ []) × (free heads cells ≡ length cells)
made heads cells some first others each =
    let len = length-map cells (λ x. x.next) in
    let first' : get_or heads 0 0 ≡ get_or (up_to (length (map (λ x. x.next) cells))) 0 0 = first ∙ ap (λ m. get_or (up_to m) 0 0) (sym len) in
    let each' : (k : ℕ) → k < length (map (λ x. x.next) cells) → get_or (map (λ x. x.next) cells) k 0 ≡ get_or (up_to (length (map (λ x. x.next) cells))) (k + 1) 0 =
    λ k h. each k (omega (arith, len)) ∙ ap (λ m. get_or (up_to m) (k + 1) 0) (sym len) in (
      sound_from (all_free heads (map (λ x. x.next) cells) some first' others each'),
      none_used heads (map (λ x. x.next) cells) some first' others each',
      free_all heads (map (λ x. x.next) cells) some first' others each' ∙ len,
    )

pub returns-then-not-is_empty : goal.returns-then-not-is_empty
returns-then-not-is_empty g c =
    let some = eqb-false _ 0 (sym c.is_empty.ensures ∙ c.if-not-is_empty.true) in
    let kept = c.fill.ensures.len in
    let zero_at : (i : ℕ) → i < length c.args.heads.now → get_or c.fill.new.self i 0 ≡ 0 = λ i lt. ap (λ t. get_or t i 0) (c.fill.ensures.after (λ _ e. e)) ∙ get_or-replicate (length c.args.heads.now) i 0 0 lt in
    let size = length-set c.fill.new.self 0 1 in
    let all = made (set c.fill.new.self 0 1) c.link_all.new.cells (omega arith)
    (get_or-set_same c.fill.new.self 0 1 0 (omega arith) ∙ sym (get_d_up_to (length c.link_all.new.cells) 0 (omega arith)))
    (λ i lo hi. get_or-set_other c.fill.new.self 0 i 1 0 (omega arith) ∙ zero_at i (omega arith))
    c.link_all.ensures in
    record { sound = all.0; empty = all.1; free = all.2 }

pub returns-else-not-is_empty : goal.returns-else-not-is_empty
returns-else-not-is_empty g c =
    let zero = eqb-true _ 0 (sym c.is_empty.ensures ∙ c.if-not-is_empty.false) in
    let kept = c.fill.ensures.len in
    let zero_at : (i : ℕ) → i < length c.args.heads.now → get_or c.fill.new.self i 0 ≡ 0 = λ i lt. ap (λ t. get_or t i 0) (c.fill.ensures.after (λ _ e. e)) ∙ get_or-replicate (length c.args.heads.now) i 0 0 lt in
    let none : length (up_to (length c.link_all.new.cells)) ≤ 0 = omega (arith, length_up_to (length c.link_all.new.cells)) in
    let all = made c.fill.new.self c.link_all.new.cells (omega arith)
    (zero_at 0 (omega arith) ∙ sym (get_or_past (up_to (length c.link_all.new.cells)) 0 0 none))
    (λ i lo hi. zero_at i (omega arith))
    c.link_all.ensures in
    record { sound = all.0; empty = all.1; free = all.2 }
