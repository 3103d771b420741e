-- The pointers of heads and cells, read and written.
use Rattle.std.proofs.Common.{◌≡◌, ℕ, ◌+◌, ◌-◌, ◌<◌, List, ◌++◌, map, length, get_or, set, sym, refl, ap, ◌∙◌, arith}
use Rattle.std.proofs.lemmas.List.{get_or-map, map-set, set-get_or, get_or-append_right, set-append_right, length-append, length-map}
use Rattle.chain.specs.declared.cells.Cell.{Cell}
use Rattle.chain.specs.Lists.{slot_of, pointers}
use Rattle.chain.proofs.Links.{slot_node}

module _ {X : Type 0} (cells : List (Cell X)) where
  pub next_read_lem : (i : ℕ) (d : Cell X) → i < length cells → (get_or cells i d).next ≡ get_or (map (λ c. c.next) cells) i 0
  next_read_lem i d h = sym (get_or-map (λ c. c.next) cells i d 0 h)

  pub values_kept : (i t : ℕ) (d : Cell X) → i < length cells → map (λ c. c.value) (set cells i (record { next = t; value = (get_or cells i d).value })) ≡ map (λ c. c.value) cells
  values_kept i t d h =
      map-set (λ (c : Cell X). c.value) cells i (record { next = t; value = (get_or cells i d).value })
      ∙ ap (set (map (λ c. c.value) cells) i) (sym (get_or-map (λ c. c.value) cells i d d.value h))
      ∙ set-get_or (map (λ c. c.value) cells) i d.value

  pub nexts_kept : (i : ℕ) (v : X) (d : Cell X) → i < length cells → map (λ c. c.next) (set cells i (record { next = (get_or cells i d).next; value = v })) ≡ map (λ c. c.next) cells
  nexts_kept i v d h =
      map-set (λ (c : Cell X). c.next) cells i (record { next = (get_or cells i d).next; value = v })
      ∙ ap (set (map (λ c. c.next) cells) i) (sym (get_or-map (λ c. c.next) cells i d d.next h))
      ∙ set-get_or (map (λ c. c.next) cells) i d.next

  pub length_pointers : (heads : List ℕ) → length (pointers heads cells) ≡ length heads + length cells
  length_pointers heads = length-append heads (map (λ c. c.next) cells) ∙ ap (λ m. length heads + m) (length-map cells (λ c. c.next))

module _ (heads nexts : List ℕ) (c node : ℕ) where
  pub read_node : 0 < node → get_or nexts (node - 1) 0 ≡ get_or (heads ++ nexts) (slot_of (length heads) c node) 0
  read_node h = sym (ap (λ s. get_or (heads ++ nexts) s 0) (slot_node (length heads) c node h) ∙ get_or-append_right heads nexts (length heads) (length heads + (node - 1)) 0 refl (omega arith) ∙ ap (λ i. get_or nexts i 0) (omega arith))

  pub write_node : (t : ℕ) → 0 < node → heads ++ set nexts (node - 1) t ≡ set (heads ++ nexts) (slot_of (length heads) c node) t
  write_node t h = sym (ap (λ s. set (heads ++ nexts) s t) (slot_node (length heads) c node h) ∙ set-append_right heads nexts (length heads) (length heads + (node - 1)) t refl (omega arith) ∙ ap (λ i. heads ++ set nexts i t) (omega arith))
