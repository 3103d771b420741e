use Rattle.std.proofs.Common.{◌≡◌, vec_items}
use Rattle.std.specs.Slice.Iter.{chunks_rest, chunks_size}
use Rattle.drafts.specs.Hex.{bytes_of}
use Rattle.drafts.proofs.Pairs.{onto}
use Rattle.drafts.proofs.hex.hex_bytes.Given as goal

abbrev pub invariant-loop-pair : goal.invariant-loop-pair
invariant-loop-pair l =
    (chunks_size l.pair-iterator ≡ 2) ×
    (bytes_of l.text ≡ onto (vec_items l.bytes) (bytes_of (chunks_rest l.pair-iterator)))
