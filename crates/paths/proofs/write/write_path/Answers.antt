use Rattle.std.proofs.Common.{◌≡◌, ◌+◌, [], ◌∷◌, ◌++◌, map, length, get_or, take, string_bytes, sym, ap, ◌∙◌, arith}
use Rattle.std.proofs.lemmas.List.{map_more, take_all, length-map, length-take-le}
use Rattle.paths.specs.declared.mark.Mark.TheVariants.{T}
use Rattle.paths.specs.Marks.{mark_of}
use Rattle.paths.specs.Spelling.{spell, spelled}
use Rattle.paths.proofs.Laws.{spelled_first, spelled_push, spelled_same}
use Rattle.paths.proofs.write.write_path.Goals as goal
use Rattle.paths.proofs.write.write_path.Goals.{then-i-gt0+in_ok-push, else-i-gt0}

pub loop-i-preserved : goal.loop-i-preserved
unfolding lib.Utf8.encode
loop-i-preserved c =
    let marks = c.args.marks.now in
    let i = c.loop-i.i in
    let ms = map mark_of (take i marks) in
    let m = mark_of (get_or marks i T) in
    let count : length ms ≡ i = length-map (take i marks) mark_of ∙ length-take-le i marks (omega arith) in
    let more : map mark_of (take (i + 1) marks) ≡ ms ++ (m ∷ []) = map_more mark_of marks i T c.loop-i-test.true in
    let front : string_bytes c.if-i-gt0.text ++ spell m ≡ spelled (ms ++ (m ∷ [])) = elim c.if-i-gt0.branch [
      | then-i-gt0+in_ok-push w ↦
          ap (λ t. string_bytes t ++ spell m) w.text-is ∙ ap (λ l. l ++ spell m) (w.in_ok-push.ensures.bytes ∙ ap (λ l. l ++ (32 ∷ [])) c.loop-i.invariant) ∙ sym (spelled_push ms m (omega (arith, w.if-i-gt0.true)))
      | else-i-gt0 w ↦ ap (λ t. string_bytes t ++ spell m) w.text-is ∙ ap (λ l. l ++ spell m) c.loop-i.invariant ∙ sym (spelled_first ms m (omega (arith, w.if-i-gt0.false)))
    ] in
    c.in_ok-write.ensures.bytes ∙ front ∙ ap spelled (sym more)

pub returns-in_err-push-clause-only : goal.returns-in_err-push-clause-only
returns-in_err-push-clause-only c = λ ms. spelled_same ms _

pub returns-in_err-write-clause-only : goal.returns-in_err-write-clause-only
returns-in_err-write-clause-only c = λ ms. spelled_same ms _

pub returns : goal.returns
returns c =
    let marks = c.args.marks.now in
    record { text = c.loop-i.invariant ∙ ap (λ l. spelled (map mark_of l)) (take_all c.loop-i.i marks c.loop-i-test.false); only = λ ms. spelled_same ms _ }
