use Rattle.std.proofs.Common.{[], length, Ok, vec_items, sym, ap, ◌∙◌, subst, arith}
use Rattle.std.proofs.lemmas.List.{nil_from_length}
use Rattle.std.proofs.lemmas.Bool.{eqb-true, eqb-false}
use Rattle.paths.specs.Spelling.{line_of}
use Rattle.paths.specs.Answers.{LineAnswers, marks_read}
use Rattle.paths.proofs.Laws.{line_part, read_back, read_again}
use Rattle.paths.proofs.read.read_path.Goals as goal

pub returns-then-is_empty : goal.returns-then-is_empty
returns-then-is_empty c =
    let text = c.args.text.now in
    let part = line_part text c.line_length.result c.line_length.ensures.value in
    let none = nil_from_length (line_of text) (ap length (sym part) ∙ eqb-true _ 0 (sym c.if-is_empty.ensures)) in
    let told : LineAnswers (line_of text) (Ok (vec_items c.new.result)) = ([], (omega arith, none), c.new.ensures.items) in
    record { answer = told; back = read_back text (Ok (vec_items c.new.result)) told; again = read_again text (Ok (vec_items c.new.result)) told }

pub read_line-requires : goal.read_line-requires
read_line-requires c = let some = eqb-false _ 0 (sym c.if-is_empty.ensures) in omega arith

pub returns : goal.returns
returns c =
    let text = c.args.text.now in
    let part = line_part text c.line_length.result c.line_length.ensures.value in
    let told = subst (λ l. LineAnswers l (marks_read c.read_line.result)) part c.read_line.ensures in
    record { answer = told; back = read_back text (marks_read c.read_line.result) told; again = read_again text (marks_read c.read_line.result) told }
