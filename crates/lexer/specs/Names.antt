-- Names as places in a text.
use Rattle.std.specs.Prelude.{ℕ, ◌-◌, List, take, drop}
use Rattle.lexer.specs.declared.name.Name.{Name}

-- The bytes of a name: those of the text from its place up to its end.
abbrev pub spelled : List ℕ → Name → List ℕ
spelled text n = take (n.end - n.place) (drop n.place text)
