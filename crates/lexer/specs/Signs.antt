-- The signs.
use Rattle.std.specs.Prelude.{ℕ, cond, ◌==◌}
use Rattle.lexer.specs.declared.signs.Sign.{Sign}
use Rattle.lexer.specs.declared.signs.Sign.TheVariants.{Not, Open, Close, Times, Plus, Comma, Minus, Dot, Over, Semicolon, Less, Equal, More, And, Or}

-- The sign that one byte stands for: ! ( ) * + , - . / ; < = >
abbrev pub sign_of : ℕ → Sign
sign_of b =
    cond (b == 33) Not (
    cond (b == 40) Open (
    cond (b == 41) Close (
    cond (b == 42) Times (
    cond (b == 43) Plus (
    cond (b == 44) Comma (
    cond (b == 45) Minus (
    cond (b == 46) Dot (
    cond (b == 47) Over (
    cond (b == 59) Semicolon (
    cond (b == 60) Less (
    cond (b == 61) Equal (
    More))))))))))))

-- The sign that two equal bytes stand for: && ||
abbrev pub twin_of : ℕ → Sign
twin_of b = cond (b == 38) And Or
