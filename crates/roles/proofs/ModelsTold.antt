-- The words of a model have the roles that its tree gives.
use Rattle.std.proofs.Common.{◌≡◌, true, false, List, [], ◌∷◌, ◌++◌, map, sym, refl, ap, ◌∙◌, subst, append_assoc}
use Rattle.lexer.specs.declared.keywords.Keyword.TheVariants as kw
use Rattle.lexer.specs.declared.signs.Sign.TheVariants.{Close, Semicolon, Equal}
use Rattle.terms.specs.declared.pull.Word.TheVariants as word
use Rattle.terms.specs.Trees.{Token, name, number, keyword, sign, Tree, literal, lone, head, cell, truth, is_nil, only, pair, words_of}
use Rattle.terms.proofs.Steps.{untrue, word_in}
use Rattle.syntax.specs.Tables.{is_order}
use Rattle.syntax.specs.Trees.{Reference, Check, Table, Act, next, insert, update, delete, Simple, assign, clear, tail, select, caught, read, load, act, commit, rollback, Block, none, simple, branch, loop, Model, names_words, values_words, references_words, checks_words, key_words, table_words, tables_words, act_words, simple_words, block_words, model_words, ActFits, SimpleFits, BlockFits, ChecksFit, TablesFit, WellFormed}
use Rattle.roles.specs.declared.mode.Mode.{Mode}
use Rattle.roles.specs.declared.mode.Mode.TheVariants as mode
use Rattle.roles.specs.declared.role.Role.TheVariants.{Plain, Title, Declared, Variable, Attribute}
use Rattle.roles.specs.declared.role.Role.TheVariants as role
use Rattle.roles.specs.declared.role.Declared.TheVariants as declared
use Rattle.roles.specs.declared.role.Use.TheVariants as use_of
use Rattle.roles.specs.declared.role.Access.TheVariants as access
use Rattle.roles.specs.declared.role.Column.TheVariants as column
use Rattle.roles.specs.Roles.{target_use}
use Rattle.roles.specs.Trees.{tree_roles, names_roles, values_roles, references_roles, checks_roles, key_roles, table_roles, tables_roles, act_roles, simple_roles, block_roles, model_roles}
use Rattle.roles.proofs.TermsTold.{roles_in, seq, Quiet, no_semicolon, kept, tree_told, fields_told, picks_told, values_quiet, values_told}

-- What CATCH may wrap: its keywords tell its names, whatever would have come before.
pub act_told : (a : Act) → ActFits a → (m : Mode) (rest : List Token) → Quiet rest → roles_in m (act_words a ++ rest) ≡ act_roles a ++ roles_in mode.Term rest
act_told (next v) s m rest q = refl
act_told (insert t e es) s m rest q =
    ap (λ z. Plain ∷ Plain ∷ role.Table access.Insert ∷ Plain ∷ Plain ∷ z) (seq mode.Term mode.Term (words_of e) (values_words es ++ (sign Close ∷ [])) rest (tree_roles e) (values_roles es ++ (Plain ∷ [])) (roles_in mode.Term rest)
    (tree_told e s.0.0 ((values_words es ++ (sign Close ∷ [])) ++ rest) (subst Quiet (sym (append_assoc (values_words es) (sign Close ∷ []) rest)) (values_quiet es (sign Close ∷ rest) (record { alone = refl; closed = refl }))))
    (seq mode.Term mode.Term (values_words es) (sign Close ∷ []) rest (values_roles es) (Plain ∷ []) (roles_in mode.Term rest)
    (values_told es s.1 (sign Close ∷ rest) (record { alone = refl; closed = refl }))
    refl))
act_told (update t a e c) s m rest q =
    ap (λ z. Plain ∷ role.Table access.Update ∷ Plain ∷ Attribute column.Set ∷ Plain ∷ z) (seq mode.Term mode.Term (words_of e) (keyword kw.Where ∷ words_of c) rest (tree_roles e) (Plain ∷ tree_roles c) (roles_in mode.Term rest)
    (tree_told e s.0.0 (keyword kw.Where ∷ words_of c ++ rest) (record { alone = refl; closed = refl }))
    (ap (λ z. Plain ∷ z) (tree_told c s.1.0 rest q)))
act_told (delete t c) s m rest q = ap (λ z. Plain ∷ Plain ∷ role.Table access.From ∷ Plain ∷ z) (tree_told c s.0 rest q)

-- An expression behind v = is none of what else may stand there.
assigned : (t : Tree) (rest : List Token) → target_use (word.Sign Equal ∷ map word_in (words_of t ++ (sign Semicolon ∷ rest))) ≡ use_of.Assign
assigned (literal n) rest = refl
assigned (lone v) rest = refl
assigned (head v) rest = refl
assigned (cell v a) rest = refl
assigned (truth true) rest = refl
assigned (truth false) rest = refl
assigned (is_nil v) rest = refl
assigned (only s t) rest = refl
assigned (pair s l r) rest = refl

-- Statements that hold no block, with their semicolons.
simple_told : (x : Simple) → SimpleFits x → (rest : List Token) → roles_in mode.Target (simple_words x ++ (sign Semicolon ∷ rest)) ≡ simple_roles x ++ (Plain ∷ roles_in mode.Target rest)
simple_told (assign v e) s rest =
    ap (λ u. Variable u ∷ Plain ∷ roles_in mode.Term (words_of e ++ (sign Semicolon ∷ rest))) (assigned e rest)
    ∙ ap (λ z. Variable use_of.Assign ∷ Plain ∷ z) (tree_told e s.0 (sign Semicolon ∷ rest) (record { alone = refl; closed = refl }))
simple_told (clear v) s rest = refl
simple_told (tail v w) s rest = refl
simple_told (select v a ns t c) s rest =
    ap (λ z. Variable use_of.Select ∷ Plain ∷ Plain ∷ Attribute column.Pick ∷ z) (seq mode.Pick mode.Pick (names_words ns) (keyword kw.From ∷ name t ∷ keyword kw.Where ∷ words_of c) (sign Semicolon ∷ rest) (names_roles (Attribute column.Pick) ns) (Plain ∷ role.Table access.From ∷ Plain ∷ tree_roles c) (Plain ∷ roles_in mode.Target rest)
    (picks_told ns _)
    (ap (λ z. Plain ∷ role.Table access.From ∷ Plain ∷ z) (tree_told c s.0 (sign Semicolon ∷ rest) (record { alone = refl; closed = refl }))))
simple_told (caught v a) s rest =
    ap (λ z. Variable use_of.Catch ∷ Plain ∷ Plain ∷ Plain ∷ z) (seq mode.Term mode.Term (act_words a) (sign Close ∷ []) (sign Semicolon ∷ rest) (act_roles a) (Plain ∷ []) (Plain ∷ roles_in mode.Target rest)
    (act_told a s mode.Term (sign Close ∷ sign Semicolon ∷ rest) (record { alone = refl; closed = refl }))
    refl)
simple_told (read v) s rest = refl
simple_told (load v) s rest = refl
simple_told (act a) s rest = act_told a s mode.Target (sign Semicolon ∷ rest) (record { alone = refl; closed = refl })
simple_told commit s rest = refl
simple_told rollback s rest = refl

block_told : (b : Block) → BlockFits b → (rest : List Token) → roles_in mode.Target (block_words b ++ rest) ≡ block_roles b ++ roles_in mode.Target rest
block_told none s rest = refl
block_told (simple x b) s rest =
    ap (roles_in mode.Target) (append_assoc (simple_words x) (sign Semicolon ∷ block_words b) rest)
    ∙ simple_told x s.0 (block_words b ++ rest)
    ∙ ap (λ z. simple_roles x ++ (Plain ∷ z)) (block_told b s.1 rest)
    ∙ sym (append_assoc (simple_roles x) (Plain ∷ block_roles b) (roles_in mode.Target rest))
block_told (branch c x y b) s rest =
    ap (λ z. Plain ∷ z) (seq mode.Term mode.Term (words_of c) (keyword kw.Then ∷ block_words x ++ (keyword kw.Else ∷ block_words y ++ (keyword kw.EndIf ∷ sign Semicolon ∷ block_words b))) rest (tree_roles c) (Plain ∷ block_roles x ++ (Plain ∷ block_roles y ++ (Plain ∷ Plain ∷ block_roles b))) (roles_in mode.Target rest)
    (tree_told c s.0.0 _ (record { alone = refl; closed = refl }))
    (ap (λ z. Plain ∷ z) (seq mode.Target mode.Target (block_words x) (keyword kw.Else ∷ block_words y ++ (keyword kw.EndIf ∷ sign Semicolon ∷ block_words b)) rest (block_roles x) (Plain ∷ block_roles y ++ (Plain ∷ Plain ∷ block_roles b)) (roles_in mode.Target rest)
    (block_told x s.1 _)
    (ap (λ z. Plain ∷ z) (seq mode.Target mode.Target (block_words y) (keyword kw.EndIf ∷ sign Semicolon ∷ block_words b) rest (block_roles y) (Plain ∷ Plain ∷ block_roles b) (roles_in mode.Target rest)
    (block_told y s.2 _)
    (ap (λ z. Plain ∷ Plain ∷ z) (block_told b s.3 rest)))))))
block_told (loop c x b) s rest =
    ap (λ z. Plain ∷ z) (seq mode.Term mode.Term (words_of c) (keyword kw.Do ∷ block_words x ++ (keyword kw.EndWhile ∷ sign Semicolon ∷ block_words b)) rest (tree_roles c) (Plain ∷ block_roles x ++ (Plain ∷ Plain ∷ block_roles b)) (roles_in mode.Target rest)
    (tree_told c s.0.0 _ (record { alone = refl; closed = refl }))
    (ap (λ z. Plain ∷ z) (seq mode.Target mode.Target (block_words x) (keyword kw.EndWhile ∷ sign Semicolon ∷ block_words b) rest (block_roles x) (Plain ∷ Plain ∷ block_roles b) (roles_in mode.Target rest)
    (block_told x s.1 _)
    (ap (λ z. Plain ∷ Plain ∷ z) (block_told b s.2 rest)))))

-- Tables.
references_told : (rs : List Reference) (rest : List Token) → roles_in mode.Check (references_words rs ++ rest) ≡ references_roles rs ++ roles_in mode.Check rest
references_told [] rest = refl
references_told (r ∷ rs) rest = ap (λ z. Plain ∷ Plain ∷ Plain ∷ Plain ∷ Declared declared.Foreign ∷ Plain ∷ Plain ∷ Declared declared.References ∷ z) (references_told rs rest)

checks_told : (cs : List Check) → ChecksFit cs → (rest : List Token) → roles_in mode.Check (checks_words cs ++ rest) ≡ checks_roles cs ++ roles_in mode.Check rest
checks_told [] s rest = refl
checks_told (c ∷ cs) s rest =
    ap (λ z. Plain ∷ Declared declared.Check ∷ z) (kept mode.Check c.order (number c.bound ∷ checks_words cs ++ rest) _ (no_semicolon c.order (λ k. is_order (word.Sign k) ≡ true) s.0 untrue) (ap (λ z. Plain ∷ z) (checks_told cs s.1 rest)))

table_told : (t : Table) → ChecksFit t.checks → (rest : List Token) → roles_in mode.Target (table_words t ++ rest) ≡ table_roles t ++ roles_in mode.Target rest
table_told t s rest =
    ap (λ z. Plain ∷ Declared declared.Table ∷ Plain ∷ Declared declared.Field ∷ z) (seq mode.Field mode.Field (names_words t.others) (key_words t) rest (names_roles (Declared declared.Field) t.others) (key_roles t) (roles_in mode.Target rest)
    (fields_told t.others _)
    (ap (λ z. Plain ∷ Plain ∷ Plain ∷ Plain ∷ Declared declared.Key ∷ Plain ∷ z) (seq mode.Check mode.Check (references_words t.references) (checks_words t.checks ++ (sign Close ∷ sign Semicolon ∷ [])) rest (references_roles t.references) (checks_roles t.checks ++ (Plain ∷ Plain ∷ [])) (roles_in mode.Target rest)
    (references_told t.references _)
    (seq mode.Check mode.Check (checks_words t.checks) (sign Close ∷ sign Semicolon ∷ []) rest (checks_roles t.checks) (Plain ∷ Plain ∷ []) (roles_in mode.Target rest)
    (checks_told t.checks s _)
    refl))))

tables_told : (ts : List Table) → TablesFit ts → (rest : List Token) → roles_in mode.Target (tables_words ts ++ rest) ≡ tables_roles ts ++ roles_in mode.Target rest
tables_told [] s rest = refl
tables_told (t ∷ ts) s rest =
    seq mode.Target mode.Target (table_words t) (tables_words ts) rest (table_roles t) (tables_roles ts) (roles_in mode.Target rest)
    (table_told t s.1 _)
    (tables_told ts s.2 rest)

pub model_told : (m : Model) → WellFormed m → roles_in mode.Title (model_words m) ≡ model_roles m
model_told m well =
    ap (λ z. Plain ∷ Title ∷ z) (tables_told m.tables well.tables_fit (block_words m.statements ++ (keyword kw.EndModel ∷ []))
    ∙ ap (λ z. tables_roles m.tables ++ z) (block_told m.statements well.statements_fit (keyword kw.EndModel ∷ [])))
