-- Defines the contract of a closure that parses one piece, and the result of calling it repeatedly.
use Rattle.std.specs.Prelude.{Result, List, ◌∷◌, ◌++◌}
use denote.Ref.{MutBor}
use Rattle.grammar_syntax.specs.declared.cursor.Cursor.{Cursor}
use Rattle.grammar_syntax.specs.declared.fault.StopCause.{StopCause}
use Rattle.grammar_syntax.specs.Kinds.{Kinds}
use Rattle.grammar_syntax.specs.ParserCombinators.{Parser, many, pure, ◌>>=◌}
use Rattle.grammar_syntax.specs.ParsesTo.{ParsesTo}

-- `CallsRead p post` holds if each call of a closure with the postcondition `post` parses as `p` does, or returns
-- `NoMemory`.
abbrev pub CallsRead : {A : Type 0} → Parser A → (MutBor Cursor → Result A StopCause → MutBor Cursor → Type 0) → Type 0
CallsRead {A} p post =
    (old new : MutBor Cursor) (r : Result A StopCause) → post old r new
    → ParsesTo (p old.now.rest.now) r new.now.rest.now

-- `many_onto found ks p` parses by `p` as long as a token of `ks` comes next. Its value is `found`, followed by the
-- parsed values.
abbrev pub many_onto : {A : Type 0} → List A → Kinds → Parser A → Parser (List A)
many_onto found ks p = many ks p >>= (λ more. pure (found ++ more))

-- `many_after first ks p` parses by `p` as long as a token of `ks` comes next. Its value is `first`, followed by the
-- parsed values.
abbrev pub many_after : {A : Type 0} → A → Kinds → Parser A → Parser (List A)
many_after first ks p = many ks p >>= (λ more. pure (first ∷ more))
