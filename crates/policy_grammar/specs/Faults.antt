-- Defines the codes and byte offsets of parsing errors.
-- Rules of this product: the codes, and the offset 0 of `TooLong` and `BadId`.
use Rattle.std.specs.Prelude.{ℕ, Option, Some, None}
use Rattle.grammar_desugaring.specs.grammar_syntax.declared.lex_fault.LexFault.{LexFault}
use Rattle.grammar_desugaring.specs.grammar_syntax.declared.lex_fault.LexFault.TheVariants as lex
use Rattle.grammar_desugaring.specs.declared.fault.DesugarFault.{DesugarFault}
use Rattle.grammar_desugaring.specs.declared.fault.DesugarFault.TheVariants as desugar
use Rattle.policy_grammar.specs.declared.fault.ReadFault.{ReadFault}
use Rattle.policy_grammar.specs.declared.fault.ReadFault.TheVariants.{NoMemory, BadToken, Unexpected, NumberRange}
use Rattle.policy_grammar.specs.declared.fault.ReadFault.TheVariants.{UnknownCall, Arity, RepeatedKey, Slot, TooDeep}
use Rattle.policy_grammar.specs.declared.fault.ReadFault.TheVariants.{TooLong, BadId}

-- `code_of f` is the code of the error `f`.
abbrev pub code_of : ReadFault → ℕ
code_of NoMemory = 1
code_of (BadToken at) = 10
code_of (Unexpected at) = 11
code_of (NumberRange at) = 12
code_of (UnknownCall at) = 13
code_of (Arity at) = 14
code_of (RepeatedKey at) = 15
code_of (Slot at) = 16
code_of (TooDeep at) = 17
code_of TooLong = 18
code_of BadId = 19

-- `place_of f` is the byte offset of the error `f`, if it has one: 0 for `TooLong` and `BadId`.
abbrev pub place_of : ReadFault → Option ℕ
place_of NoMemory = None
place_of (BadToken at) = Some at
place_of (Unexpected at) = Some at
place_of (NumberRange at) = Some at
place_of (UnknownCall at) = Some at
place_of (Arity at) = Some at
place_of (RepeatedKey at) = Some at
place_of (Slot at) = Some at
place_of (TooDeep at) = Some at
place_of TooLong = Some 0
place_of BadId = Some 0

-- `of_lexing f` is the parser's error for the lexer's error `f`.
abbrev pub of_lexing : LexFault → ReadFault
of_lexing lex.NoMemory = NoMemory
of_lexing (lex.BadToken at) = BadToken at

-- `of_desugaring f` is the parser's error for the desugaring error `f`.
abbrev pub of_desugaring : DesugarFault → ReadFault
of_desugaring (desugar.NumberRange at) = NumberRange at
of_desugaring (desugar.UnknownCall at) = UnknownCall at
of_desugaring (desugar.Arity at) = Arity at
of_desugaring (desugar.RepeatedKey at) = RepeatedKey at
