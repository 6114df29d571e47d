-- Defines the contract of a parser over tokens: it returns the outcome of its parsing function, or `NoMemory`. A
-- parsing function does not model allocation, so no outcome is `NoMemory`. A parser that does not allocate has a
-- further clause, that it never returns `NoMemory`.
use Rattle.std.specs.Prelude.{◌≡◌, Result, Ok, Err, List}
use Rattle.grammar_syntax.specs.declared.token.Token.{Token}
use Rattle.grammar_syntax.specs.declared.fault.StopCause.{StopCause}
use Rattle.grammar_syntax.specs.declared.fault.StopCause.TheVariants as halt
use Rattle.grammar_syntax.specs.ParserCombinators.{ParseResult, Read, Stop, Unexpected, TooDeep}

-- `ParsesTo outcome r rest` holds if the result `r`, with the tokens `rest` remaining, is `outcome`, or `r` is
-- `NoMemory`.
abbrev pub ParsesTo : {A : Type 0} → ParseResult A → Result A StopCause → List Token → Type 0
ParsesTo outcome (Ok a) rest = outcome ≡ Read a rest
ParsesTo outcome (Err halt.NoMemory) rest = Unit {0}
ParsesTo outcome (Err halt.Unexpected) rest = outcome ≡ Stop Unexpected rest
ParsesTo outcome (Err halt.TooDeep) rest = outcome ≡ Stop TooDeep rest
