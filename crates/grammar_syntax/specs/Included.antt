-- Defines which token kinds are in each set that the parsers of names use.
use Rattle.grammar_syntax.specs.declared.kind_sets.NameSet.{NameSet}
use Rattle.grammar_syntax.specs.declared.kind_sets.NameSet.TheVariants as set
use Rattle.grammar_syntax.specs.Kinds.{Kinds}
use Rattle.grammar_syntax.specs.Grammar.{identifiers}
use Rattle.grammar_syntax.specs.ParseResults.{is_slot}
use Rattle.grammar_syntax.specs.Parsing.{pieces}

-- `included set` are the token kinds in `set`.
abbrev pub included : NameSet → Kinds
included set.Identifiers = identifiers
included set.Pieces = pieces
included set.Slots = is_slot
