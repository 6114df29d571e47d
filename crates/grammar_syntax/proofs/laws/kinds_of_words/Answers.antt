use Rattle.grammar_syntax.proofs.WordKinds.{idents_by_kind, reserved_by_kind, idents_are_tokens}
use Rattle.grammar_syntax.proofs.laws.kinds_of_words.Goals as goal

pub returns : goal.returns
returns c = record { idents = idents_by_kind; reserved = reserved_by_kind; each_ident = idents_are_tokens }
