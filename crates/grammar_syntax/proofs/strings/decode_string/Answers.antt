use Rattle.std.proofs.Common.{ap}
use Rattle.grammar_syntax.specs.Strings.{is_string}
use Rattle.grammar_syntax.proofs.Between.{body_in}
use Rattle.grammar_syntax.proofs.Patterns.{string_of}
use Rattle.grammar_syntax.proofs.strings.decode_string.Goals as goal

pub read_literal-requires : goal.read_literal-requires
read_literal-requires c =
    let b = body_in _ _ _ c.requires.spelled.is (ap is_string c.requires.string) c.body.ensures in
    (b.pieces, b.is)

pub returns : goal.returns
returns c = string_of _ _ _ _ _ c.requires.spelled.is c.requires.string c.body.ensures c.in_ok-value.ensures
