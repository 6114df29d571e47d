use Rattle.std.proofs.Common.{◌≡◌}
use Rattle.grammar_syntax.specs.Lexing.{spelling_of}
use Rattle.grammar_syntax.specs.Strings.{IsStringOf}
use Rattle.grammar_desugaring.specs.Strings.{value_of}
use Rattle.grammar_desugaring.proofs.Idents.{text-kind}
use Rattle.grammar_desugaring.specs.inner.StringReading.{string_meaning}
use Rattle.grammar_desugaring.proofs.Lists.{ok_as}
use Rattle.grammar_desugaring.proofs.words.string.Goals as goal

pub decode_string-requires-clause-string : goal.decode_string-requires-clause-string
decode_string-requires-clause-string c = text-kind _ c.requires.kind

pub returns : goal.returns
returns c =
    let written = spelling_of c.args.text.now c.args.token in
    ok_as (λ v. IsStringOf v written) (λ v. v ≡ value_of written) c.decode_string.result (λ v is. string_meaning.value_is v written is) c.decode_string.ensures
