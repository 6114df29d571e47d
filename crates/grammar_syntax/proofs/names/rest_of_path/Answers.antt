use Rattle.std.proofs.Common.{rules}
use Rattle.grammar_syntax.specs.Kinds.{only}
use Rattle.grammar_syntax.specs.ParserCombinators.{many}
use Rattle.grammar_syntax.specs.ParsesTo.{ParsesTo}
use Rattle.grammar_syntax.specs.Parsing as spec
use Rattle.grammar_syntax.specs.declared.token.TokenKind.TheVariants as k
use Rattle.grammar_syntax.proofs.names.rest_of_path.Goals as goal

pub returns-in_err-more : goal.returns-in_err-more
unfolding spec.rest_of_path
returns-in_err-more c =
    let known : ParsesTo (many (only k.Colons) spec.path_word c.args.tokens.now.rest.now) c.read_many.result c.read_many.new.tokens.rest.now = c.read_many.ensures spec.path_word (λ old new r met. met.0) in
    search rules
