use Rattle.std.proofs.Common.{subst}
use Rattle.policy_grammar.specs.grammar_syntax.declared.lex_fault.LexFault.{LexFault}
use Rattle.policy_grammar.specs.grammar_syntax.Lexing.{IsFault}
use Rattle.site_loading.proofs.LoadLemmas.{no_bad_token}
use Rattle.site_loading.proofs.policies.texts_of.Goals as goal

pub unreachable-requires-in-Err-BadToken : goal.unreachable-requires-in-Err-BadToken
unreachable-requires-in-Err-BadToken c =
    no_bad_token c.lexing_is_unique.ensures.not_both c.args.bytes.now c.in-Ok.text.now c.in-Err-BadToken.field-0-0 c.requires c.in-Ok.ensures.cases.0
    (subst (λ (f : LexFault). IsFault f c.in-Ok.text.now) c.in-Err-BadToken.field-0-is c.in-Err-BadToken.ensures.fault)
