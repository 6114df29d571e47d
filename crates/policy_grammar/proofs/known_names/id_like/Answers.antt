use Rattle.std.proofs.Common.{ℕ, List, sym, subst}
use Rattle.std.proofs.lemmas.Result.{IfOk-weaker}
use Rattle.grammar_desugaring.specs.grammar_syntax.Lexing.{spelling_of}
use Rattle.grammar_desugaring.specs.grammar_syntax.Strings.{IsStringOf}
use Rattle.policy_grammar.proofs.known_names.id_like.Goals as goal

pub returns-in-Some : goal.returns-in-Some
returns-in-Some c =
    let spelled = spelling_of c.args.text.now c.args.token in
    IfOk-weaker c.text_like.result _ (λ id. IsStringOf id spelled) (λ id same. subst (λ (x : List ℕ). IsStringOf x spelled) (sym same) c.in-Some.ensures) c.text_like.ensures
