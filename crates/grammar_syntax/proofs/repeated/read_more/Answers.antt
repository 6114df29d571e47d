use Rattle.std.proofs.Common.{[], ◌∷◌, ◌++◌, ap, ◌∙◌, ◌≡◌, List, Result, subst}
use Rattle.grammar_syntax.specs.Kinds.{Kinds}
use Rattle.grammar_syntax.specs.declared.fault.StopCause.{StopCause}
use Rattle.grammar_syntax.specs.declared.token.Token.{Token}
use Rattle.grammar_syntax.specs.ParsesTo.{ParsesTo}
use Rattle.grammar_syntax.specs.ParserCombinators.{Parser}
use Rattle.grammar_syntax.specs.Repetition.{many_onto, many_after}
use Rattle.grammar_syntax.proofs.repeated.read_more.Goals as goal

after_one : {A : Type 0} (ks : Kinds) (p : Parser A) (ts rest : List Token) (first : A) (none one : List A) (r : Result (List A) StopCause)
    → none ≡ [] → one ≡ none ++ first ∷ [] → ParsesTo (many_onto one ks p ts) r rest → ParsesTo (many_after first ks p ts) r rest
after_one ks p ts rest first none one r empty begun =
    subst (λ found. ParsesTo (many_onto found ks p ts) r rest) (begun ∙ ap (λ z. z ++ first ∷ []) empty)

pub returns : goal.returns
returns g c = λ p reads.
    after_one (g.S.KindSet.included c.args.set) p c.args.tokens.now.rest.now c.read_on.new.tokens.rest.now c.args.first c.in_ok-found.found c.push.new.self
    c.read_on.result c.in_ok-found.ensures c.in_ok-push.ensures.ok (c.read_on.ensures p reads)
