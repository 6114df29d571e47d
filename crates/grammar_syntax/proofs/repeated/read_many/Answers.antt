use Rattle.std.proofs.Common.{[], sym, ap, ◌∙◌, ◌≡◌, List, Result}
use Rattle.grammar_syntax.specs.Kinds.{Kinds}
use Rattle.grammar_syntax.specs.declared.fault.StopCause.{StopCause}
use Rattle.grammar_syntax.specs.declared.token.Token.{Token}
use Rattle.grammar_syntax.specs.ParsesTo.{ParsesTo}
use Rattle.grammar_syntax.specs.ParserCombinators.{Parser, many}
use Rattle.grammar_syntax.specs.Repetition.{many_onto}
use Rattle.grammar_syntax.proofs.Gathered.{as_read, instead}
use Rattle.grammar_syntax.proofs.repeated.read_many.Goals as goal

after_none : {A : Type 0} (ks : Kinds) (p : Parser A) (ts rest : List Token) (none : List A) (r : Result (List A) StopCause)
    → none ≡ [] → ParsesTo (many_onto none ks p ts) r rest → ParsesTo (many ks p ts) r rest
after_none ks p ts rest none r empty =
    instead (many ks p ts) (many_onto none ks p ts) r rest (as_read (many ks p ts) ∙ ap (λ found. many_onto found ks p ts) (sym empty))

pub returns : goal.returns
returns g c = λ p reads.
    after_none (g.S.KindSet.included c.args.set) p c.args.tokens.now.rest.now c.read_on.new.tokens.rest.now c.in_ok-none.none
    c.read_on.result c.in_ok-none.ensures (c.read_on.ensures p reads)
