use Rattle.std.proofs.Common.{inr, refl, sym, subst}
use Rattle.grammar_syntax.specs.Lexing.{IsLexed, IsFault}
use Rattle.fault_places.proofs.Unread.{bad_is_no_policy}
use Rattle.fault_places.proofs.spans.span_by.Goals as goal

pub span_in-requires : goal.span_in-requires
span_in-requires c = subst (IsLexed c.args.text.now) (sym c.deref.ensures.value) c.in-Ok.ensures.found

pub returns-in-BadToken : goal.returns-in-BadToken
returns-in-BadToken c =
    inr (bad_is_no_policy c.args.text.now (c.in-BadToken.field-0, subst (λ f. IsFault f c.args.text.now) c.in-BadToken.is c.in-Err.ensures.fault), refl)
