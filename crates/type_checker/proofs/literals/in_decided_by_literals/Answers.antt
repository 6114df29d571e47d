use Rattle.std.proofs.Common.{sym, ◌∙◌}
use Rattle.std.proofs.lemmas.Bool.{false≢true}
use Rattle.typing.specs.Literals as literals
use Rattle.type_checker.specs.Views.{typing_environment}
use Rattle.type_checker.proofs.Settling.{no_action_in}
use Rattle.type_checker.proofs.literals.in_decided_by_literals.Goals as goal

pub returns-then-not-is_action_type : goal.returns-then-not-is_action_type
returns-then-not-is_action_type c =
    no_action_in (typing_environment c.args.env) c.in-Some.ensures
    (λ e. false≢true (sym c.if-not-is_action_type.true ∙ (c.is_action_type.ensures ∙ e)))

pub returns-in-Some-in_listed : goal.returns-in-Some-in_listed
returns-in-Some-in_listed c =
    let h = c.in-Some-in_listed.ensures in
    literals.action_in c.in-Some.ensures (sym c.is_action_type.ensures ∙ c.if-not-is_action_type.false) h.1 h.2
