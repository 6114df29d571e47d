use Rattle.std.proofs.Common.{[], ◌∷◌, sym, subst, ◌∙◌}
use Rattle.std.proofs.lemmas.Bool.{false≢true}
use Rattle.typing.specs.Literals as literals
use Rattle.typing.specs.Literals.{AreEntityLiterals}
use Rattle.type_checker.specs.Views.{typing_environment}
use Rattle.type_checker.proofs.Settling.{in_one, lists_set}
use Rattle.type_checker.proofs.literals.in_listed.Goals as goal

pub returns-in-Some : goal.returns-in-Some
returns-in-Some c =
    let E = typing_environment c.args.env in
    (c.in-Some.uid.now ∷ [], literals.alone c.in-Some.ensures, in_one E c.args.action.now c.in-Some.uid.now _ c.is_action_in.ensures)

pub returns-in-Some-in_some : goal.returns-in-Some-in_some
returns-in-Some-in_some c =
    let E = typing_environment c.args.env in
    let h = c.in-Some-in_some.ensures in
    (h.0, lists_set E c.in-Set.is (λ e. false≢true (sym c.if-is_empty.false ∙ c.is_empty.ensures.1 e)) (subst (λ xs. AreEntityLiterals E xs h.0) c.as_slice.ensures h.1), h.2)
