use Rattle.std.proofs.Common.{◌++◌, [], ◌∷◌, take, sym, subst, ap, ◌∙◌}
use Rattle.std.proofs.lemmas.List.{take_more}
use Rattle.grammar_core.specs.declared.leaf.Literal.TheVariants as literal
use Rattle.typing.specs.Literals as literals
use Rattle.typing.specs.Literals.{IsLiteral, AreEntityLiterals}
use Rattle.type_checker.specs.Views.{typing_environment}
use Rattle.type_checker.proofs.Settling.{in_none, in_more, literals_more, literals_at}
use Rattle.type_checker.proofs.literals.in_some.Goals as goal

pub loop-member-init : goal.loop-member-init
loop-member-init c = ([], literals.no_literals, in_none (typing_environment c.args.env) c.args.action.now)

pub returns-in-None : goal.returns-in-None
returns-in-None c = λ us h.
    let E = typing_environment c.args.env in
    let w = literals_at E c.loop-member.member-index c.member-item.result h c.loop-member-test.true in
    c.in-None.ensures w.0 (subst (λ x. IsLiteral E x (literal.Entity w.0)) (sym c.member-item.is) w.1)

pub loop-member-preserved : goal.loop-member-preserved
loop-member-preserved c =
    let E = typing_environment c.args.env in
    let xs = c.args.members.now in
    let i = c.loop-member.member-index in
    let x = c.member-item.result in
    let u = c.in-Some.uid.now in
    let h = c.loop-member.invariant in
    let e = ap (λ y. take i xs ++ y ∷ []) c.member-item.is ∙ sym (take_more xs i x c.loop-member-test.true) in (
      h.0 ++ u ∷ [],
      subst (λ ys. AreEntityLiterals E ys (h.0 ++ u ∷ [])) e (literals_more E h.1 c.in-Some.ensures),
      in_more E c.args.action.now u h.0 _ _ _ h.2 c.is_action_in-is_in.ensures c.either-found.ensures,
    )
