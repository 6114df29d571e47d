use Rattle.std.proofs.Common.{ap, sym, ◌∙◌, codes}
use Rattle.std.specs.Str.{bytes_eq}
use Rattle.policy_grammar.specs.CoreOf.{is_id}
use Rattle.policy_grammar.proofs.Lists.{find-here, find-behind}
use Rattle.policy_grammar.proofs.names.id_of.Goals as goal

pub returns-then-eq-clause-found : goal.returns-then-eq-clause-found
returns-then-eq-clause-found c =
    sym (c.loop-annotation.invariant ∙ find-here (is_id c.args.text.now) c.args.annotations.now c.loop-annotation.annotation-index _ c.loop-annotation-test.true
    (ap (λ w. bytes_eq w (codes "id")) (sym c.spelling.ensures.is) ∙ sym c.eq.ensures ∙ c.if-eq.true))

pub loop-annotation-preserved : goal.loop-annotation-preserved
loop-annotation-preserved c =
    c.loop-annotation.invariant ∙ find-behind (is_id c.args.text.now) c.args.annotations.now c.loop-annotation.annotation-index _ c.loop-annotation-test.true
    (ap (λ w. bytes_eq w (codes "id")) (sym c.spelling.ensures.is) ∙ sym c.eq.ensures ∙ c.if-eq.false)
