use Rattle.std.proofs.Common.{◌≡◌, IfOk, ap, arith, subst, ◌∙◌}
use Rattle.grammar_desugaring.specs.ReportedErrors.{least}
use Rattle.grammar_desugaring.specs.Repeats.{repeat_faults, abstract_names}
use Rattle.policy_grammar.proofs.Doubtful.{doubtful-enough}
use Rattle.policy_grammar.proofs.Refusing.{names-long}
use Rattle.policy_grammar.proofs.repeats.repeated_name.Goals as goal

pub some_index_name-wide-requires-clause-same : goal.some_index_name-wide-requires-clause-same
some_index_name-wide-requires-clause-same c = names-long c.args.text.now c.args.trees.now c.args.names.now c.requires.named

pub names_to_compare-requires-clause-same : goal.names_to_compare-requires-clause-same
names_to_compare-requires-clause-same c = names-long c.args.text.now c.args.trees.now c.args.names.now c.requires.named

pub returns : goal.returns
returns c =
    subst (λ told. IfOk c.first_duplicate.result (λ fault. fault ≡ told))
    (ap (λ ms. least (repeat_faults (abstract_names ms))) c.deref.ensures.value ∙ ap (λ ms. least (repeat_faults ms)) c.in_ok-marks.ensures
    ∙ doubtful-enough c.repeats_are_exact.ensures.told c.args.text.now c.some_index_name-wide.result c.args.names.now c.args.trees.now (omega arith) c.requires.named
    c.some_index_name-wide.ensures) c.first_duplicate.ensures
