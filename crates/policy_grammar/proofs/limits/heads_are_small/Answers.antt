use Rattle.policy_grammar.proofs.Sizes.{shapes_are_sizes, nine_forms_more, heads_are_low}
use Rattle.policy_grammar.proofs.limits.heads_are_small.Goals as goal

pub returns-clause-sizes : goal.returns-clause-sizes
returns-clause-sizes c = shapes_are_sizes

pub returns-clause-list : goal.returns-clause-list
returns-clause-list c = nine_forms_more

pub returns-clause-low : goal.returns-clause-low
returns-clause-low c = heads_are_low
