use Rattle.std.proofs.Common.{◌≡◌, ◌-◌}
use Rattle.grammar_syntax.specs.Parsing as spec
use Rattle.grammar_syntax.proofs.NameLoop.{taken}
use Rattle.grammar_syntax.proofs.names.rest_of_name.Given as goal

abbrev pub invariant-loop-turn : goal.invariant-loop-turn
invariant-loop-turn l = spec.rest_of_name l.fn.first l.fn.tokens.rest.now ≡ taken (l._turn-end - l._turn) l.fn.first l.more l.tokens.rest.now
