use Rattle.std.proofs.Common.{◌≡◌, ◌-◌}
use Rattle.grammar_syntax.specs.ParserCombinators.{Parser}
use Rattle.grammar_syntax.specs.Repetition.{CallsRead, many_onto}
use Rattle.grammar_syntax.proofs.Gathered.{gathered}
use Rattle.grammar_syntax.proofs.repeated.read_on.Given as goal

abbrev pub invariant-loop-turn : goal.invariant-loop-turn
invariant-loop-turn g l = (p : Parser _) → CallsRead p (goal.F-post g l.fn.read)
    → many_onto l.fn.found (g.S.KindSet.included l.fn.set) p l.fn.tokens.rest.now
    ≡ gathered (g.S.KindSet.included l.fn.set) p (l._turn-end - l._turn) l.found l.tokens.rest.now
