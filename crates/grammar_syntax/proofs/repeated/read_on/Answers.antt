use Rattle.std.proofs.lemmas.Result.{err_from_is_err_and}
use Rattle.grammar_syntax.specs.Repetition.{many_onto}
use Rattle.grammar_syntax.proofs.Gathered.{pushed, ended, ran_out, stopped}
use Rattle.grammar_syntax.proofs.repeated.read_on.Goals as goal

pub loop-turn-preserved : goal.loop-turn-preserved
loop-turn-preserved g c = λ p reads.
    pushed (g.S.KindSet.included c.args.set) p _ c.left-turn-end.result c.loop-turn._turn c.loop-turn.found c.loop-turn.tokens.rest.now
    c.push.new.self c.in_ok-next.next c.read.new.arg2.rest.now (c.loop-turn.invariant p reads) c.loop-turn-test.true c.if-not-sees_one_of.ensures
    (reads _ _ _ c.in_ok-next.ensures) c.in_ok-push.ensures.ok

pub returns-then-not-sees_one_of : goal.returns-then-not-sees_one_of
returns-then-not-sees_one_of g c = λ p reads.
    ended (g.S.KindSet.included c.args.set) p _ c.left-turn-end.result c.loop-turn._turn c.loop-turn.found c.loop-turn.tokens.rest.now (c.loop-turn.invariant p reads) c.if-not-sees_one_of.ensures

pub returns-in_err-next : goal.returns-in_err-next
returns-in_err-next g c = λ p reads.
    let exit = err_from_is_err_and c.from_residual.result c.from_residual.ensures.1 in
    rw (exit.1, exit.2) (stopped (g.S.KindSet.included c.args.set) p (many_onto c.args.found (g.S.KindSet.included c.args.set) p c.args.tokens.now.rest.now) c.left-turn-end.result c.loop-turn._turn c.loop-turn.found c.loop-turn.tokens.rest.now
    c.in_err-next.field-0.0 c.read.new.arg2.rest.now (c.loop-turn.invariant p reads) c.loop-turn-test.true c.if-not-sees_one_of.ensures (reads _ _ _ c.in_err-next.ensures))

pub returns : goal.returns
returns g c = λ p reads.
    ran_out (g.S.KindSet.included c.args.set) p _ c.left-turn-end.result c.loop-turn._turn c.loop-turn.found c.loop-turn.tokens.rest.now (c.loop-turn.invariant p reads) c.loop-turn-test.false
