use Rattle.std.proofs.Common.{◌≡◌, true, false, sym, ◌∙◌}
use Rattle.std.proofs.lemmas.Result.{err_from_is_err_and}
use Rattle.grammar_syntax.specs.declared.token.TokenKind.TheVariants as k
use Rattle.grammar_syntax.specs.Parsing.{is_text}
use Rattle.grammar_syntax.proofs.KindLemmas.{same_by_number}
use Rattle.grammar_syntax.proofs.NameLoop.{begun, turned, ended, stopped, bare, ran_out}
use Rattle.grammar_syntax.proofs.names.rest_of_name.Goals as goal

pub loop-turn-init : goal.loop-turn-init
loop-turn-init c = begun c.left-turn-end.result c.args.first c.new-more.result c.args.tokens.now.rest.now c.left-turn-end.ensures c.new-more.ensures

pub loop-turn-preserved : goal.loop-turn-preserved
loop-turn-preserved c =
    let word : is_text c.in_ok-next.next ≡ false = sym (same_by_number c.in_ok-next.next.kind k.Text c.eq.result c.eq.ensures) ∙ c.if-eq.false in
    turned _ c.left-turn-end.result c.loop-turn._turn c.args.first c.loop-turn.more c.loop-turn.tokens.rest.now
    c.push.new.self c.in_ok-next.next c.piece.new.tokens.rest.now c.loop-turn.invariant c.loop-turn-test.true c.if-not-sees.ensures c.in_ok-next.ensures.reads word c.in_ok-push.ensures.ok

pub returns-then-not-sees : goal.returns-then-not-sees
returns-then-not-sees c = bare _ c.left-turn-end.result c.loop-turn._turn c.args.first c.loop-turn.more c.loop-turn.tokens.rest.now c.loop-turn.invariant c.if-not-sees.ensures

pub returns-then-eq : goal.returns-then-eq
returns-then-eq c =
    let text : is_text c.in_ok-next.next ≡ true = sym (same_by_number c.in_ok-next.next.kind k.Text c.eq.result c.eq.ensures) ∙ c.if-eq.true in
    ended _ c.left-turn-end.result c.loop-turn._turn c.args.first c.loop-turn.more c.loop-turn.tokens.rest.now
    c.in_ok-next.next c.piece.new.tokens.rest.now c.loop-turn.invariant c.loop-turn-test.true c.if-not-sees.ensures c.in_ok-next.ensures.reads text

pub returns-in_err-next : goal.returns-in_err-next
returns-in_err-next c =
    let exit = err_from_is_err_and c.from_residual.result c.from_residual.ensures.1 in
    rw (exit.1, exit.2) (stopped _ c.left-turn-end.result c.loop-turn._turn c.args.first c.loop-turn.more c.loop-turn.tokens.rest.now
    c.in_err-next.field-0.0 c.piece.new.tokens.rest.now c.loop-turn.invariant c.loop-turn-test.true c.if-not-sees.ensures c.in_err-next.ensures.reads)

pub returns : goal.returns
returns c = ran_out _ c.left-turn-end.result c.loop-turn._turn c.args.first c.loop-turn.more c.loop-turn.tokens.rest.now c.loop-turn.invariant c.loop-turn-test.false
