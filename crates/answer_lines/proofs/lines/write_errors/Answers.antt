use Rattle.answer_lines.specs.Lines.{erring_json}
use Rattle.entity_uids.specs.Tokens.{AppendsTokens, tokens_of}
use Rattle.entity_uids.proofs.Adding.{one, alike, opened, one_more, whole}
use Rattle.answer_lines.proofs.lines.write_errors.Goals as goal

pub loop-erring-init : goal.loop-erring-init
loop-erring-init c = opened erring_json c.args.errors.now c.in_ok-begin_array.ensures

pub loop-erring-preserved : goal.loop-erring-preserved
loop-erring-preserved c =
    one_more erring_json c.args.errors.now c.loop-erring.erring-index c.erring-item.result c.loop-erring-test.true c.erring-item.is c.loop-erring.invariant
    c.in_ok-write_erring.ensures

pub returns : goal.returns
returns c = whole erring_json c.args.errors.now c.loop-erring.erring-index c.loop-erring-test.false c.loop-erring.invariant c.in_ok-end_array.ensures
