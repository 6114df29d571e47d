use Rattle.std.proofs.Common.{ap, List, ℕ}
use Rattle.serde_json.specs.Data.{string}
use Rattle.entity_uids.specs.Tokens.{AppendsTokens, tokens_of}
use Rattle.entity_uids.proofs.Adding.{one, alike, opened, one_more, whole}
use Rattle.answer_lines.proofs.lines.write_reason.Goals as goal

pub loop-id-init : goal.loop-id-init
loop-id-init c = opened (λ id. string id) c.args.ids.now c.in_ok-begin_array.ensures

pub loop-id-preserved : goal.loop-id-preserved
loop-id-preserved c =
    one_more (λ id. string id) c.args.ids.now c.loop-id.id-index c.id-item.result c.loop-id-test.true c.id-item.is c.loop-id.invariant
    (alike (ap (λ (s : List ℕ). tokens_of (string s)) c.as_str.ensures) (one c.in_ok-string.ensures))

pub returns : goal.returns
returns c = whole (λ id. string id) c.args.ids.now c.loop-id.id-index c.loop-id-test.false c.loop-id.invariant c.in_ok-end_array.ensures
