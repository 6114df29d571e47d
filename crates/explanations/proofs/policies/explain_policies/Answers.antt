use Rattle.std.proofs.Common.{option_map, string_bytes}
use Rattle.schema_decisions.specs.schema.Views.{schema_view}
use Rattle.explanations.proofs.Stepping.{no_policy, policy_more, all_policies}
use Rattle.explanations.proofs.policies.explain_policies.Goals as goal

pub loop-place-init : goal.loop-place-init
loop-place-init c =
    no_policy (option_map (λ s. schema_view s.now) c.args.schema) c.args.file.now c.args.text.now c.args.pieces.now (string_bytes c.args.out.now)

pub loop-place-preserved : goal.loop-place-preserved
loop-place-preserved c =
    policy_more (option_map (λ s. schema_view s.now) c.args.schema) c.args.file.now c.args.text.now c.args.pieces.now c.args.policies.now c.loop-place.place
    c.index-policies-place.result c.piece_at-piece.result (string_bytes c.args.out.now) (string_bytes c.loop-place.out) (string_bytes c.explain_policy.new.out)
    c.loop-place-test.true c.index-policies-place.is c.piece_at-piece.ensures c.loop-place.invariant c.in_ok-explain_policy.ensures

pub returns : goal.returns
returns c =
    all_policies (option_map (λ s. schema_view s.now) c.args.schema) c.args.file.now c.args.text.now c.args.pieces.now c.args.policies.now c.loop-place.place
    (string_bytes c.args.out.now) (string_bytes c.loop-place.out) c.loop-place-test.false c.loop-place.invariant
