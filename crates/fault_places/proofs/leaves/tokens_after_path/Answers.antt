use Rattle.std.proofs.Common.{◌+◌, ap, ◌∙◌, drop}
use Rattle.fault_places.proofs.Dropping.{twice}
use Rattle.fault_places.proofs.leaves.tokens_after_path.Goals as goal

pub returns : goal.returns
returns c =
    let n = c.len-more.result in
    let all = twice c.args.tokens.now c.skip-2.result.now c.skip-3.result.now (1 + n) n (twice c.args.tokens.now c.skip.result.now c.skip-2.result.now 1 n c.skip.ensures c.skip-2.ensures) c.skip-3.ensures in
    all ∙ ap (λ k. drop (1 + k + k) c.args.tokens.now) c.len-more.ensures
