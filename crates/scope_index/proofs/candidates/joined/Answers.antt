use Rattle.scope_index.specs.Keys.{Candidate}
use Rattle.scope_index.proofs.Placing.{in_both, one_at_each_joined}
use Rattle.scope_index.proofs.candidates.joined.Goals as goal

pub in_order-requires : goal.in_order-requires
in_order-requires c =
    one_at_each_joined c.args.all.items c.args.others.now c.extend_from_slice.new.self.items c.in_ok-extend_from_slice.ensures.items c.requires.one

pub returns-clause-same : goal.returns-clause-same
returns-clause-same c = λ (o : Candidate).
    let both = in_both c.args.all.items c.args.others.now c.extend_from_slice.new.self.items c.in_ok-extend_from_slice.ensures.items o in (
      (λ h. both.0 ((c.in_order.ensures.same o).0 h)),
      (λ s. (c.in_order.ensures.same o).1 (both.1 s)),
    )
