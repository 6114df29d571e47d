use Rattle.std.proofs.Common.{List, subst}
use Rattle.std.specs.Prelude.{Contains, ◌↔◌, ◌⊎◌}
use Rattle.std.proofs.lemmas.List.{take_all}
use Rattle.scope_index.specs.Keys.{Candidate, lent}
use Rattle.scope_index.proofs.Offering.{Lent}
use Rattle.scope_index.proofs.Placing.{none_put, one_of_next, one_more_put}
use Rattle.scope_index.proofs.candidates.place_each.Goals as goal

pub loop-id-init : goal.loop-id-init
loop-id-init c = (c.requires.ascending, λ (o : Candidate). none_put (lent c.args.all.now.items) o)

pub place-requires-clause-one : goal.place-requires-clause-one
place-requires-clause-one c =
    one_of_next (lent c.args.all.now.items) (lent c.loop-id.all.items) c.args.policies.now c.loop-id.id-index c.loop-id-item.result
    c.loop-id-test.true c.loop-id-item.is c.requires.one c.loop-id.invariant.1

pub loop-id-preserved : goal.loop-id-preserved
loop-id-preserved c = (
  c.in_ok-place.ensures.ascending,
  λ (o : Candidate). one_more_put (lent c.args.all.now.items) (lent c.loop-id.all.items) (lent c.place.new.all.items) c.args.policies.now c.loop-id.id-index
      c.loop-id-item.result c.loop-id-test.true c.loop-id-item.is c.loop-id.invariant.1 c.in_ok-place.ensures.same o,
)

pub returns-clause-same : goal.returns-clause-same
returns-clause-same c = λ (o : Candidate).
    subst (λ (ps : List Lent). Contains (lent c.loop-id.all.items) o ↔ Contains (lent c.args.all.now.items) o ⊎ Contains (lent ps) o)
    (take_all c.loop-id.id-index c.args.policies.now c.loop-id-test.false) (c.loop-id.invariant.1 o)
