use Rattle.std.proofs.Common.{List, ap, sym, subst}
use Rattle.std.specs.Prelude.{Contains, ◌↔◌, ◌⊎◌}
use Rattle.scope_index.specs.Keys.{Candidate, lent}
use Rattle.scope_index.specs.Buckets.{HaveOnePolicyPerIdTogether}
use Rattle.scope_index.proofs.Offering.{Lent, one_among, offered_beside}
use Rattle.scope_index.proofs.candidates.merged_candidates.Goals as goal

pub joined-requires-clause-one : goal.joined-requires-clause-one
joined-requires-clause-one g c =
    subst (λ (l : List Lent). HaveOnePolicyPerIdTogether (lent c.in_ok-all.all.items) (lent l)) (sym c.deref.ensures.value)
    (one_among (g.A.Ancestry.parents c.args.ancestry.now) c.args.request.now c.args.buckets.now
    (lent c.new-others.result.items) (lent c.add_by_entities.new.found.items) (lent c.in_ok-all.all.items)
    (ap lent c.new-others.ensures.items) c.in_ok-add_by_entities.ensures c.in_ok-all.ensures.all c.requires)

pub returns-clause-found : goal.returns-clause-found
returns-clause-found g c = λ (o : Candidate).
    offered_beside (g.A.Ancestry.parents c.args.ancestry.now) c.args.request.now c.args.buckets.now
    (lent c.new-others.result.items) (lent c.add_by_entities.new.found.items) (lent c.in_ok-all.all.items)
    (ap lent c.new-others.ensures.items) c.in_ok-add_by_entities.ensures c.in_ok-all.ensures.all
    (lent c.in_ok-joined.field-0.items)
    (subst (λ (l : List Lent). (p : Candidate) → Contains (lent c.in_ok-joined.field-0.items) p ↔ Contains (lent c.in_ok-all.all.items) p ⊎ Contains (lent l) p)
    c.deref.ensures.value c.in_ok-joined.ensures.same) o
