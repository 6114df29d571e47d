use Rattle.ancestor_closure.specs.Lists.{ancestors_in}
use Rattle.ancestor_closure.proofs.OneByOne.{leaves_not, leaves_one, is_own}
use Rattle.ancestor_closure.proofs.cycles.leave.Goals as goal

pub returns-then-is_in : goal.returns-then-is_in
returns-then-is_in c =
    let own = is_own (ancestors_in c.args.relatives.now) c.args.entity.now c.deref.result.now c.deref-2.result.now c.ancestors_at.result.now c.is_in.result c.deref.ensures c.deref-2.ensures c.ancestors_at.ensures c.requires c.is_in.ensures in
    leaves_not (ancestors_in c.args.relatives.now) c.args.cyclic.now.keys c.args.entity.now (own.0 c.if-is_in.true)

pub returns : goal.returns
returns c =
    let own = is_own (ancestors_in c.args.relatives.now) c.args.entity.now c.deref.result.now c.deref-2.result.now c.ancestors_at.result.now c.is_in.result c.deref.ensures c.deref-2.ensures c.ancestors_at.ensures c.requires c.is_in.ensures in
    leaves_one (ancestors_in c.args.relatives.now) c.args.cyclic.now.keys c.remove.new.self.keys c.args.entity.now (λ there. let yes = own.1 there in cc (yes, c.if-is_in.false)) c.remove.ensures.updates.0
