use Rattle.std.proofs.Common.{◌∙◌, subst, arith}
use Rattle.std.proofs.lemmas.List.{append-nil}
use Rattle.ancestor_search.specs.inner.Walking.{JoinsDownTo}
use Rattle.ancestor_search.proofs.Stepping.{held-join}
use Rattle.ancestor_search.proofs.walk.joined.Goals as goal

pub loop-last-preserved : goal.loop-last-preserved
loop-last-preserved c = record {
  joins = λ e place y ms ps le here held. held-join e place y ms ps c.args.place c.loop-last.bounds.items c.pop.new.self.items c.loop-last.last c.in-Some.lower c.in-Some.ensures.items c.requires c.loop-last-test.true here (c.loop-last.invariant.joins e place y ms ps le here held);
  fewer = let shorter = c.in-Some.ensures.len in omega (arith, c.loop-last.invariant.fewer, shorter, c.loop-last.bounds.ok.0, c.pop.new.self.ok.0);
}

pub returns-in-None-clause-joins : goal.returns-in-None-clause-joins
returns-in-None-clause-joins c = subst (λ bs. JoinsDownTo c.args.place c.args.bounds.now.items c.args.last bs c.loop-last.last) (c.in-None.ensures.items ∙ append-nil c.pop.new.self.items) c.loop-last.invariant.joins
