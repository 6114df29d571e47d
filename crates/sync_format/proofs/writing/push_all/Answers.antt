use Rattle.std.proofs.Common.{◌∷◌, [], map, arith, sym, subst}
use Rattle.std.proofs.lemmas.Grind.{common_steps}
use Rattle.std.proofs.lemmas.List.{map-append}
use Rattle.std.specs.Map.Iter.{deref_pair}
use Rattle.sync_format.specs.inner.Walking.{IsWalked}
use Rattle.sync_format.proofs.Walking.{walk_starts, walk_goes_on, walk_ends}
use Rattle.sync_format.proofs.writing.push_all.Goals as goal

pub loop-name-init : goal.loop-name-init
loop-name-init g c =
    let gives = c.into_iter-name-iterator.ensures.into_iter_gives in
    let known = c.args.known.now in
    let before = c.args.out.now in
    record {
      rest = gives;
      ascending = c.requires;
      walked = subst (λ es. IsWalked g.N.Lent.named known known before before c.args.entries [] es) (sym gives) (walk_starts g.N.Lent.named known before c.args.entries);
    }

pub loop-name-preserved : goal.loop-name-preserved
loop-name-preserved g c =
    let known = c.args.known.now in
    let from = c.from_name-stamp.result.0.now in
    let before = c.args.out.now in
    let after = c.push_missing.new.out in
    let yielded = map deref_pair c.loop-name.yielded in
    let walked = walk_goes_on g.N.Lent.named known c.loop-name.left.now from before c.loop-name.out after c.args.entries yielded c.loop-name.name-iterator c.next.new.self
    (c.in-Some.name.now, c.in-Some.entry.now) c.from_name-stamp.result.1 c.loop-name.invariant.walked c.in-Some.ensures.steps
    c.from_name-stamp.ensures.left c.from_name-stamp.ensures.stamp c.in_ok-push_missing.ensures in
    record {
      rest = grind (arith, common_steps);
      ascending = c.from_name-stamp.ensures.left.ascending;
      walked = subst (λ es. IsWalked g.N.Lent.named known from before after c.args.entries es c.next.new.self) (sym (map-append deref_pair c.loop-name.yielded ((c.in-Some.name, c.in-Some.entry) ∷ []))) walked;
    }

pub returns : goal.returns
returns g c = record {
  ascending = c.loop-name.invariant.ascending;
  walked = walk_ends g.N.Lent.named c.args.known.now c.loop-name.left.now c.args.out.now c.loop-name.out c.args.entries (map deref_pair c.loop-name.yielded) c.loop-name.name-iterator
      c.loop-name.invariant.walked c.in-None.ensures.steps.0 c.loop-name.invariant.rest;
}
