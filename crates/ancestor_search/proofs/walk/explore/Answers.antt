use Rattle.std.proofs.Common.{◌≡◌, ◌<◌, ◌^◌, length, drop, ap, sym, subst, ◌∙◌, arith}
use Rattle.ancestor_search.specs.inner.Walking.{edges_of, mark_of, FindsOpen, Ends}
use Rattle.ancestor_search.proofs.Marks.{seen-up, seen-n}
use Rattle.ancestor_search.proofs.Stepping.{at-rest, enter-first, taken, closed, bound_fits, seen_ended}
use Rattle.ancestor_search.proofs.walk.explore.Goals as goal

pub loop-last-init : goal.loop-last-init
loop-last-init c =
    let w = c.args.walk.now in
    let e = edges_of c.args.edges.now in
    let made = c.in_ok-enter.ensures in
    let rest = at-rest e w.place.items w.found.items w.members.items w.pending.items w.bounds.items c.requires.none c.requires.walks in
    let new : mark_of w.place.items c.args.root ≡ 0 = ap (λ l. mark_of l c.args.root) (sym c.deref.ensures.value) ∙ sym c.mark_or_done.ensures ∙ c.if-mark_or_done-ne0.false in
    let small : length w.members.items < 2 ^ 63 = omega (arith, w.members.ok.0, w.members.ok.1, w.members.small) in
    record {
      walks = rw (made.place, made.members, made.pending, made.bounds, made.found, c.requires.none) (enter-first e w.place.items w.found.items w.members.items c.args.root new small rest.0 rest.2 rest.3 w.pending.items rest.1);
      kept = λ x s. rw made.place (seen-up w.place.items w.members.items c.args.root new small x s);
      reached = rw made.place (seen-n w.place.items w.members.items c.args.root new small);
    }

pub look_at-requires : goal.look_at-requires
look_at-requires c =
    let w = c.loop-last.walk in
    taken (edges_of c.args.edges.now) w.place.items w.found.items w.members.items w.pending.items c.next_edge.new.pending.items w.bounds.items c.pop.new.self.items c.in-Some.last c.in-Some-next_edge.number c.in-Some.ensures.items c.in-Some-next_edge.ensures.0 c.in-Some-next_edge.ensures.1 c.loop-last.invariant.walks

pub split_at-requires : goal.split_at-requires
split_at-requires c =
    let w = c.loop-last.walk in
    rw c.deref-in-None.ensures.value (bound_fits (edges_of c.args.edges.now) w.place.items w.found.items w.members.items w.pending.items w.bounds.items c.pop.new.self.items c.in-Some.last c.in-Some.ensures.items c.loop-last.invariant.walks)

pub loop-last-preserved : goal.loop-last-preserved
loop-last-preserved c =
    let w = c.loop-last.walk in
    let e = edges_of c.args.edges.now in
    let back = c.split_at.ensures.back ∙ ap (λ l. drop c.in-Some.last.members l) c.deref-in-None.ensures.value in
    let finds = subst (λ l. FindsOpen e w.place.items l w.found.items c.leave.new.found.items) back c.leave.ensures.finds in
    let ends = subst (λ l. Ends l w.place.items c.leave.new.place.items) back c.leave.ensures.ends in
    record {
      walks = rw (c.truncate.ensures.items, c.in-None.ensures.0) (closed e w.place.items c.leave.new.place.items w.found.items c.leave.new.found.items w.members.items w.pending.items w.bounds.items c.pop.new.self.items c.in-Some.last c.in-Some.ensures.items c.in-None.ensures.1 c.loop-last.invariant.walks finds ends);
      kept = λ x s. seen_ended _ w.place.items c.leave.new.place.items ends x (c.loop-last.invariant.kept x s);
      reached = seen_ended _ w.place.items c.leave.new.place.items ends c.args.root c.loop-last.invariant.reached;
    }
