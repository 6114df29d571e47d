use Rattle.std.proofs.Common.{◌≡◌, ◌+◌, ◌<◌, ◌^◌, length, ap, sym, ◌∙◌, arith}
use Rattle.ancestor_search.specs.inner.Walking.{edges_of, mark_of, bound_at}
use Rattle.ancestor_search.proofs.Reading.{edges_short, effort-enter}
use Rattle.ancestor_search.proofs.Stepping.{enter-next, held-done, held-placed}
use Rattle.ancestor_search.proofs.walk.look_at.Goals as goal

pub returns-then-place-eq0-clause-walks : goal.returns-then-place-eq0-clause-walks
returns-then-place-eq0-clause-walks c =
    let w = c.args.walk.now in
    let made = c.in_ok-enter.ensures in
    let new : mark_of w.place.items c.args.number ≡ 0 = ap (λ l. mark_of l c.args.number) (sym c.deref.ensures.value) ∙ sym c.mark_or_done-place.ensures ∙ c.if-place-eq0.true in
    let small : length w.members.items < 2 ^ 63 = omega (arith, w.members.ok.0, w.members.ok.1, w.members.small) in
    rw (made.place, made.members, made.pending, made.bounds, made.found) (enter-next (edges_of c.args.edges.now) w.place.items w.found.items w.members.items c.args.number new small w.pending.items w.bounds.items c.push.new.self.items c.args.last c.in_ok-push.ensures.items c.requires.stands c.requires.finished c.requires.held)

pub returns-then-place-eq0-clause-less : goal.returns-then-place-eq0-clause-less
returns-then-place-eq0-clause-less c =
    let w = c.args.walk.now in
    let e = edges_of c.args.edges.now c.args.number in
    let made = c.in_ok-enter.ensures in
    let new : mark_of w.place.items c.args.number ≡ 0 = ap (λ l. mark_of l c.args.number) (sym c.deref.ensures.value) ∙ sym c.mark_or_done-place.ensures ∙ c.if-place-eq0.true in
    rw (made.place, made.pending, made.bounds, c.in_ok-push.ensures.items) (effort-enter w.place.items c.args.number (length w.members.items + 1) w.pending.items e w.bounds.items c.args.last (bound_at w.members.items w.pending.items) new (omega arith) (edges_short c.args.edges.now c.args.number))

pub returns-clause-walks : goal.returns-clause-walks
returns-clause-walks c =
    let w = c.args.walk.now in
    let is = c.mark_or_done-place.ensures ∙ ap (λ l. mark_of l c.args.number) c.deref.ensures.value in
    held-placed (edges_of c.args.edges.now) w.place.items c.args.number c.mark_or_done-place.result w.members.items w.pending.items w.found.items w.bounds.items c.joined-last.new.bounds.items c.push-2.new.self.items c.args.last c.joined-last.result c.in_ok-push-3.ensures.items c.joined-last.ensures.joins c.joined-last.ensures.down is c.if-place-eq0.false c.if-place.false c.requires

pub returns-then-place-clause-walks : goal.returns-then-place-clause-walks
returns-then-place-clause-walks c =
    let w = c.args.walk.now in
    let is = sym (c.mark_or_done-place.ensures ∙ ap (λ l. mark_of l c.args.number) c.deref.ensures.value) ∙ c.if-place.true in
    held-done (edges_of c.args.edges.now) w.place.items c.args.number w.members.items w.pending.items w.found.items w.bounds.items c.push-then-place.new.self.items c.args.last c.in_ok-push-2.ensures.items is c.requires.stands c.requires.finished c.requires.held
