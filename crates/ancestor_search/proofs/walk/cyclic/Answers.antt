use Rattle.std.proofs.Common.{length, inl, inr, arith}
use Rattle.ancestor_search.specs.inner.Walking.{edges_of}
use Rattle.ancestor_search.proofs.Marks.{below}
use Rattle.ancestor_search.proofs.Beginning.{begins, seen_past}
use Rattle.ancestor_search.proofs.Stepping.{all-done}
use Rattle.ancestor_search.proofs.walk.cyclic.Goals as goal

pub loop-root-init : goal.loop-root-init
loop-root-init c =
    let zeros = c.in_ok-from_elem.ensures.items_if_clones_equal (λ y h. cc h) in
    let nones = c.in_ok-from_elem-2.ensures.items_if_clones_equal (λ y h. cc h) in
    record {
      walks = rw (c.new.ensures.items, c.new-2.ensures.items, c.new-3.ensures.items) (begins c.args.edges.now _ _ zeros nones);
      none = c.new-3.ensures.items;
      seen = λ x h. elim h [ inl lt ↦ absurd (omega (arith, lt)) | inr le ↦ seen_past c.args.edges.now _ zeros x le ];
    }

pub returns : goal.returns
returns c =
    let w = c.loop-root.walk in
    all-done (edges_of c.args.edges.now) w.place.items w.found.items w.members.items w.pending.items w.bounds.items c.loop-root.invariant.none c.loop-root.invariant.walks
    (λ x. c.loop-root.invariant.seen x (elim (below x (length c.args.edges.now)) [ inl lt ↦ inl (omega (arith, lt, c.loop-root-test.false)) | inr le ↦ inr le ]))
