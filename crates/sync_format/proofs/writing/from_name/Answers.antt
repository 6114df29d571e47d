use Rattle.std.proofs.Common.{sym, subst}
use Rattle.stamped_store.specs.Deltas.{Summary}
use Rattle.sync_format.specs.inner.Walking.{IsFrom}
use Rattle.sync_format.proofs.Walking.{from_start, from_next, stamp_here, stamp_behind, stamp_past, no_length}
use Rattle.sync_format.proofs.writing.from_name.Goals as goal

pub loop-first-init : goal.loop-first-init
loop-first-init g c = record { from = from_start (g.N.Lent.named c.args.name.now) c.args.known.now c.requires }

pub loop-first-preserved : goal.loop-first-preserved
loop-first-preserved g c = record {
  from = from_next (g.N.Lent.named c.args.name.now) c.args.known.now c.in-Some.first.now c.in-Some.others.now (sym c.in-Less.ensures)
      (subst (λ (m : Summary). IsFrom (g.N.Lent.named c.args.name.now) c.args.known.now m) c.in-Some.ensures.cases.0 c.loop-first.invariant.from);
}

pub returns-in-Equal-clause-left : goal.returns-in-Equal-clause-left
returns-in-Equal-clause-left g c = c.loop-first.invariant.from

pub returns-in-Equal-clause-stamp : goal.returns-in-Equal-clause-stamp
returns-in-Equal-clause-stamp g c =
    stamp_here (g.N.Lent.named c.args.name.now) c.args.known.now c.in-Some.first.now c.in-Some.others.now (sym c.in-Equal.ensures)
    (subst (λ (m : Summary). IsFrom (g.N.Lent.named c.args.name.now) c.args.known.now m) c.in-Some.ensures.cases.0 c.loop-first.invariant.from)

pub returns-in-Greater-clause-left : goal.returns-in-Greater-clause-left
returns-in-Greater-clause-left g c = c.loop-first.invariant.from

pub returns-in-Greater-clause-stamp : goal.returns-in-Greater-clause-stamp
returns-in-Greater-clause-stamp g c =
    stamp_behind (g.N.Lent.named c.args.name.now) c.args.known.now c.in-Some.first.now c.in-Some.others.now (sym c.in-Greater.ensures)
    (subst (λ (m : Summary). IsFrom (g.N.Lent.named c.args.name.now) c.args.known.now m) c.in-Some.ensures.cases.0 c.loop-first.invariant.from)

pub returns-clause-left : goal.returns-clause-left
returns-clause-left g c = c.loop-first.invariant.from

pub returns-clause-stamp : goal.returns-clause-stamp
returns-clause-stamp g c =
    stamp_past (g.N.Lent.named c.args.name.now) c.args.known.now
    (subst (λ (m : Summary). IsFrom (g.N.Lent.named c.args.name.now) c.args.known.now m) (no_length c.loop-first.left.now c.in_default.ensures.cases) c.loop-first.invariant.from)
