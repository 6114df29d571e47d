use Rattle.std.proofs.Common.{◌+◌, ap, sym, subst, ◌∙◌, arith}
use Rattle.ancestor_search.specs.Hierarchy.{referenced}
use Rattle.ancestor_search.specs.inner.Numbering.{IsNumber, MarkedBefore}
use Rattle.ancestor_search.proofs.Members.{length-referenced, referenced-insert_key}
use Rattle.ancestor_search.proofs.Bridge.{marked-skip, marked-take, referenced-at}
use Rattle.ancestor_search.proofs.numbers.marked.Goals as goal
use Rattle.ancestor_search.proofs.numbers.marked.Goals.{then-is_marked+in_ok-insert, else-is_marked}

pub loop-number-preserved : goal.loop-number-preserved
loop-number-preserved c =
    let us = referenced c.args.uids.now in
    let k = c.loop-number.number in
    let uid = c.index-uids-number.result in
    let is : IsNumber us k uid.now = (rw length-referenced c.loop-number-test.true, referenced-at c.args.uids.now k uid ∙ ap (λ b. b.now) (sym c.index-uids-number.is)) in
    elim c.if-is_marked.branch [
      | then-is_marked+in_ok-insert w ↦
          subst (λ l. MarkedBefore us c.args.marks.now (k + 1) l) (sym (referenced-insert_key c.loop-number.found.keys uid) ∙ ap referenced (sym w.in_ok-insert.ensures.keys) ∙ ap (λ v. referenced v.keys) (sym w.found-is))
          (marked-take us c.args.marks.now k (referenced c.loop-number.found.keys) c.loop-number.invariant (sym c.is_marked.ensures ∙ w.if-is_marked.true) uid.now is)
      | else-is_marked w ↦
          subst (λ l. MarkedBefore us c.args.marks.now (k + 1) l) (ap (λ v. referenced v.keys) (sym w.found-is))
          (marked-skip us c.args.marks.now k (referenced c.loop-number.found.keys) c.loop-number.invariant (sym c.is_marked.ensures ∙ w.if-is_marked.false))
    ]

pub returns : goal.returns
returns c = λ x. (
  λ h. let (i, lt, num, t) = (c.loop-number.invariant x).0 h in (i, num.0, num, t),
  λ (i, lt, num, t). (c.loop-number.invariant x).1 (i, (let l = length-referenced c.args.uids.now in omega (arith, l, lt, c.loop-number-test.false)), num, t),
)
