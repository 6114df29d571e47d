use Rattle.std.proofs.Common.{◌∙◌, refl, ap}
use Rattle.std.specs.BTreeSet.{insert_key}
use Rattle.values.specs.Names.{uid_cmp}
use Rattle.ancestor_closure.proofs.OneByOne.{enters_one, entered_one, is_own}
use Rattle.ancestor_closure.proofs.cycles.enter.Goals as goal

pub returns-in_ok-insert-clause-enters : goal.returns-in_ok-insert-clause-enters
returns-in_ok-insert-clause-enters c =
    let e = c.args.entity.now in
    let own = is_own (λ _. e.1.items) e.0 e.0 c.deref-2.result.now c.deref.result.now c.is_in.result refl c.deref-2.ensures c.deref.ensures.value c.requires c.is_in.ensures in
    enters_one e c.args.cyclic.now.keys c.insert.new.self.keys (own.0 c.if-is_in.true)
    (c.in_ok-insert.ensures.keys ∙ ap (insert_key uid_cmp c.args.cyclic.now.keys) c.in_ok-share.ensures)

pub returns-in_ok-insert-clause-entered : goal.returns-in_ok-insert-clause-entered
returns-in_ok-insert-clause-entered c = λ _.
    entered_one c.args.entity.now c.args.cyclic.now.keys c.insert.new.self.keys
    (c.in_ok-insert.ensures.keys ∙ ap (insert_key uid_cmp c.args.cyclic.now.keys) c.in_ok-share.ensures)
