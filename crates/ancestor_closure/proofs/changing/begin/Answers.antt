use Rattle.std.proofs.Common.{sym, subst}
use Rattle.std.specs.Prelude.{Contains, OnOk}
use Rattle.values.specs.declared.entity_uid.EntityUid.{EntityUid}
use Rattle.ancestor_closure.specs.Lists.{children_in, AddsChild, HasEntry}
use Rattle.ancestor_closure.specs.inner.OneChange.{Enters, ListsAscend, IsInOwn}
use Rattle.ancestor_closure.proofs.Following.{ok_always}
use Rattle.ancestor_closure.proofs.OneByOne.{adds_none}
use Rattle.ancestor_closure.proofs.changing.begin.Goals as goal

pub enter_all-requires : goal.enter_all-requires
enter_all-requires c = subst (λ l. ListsAscend l) (sym c.deref.ensures.value) c.requires.ascend

pub returns-in_err-enter_all-clause-adds : goal.returns-in_err-enter_all-clause-adds
returns-in_err-enter_all-clause-adds c = adds_none c.args.change.now.after.items c.args.change.now.uid (children_in c.args.relatives.now)

pub returns-in_err-enter_all-clause-enters : goal.returns-in_err-enter_all-clause-enters
returns-in_err-enter_all-clause-enters c = subst (λ l. Enters l c.args.cyclic.now.keys c.enter_all.new.cyclic.keys) c.deref.ensures.value c.enter_all.ensures.enters

pub add_to_all-requires : goal.add_to_all-requires
add_to_all-requires c = subst (λ l. (x : EntityUid) → Contains l x → HasEntry c.args.relatives.now x) (sym c.deref-2.ensures.value) c.requires.there

pub returns-clause-adds : goal.returns-clause-adds
returns-clause-adds c =
    subst (λ l. AddsChild l c.args.change.now.uid (children_in c.args.relatives.now) (children_in c.add_to_all.new.relatives)) c.deref-2.ensures.value c.add_to_all.ensures.adds

pub returns-clause-added : goal.returns-clause-added
returns-clause-added c =
    subst (λ l. OnOk c.add_to_all.result ((x : EntityUid) → Contains l x → Contains (children_in c.add_to_all.new.relatives x) c.args.change.now.uid)) c.deref-2.ensures.value c.add_to_all.ensures.added

pub returns-clause-enters : goal.returns-clause-enters
returns-clause-enters c = subst (λ l. Enters l c.args.cyclic.now.keys c.enter_all.new.cyclic.keys) c.deref.ensures.value c.enter_all.ensures.enters

pub returns-clause-entered : goal.returns-clause-entered
returns-clause-entered c =
    ok_always c.add_to_all.result (subst (λ l. (x : EntityUid) → IsInOwn l x → Contains c.enter_all.new.cyclic.keys x) c.deref.ensures.value c.in_ok-enter_all.ensures.entered)
