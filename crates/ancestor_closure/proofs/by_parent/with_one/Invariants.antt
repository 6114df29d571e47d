use Rattle.std.proofs.Common.{◌≡◌, List, ◌++◌, take}
use Rattle.std.specs.BTreeSet.{insert_key}
use Rattle.values.specs.declared.entity_uid.EntityUid.{EntityUid}
use Rattle.values.specs.Names.{uid_cmp}
use Rattle.ancestor_closure.specs.inner.Placing.{left_of}
use Rattle.ancestor_closure.proofs.by_parent.with_one.Given as goal

-- what was added and what is left is the whole list, with the one at its place
abbrev pub invariant-loop-uid : goal.invariant-loop-uid
invariant-loop-uid l = (ys : List EntityUid) → l.all.items ++ left_of l.is_placed l.one ys ≡ insert_key uid_cmp (take l.uid-index l.list ++ ys) l.one
