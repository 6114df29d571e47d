use Rattle.std.proofs.Common.{◌≡◌, ◌++◌, [], map, take, string_bytes}
use Rattle.fault_places.specs.Words.{names_or}
use Rattle.fault_places.proofs.NameLists.{separator_in}
use Rattle.fault_places.proofs.wording.push_list.Given as goal

-- the items up to here are appended
abbrev pub invariant-loop-item : goal.invariant-loop-item
invariant-loop-item g l =
    let ns = map g.T.Listed.words (take l.item-index l.items) in
    (string_bytes l.out ≡ string_bytes l.initial.out ++ names_or [] l.before ns) × (l.separator ≡ separator_in l.before ns)
