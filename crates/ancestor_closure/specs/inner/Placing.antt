-- Defines what is left to append while an ascending list is copied with one more entity inserted.
use Rattle.std.specs.Prelude.{Bool, true, false, List}
use Rattle.std.specs.BTreeSet.{insert_key}
use Rattle.values.specs.declared.entity_uid.EntityUid.{EntityUid}
use Rattle.values.specs.Names.{uid_cmp}

-- `left_of placed one xs` is `xs`, the rest of the list, if `one` is placed already (`placed`); else `xs` with `one`
-- inserted at its position, unless `xs` contains `one`.
abbrev pub left_of : Bool → EntityUid → List EntityUid → List EntityUid
left_of true one xs = xs
left_of false one xs = insert_key uid_cmp xs one
