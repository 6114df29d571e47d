-- Defines the abstract view of the declared names of a schema.
use Rattle.std.specs.Prelude.{Bool}
use Rattle.std.specs.BTreeSet.{contains, contains_text}
use Rattle.values.specs.declared.entity_uid.EntityUid.{EntityUid}
use Rattle.values.specs.Names.{uid_cmp}
use Rattle.schema_types.specs.declared.names.Names.{Names}
use Rattle.schema_types.specs.Names.{Scope}

-- `scope_of n` tests for the full names of the common types and entity types that `n` declares.
abbrev pub scope_of : Names → Scope
scope_of n = record { commons = λ q. contains_text n.commons q; entities = λ q. contains_text n.entities q }

-- `is_action_of n u` tests whether `n` declares the action `u`.
abbrev pub is_action_of : Names → EntityUid → Bool
is_action_of n = λ u. contains uid_cmp n.actions u
