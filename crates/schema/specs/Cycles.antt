-- Defines cycles of a hierarchy.
-- Source: `memberOf` of the Cedar reference guide 4.0, "Schema JSON format".
-- Rules of this product: no action is its own ancestor.
use Rattle.values.specs.declared.entity_uid.EntityUid.{EntityUid}
use Rattle.ancestor_search.specs.Hierarchy.{Parents, IsOnCycle}

-- `HasCycle parents` holds if some entity of the hierarchy `parents` is its own ancestor.
abbrev pub HasCycle : Parents → Type 0
HasCycle parents = (u : EntityUid) × IsOnCycle parents u
