-- Defines the search for the part of an entity that is at fault, as a function on data.
use Rattle.std.specs.Prelude.{ℕ, ◌+◌, List, Bool, not, ◌&&◌, Option, Some, None, codes, if◌then◌else◌}
use Rattle.serde_json.specs.Data.{Data, Items, no_items, item}
use Rattle.serde_json.specs.Find.{get}
use Rattle.values.specs.declared.entity_uid.EntityUid.{EntityUid}
use Rattle.entities.specs.entity_uids.Uids.{uid_in}
use Rattle.entities.specs.Typing.{with_or}
use Rattle.entities.specs.ancestor_search.Decided.{is_same}
use Rattle.schema_decisions.specs.schema.Schemas.{StatedSchema}
use Rattle.entities.specs.declared.fault.EntityFault.{EntityFault}
use Rattle.entities.specs.declared.fault.EntityFault.TheVariants.{BadShape, UnknownType, ActionEntity, TagsLeftOut}
use Rattle.entities.specs.declared.fault.EntityFault.TheVariants.{BadParent, SelfParent}
use Rattle.explanations.specs.Steps.{Step}
use Rattle.explanations.specs.EntityPaths.{to_key, to_parent, first_unmet, form_demands, items_at, uid_at, shape_at}
use Rattle.explanations.specs.inner.FoundPaths.{path_under}

-- `fits s uid parent` tests whether the entity `uid` may have the parent `parent` under the schema `s`.
abbrev pub fits : StatedSchema → EntityUid → EntityUid → Bool
fits s uid parent = not (is_same parent uid) && s.may_have_parent uid.type_name parent.type_name

-- `unfit_path s uid i ds` is the path to the first of the parents `ds`, counted from `i`, that `uid` may not have under
-- `s`; `None` if it may have all parents before the first item that is not a uid.
unfoldable pub unfit_path : StatedSchema → EntityUid → ℕ → Items → Option (List Step)
unfit_path s uid i no_items = None
unfit_path s uid i (item d ds) =
    with_or (uid_in d) (λ parent. if fits s uid parent then unfit_path s uid (i + 1) ds else Some (to_parent i)) None

-- `attributes_path s d` is the path to the part of the attributes of the entity `d` that is at fault, if there is one.
unfoldable pub attributes_path : StatedSchema → Data → Option (List Step)
attributes_path s d = path_under (codes "attrs") (shape_at s (get (codes "uid") d)) d

-- `parents_path s d` is the path to the first parent that the entity `d` may not have; `None` if there is no such
-- parent, or if an earlier parent or the uid of `d` does not parse.
unfoldable pub parents_path : StatedSchema → Data → Option (List Step)
parents_path s d = with_or (uid_at (get (codes "uid") d))
    (λ uid. unfit_path s uid 0 (items_at (get (codes "parents") d))) None

-- `path_of s d f` is the path to the part of the entity `d` that the error `f` is about.
abbrev pub path_of : StatedSchema → Data → EntityFault → Option (List Step)
path_of s d BadShape = first_unmet (form_demands d)
path_of s d UnknownType = Some (to_key (codes "uid"))
path_of s d ActionEntity = Some (to_key (codes "uid"))
path_of s d TagsLeftOut = Some (to_key (codes "tags"))
path_of s d BadParent = parents_path s d
path_of s d SelfParent = parents_path s d
path_of s d _ = attributes_path s d
