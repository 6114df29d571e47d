-- Defines the search for the part of a value that is at fault, as a function on JSON.
use Rattle.std.specs.Prelude.{ℕ, ◌+◌, List, [], ◌∷◌, Bool, not, ◌||◌}
use Rattle.std.specs.Prelude.{is_some, Option, Some, None, Result, Ok, Err, if◌then◌else◌}
use Rattle.serde_json.specs.Data.{Data, Items, no_items, item, Members, no_members, member}
use Rattle.serde_json.specs.Data as json
use Rattle.serde_json.specs.Find.{get, as_object}
use Rattle.schema_types.specs.Cedar.{Cedar, CedarFields, no_fields, field}
use Rattle.entities.specs.declared.fault.EntityFault.{EntityFault}
use Rattle.entities.specs.Parts.{element_of, fields_in, declared_at}
use Rattle.entities.specs.EntityForms.{or_empty}
use Rattle.entities.specs.Typing.{typed_value, with_or}
use Rattle.explanations.specs.Steps.{Step, Key, Index}

-- `or_else o p` is `o`, or `p` if `o` is `None`.
abbrev pub or_else : {A : Type 0} → Option A → Option A → Option A
or_else (Some a) p = Some a
or_else None p = p

-- `or_unmet met key later` is `key`, the key of a part, if `met` is false, that is if the part does not have its form;
-- else `later`.
abbrev pub or_unmet : Bool → List ℕ → Option (List ℕ) → Option (List ℕ)
or_unmet met key later = if met then later else Some key

-- `under step o` is the path `o` with `step` in front.
abbrev pub under : Step → Option (List Step) → Option (List Step)
under step (Some path) = Some (step ∷ path)
under step None = None

-- `whole_path r` is the empty path, which leads to the JSON value as a whole, if the parsing result `r` is an error;
-- else `None`.
abbrev pub whole_path : {A : Type 0} → Result A EntityFault → Option (List Step)
whole_path (Ok v) = None
whole_path (Err f) = Some []

-- `absent_path fs d` is the path to the first required key of the fields `fs` that `d` lacks, if there is one.
abbrev pub absent_path : CedarFields → Data → Option (List Step)
absent_path no_fields d = None
absent_path (field k t r fs) d = if not r || is_some (get k d) then absent_path fs d else Some (Key k ∷ [])

-- `value_path t d` is the path from `d` to the part at fault under the type `t`. `item_path t i ds` is the path from an
-- array with the items `ds`, counted from `i`, to the part at fault of the first item that `t` rejects.
-- `member_path fs ms` is the path from an object with the members `ms` to the part at fault of the first member that
-- the fields `fs` reject. Each is `None` if no part is at fault.
unfoldable mutual
  pub value_path : Cedar → Data → Option (List Step)
  value_path t json.null = whole_path (typed_value t json.null)
  value_path t (json.boolean b) = whole_path (typed_value t (json.boolean b))
  value_path t (json.number n) = whole_path (typed_value t (json.number n))
  value_path t (json.string s) = whole_path (typed_value t (json.string s))
  value_path t (json.array ds) = with_or (element_of t) (λ e. item_path e 0 ds) (Some [])
  value_path t (json.object ms) = with_or (fields_in t)
      (λ fs. or_else (member_path fs ms) (absent_path fs (json.object ms)))
      (whole_path (typed_value t (json.object ms)))

  pub item_path : Cedar → ℕ → Items → Option (List Step)
  item_path t i no_items = None
  item_path t i (item d ds) = or_else (under (Index i) (value_path t d)) (item_path t (i + 1) ds)

  pub member_path : CedarFields → Members → Option (List Step)
  member_path fs no_members = None
  member_path fs (member k d ms) =
      or_else (under (Key k) (with_or (declared_at k fs) (λ t. value_path t d) (Some []))) (member_path fs ms)

-- `record_path t d` is the path from `d`, parsed as attributes or as a context by the type `t`, to the part at fault.
unfoldable pub record_path : Cedar → Data → Option (List Step)
record_path t d = with_or (fields_in t)
    (λ fs. with_or (as_object d) (λ ms. or_else (member_path fs ms) (absent_path fs d)) (Some []))
    (Some [])

-- `path_under key o d` is the path from `d` to the part at fault in its member at `key` under the type in `o`, if there
-- is one. An absent member counts as an empty object. The path is `None` if `o` is `None`.
abbrev pub path_under : List ℕ → Option Cedar → Data → Option (List Step)
path_under key o d = under (Key key) (with_or o (λ t. record_path t (or_empty (get key d))) None)
