-- Defines the uids of the entries that have a text.
use Rattle.std.specs.Prelude.{List, [], ◌∷◌, Option, Some, None}
use Rattle.std.specs.List.{flat_map}
use Rattle.values.specs.declared.entity_uid.EntityUid.{EntityUid}
use Rattle.entity_hierarchy.specs.entity_data.declared.entity.Entity.{Entity}
use Rattle.stamped_store.specs.declared.entry.Entry.{Entry}
use Rattle.stamped_store.specs.declared.entry.ReadText.{ReadText}

-- `uid_with uid t` is the list of `uid` alone if `t` is a text, and the empty list if `t` is `None`.
abbrev pub uid_with : EntityUid → Option (ReadText Entity) → List EntityUid
uid_with uid None = []
uid_with uid (Some t) = uid ∷ []

-- `uids_with_text es` is the list of the uids of those entries of `es` that have a text.
abbrev pub uids_with_text : List (EntityUid × Entry Entity) → List EntityUid
uids_with_text es = flat_map (λ e. uid_with e.0 e.1.body) es
