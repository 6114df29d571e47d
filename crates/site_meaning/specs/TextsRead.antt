-- Defines the parsed policies and entities that a store has with their texts.
use Rattle.std.specs.Prelude.{ℕ, List, [], ◌∷◌, Option, Some, None, is_some, string_bytes, option_and_then, option_map}
use Rattle.std.specs.List.{filter, flat_map}
use Rattle.std.specs.Map.{keys_of}
use Rattle.std.specs.declared.alloc.Global.{Global}
use Rattle.std.specs.declared.string.String.{String}
use Rattle.values.specs.declared.entity_uid.EntityUid.{EntityUid}
use Rattle.values.specs.Names.{uid_cmp}
use Rattle.entity_hierarchy.specs.policy_grammar.declared.policy.Policy.{Policy}
use Rattle.entity_hierarchy.specs.authoriser.Answers.{NamedPolicy}
use Rattle.entity_hierarchy.specs.entity_data.declared.entity.Entity.{Entity}
use Rattle.stamped_store.specs.declared.entry.Entry.{Entry}
use Rattle.stamped_store.specs.declared.entry.ReadText.{ReadText}
use Rattle.stamped_store.specs.JoinMaps.{value_at}

-- `policy_read id t` is the list of the one parsed policy of the text `t`, with the id `id`; it is empty if `t` is
-- `None`.
abbrev pub policy_read : List ℕ → Option (ReadText Policy) → List NamedPolicy
policy_read id None = []
policy_read id (Some t) = record { id = id; policy = t.read } ∷ []

-- `policies_read es` is the list of the parsed policies of the entries `es`, in their order.
abbrev pub policies_read : List (String Global × Entry Policy) → List NamedPolicy
policies_read es = flat_map (λ e. policy_read (string_bytes e.0) e.1.body) es

-- `entity_read body` is the parsed entity of the text `body`, or `None` for a tombstone.
abbrev pub entity_read : Option (ReadText Entity) → Option Entity
entity_read body = option_map (λ t. t.read) body

-- `entity_at es uid` is the parsed entity of the first entry for `uid` in `es`. It is `None` if there is no such entry,
-- or if this entry is a tombstone.
abbrev pub entity_at : List (EntityUid × Entry Entity) → EntityUid → Option Entity
entity_at es uid = option_and_then (λ e. entity_read e.body) (value_at uid_cmp es uid)

-- `uids_read es` lists the uids of the entries `es`, in their order, without those at which `entity_at es` is `None`.
abbrev pub uids_read : List (EntityUid × Entry Entity) → List EntityUid
uids_read es = filter (λ uid. is_some (entity_at es uid)) (keys_of es)
