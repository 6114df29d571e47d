-- Defines the JSON of those entries of a store whose names a summary lacks or has with a smaller stamp, and the members
-- of a message behind its entries.
use Rattle.std.specs.Prelude.{ℕ, List, [], ◌∷◌, Bool, Option, Some, codes, if◌then◌else◌}
use Rattle.std.specs.List.{flat_map}
use Rattle.json.specs.Token.{end_object}
use Rattle.json.specs.Written.{Written}
use Rattle.serde_json.specs.Data.{Data, number, unsigned, string}
use Rattle.entity_uids.specs.Tokens.{AppendsMember, AppendsTokens}
use Rattle.values.specs.declared.name.Name.{Name}
use Rattle.values.specs.Names.{name_cmp}
use Rattle.stamped_store.specs.declared.entry.Entry.{Entry}
use Rattle.stamped_store.specs.declared.entry.Stamp.{Stamp}
use Rattle.stamped_store.specs.Deltas.{Summary, is_unseen}
use Rattle.stamped_store.specs.JoinMaps.{value_at}
use Rattle.stamped_store.specs.Abstraction.{abstract_entries}
use Rattle.stamped_store.specs.Store.{Update}
use Rattle.sync_format.specs.Messages.{entry_json}

-- `missing_json_by known u` is the list of the JSON of the update `u`, if `known`, a summary's stamp for the name of
-- `u`, is absent or smaller; else it is empty.
abbrev pub missing_json_by : Option Stamp → Update → List Data
missing_json_by known u = if is_unseen known (Some u.1) then entry_json u ∷ [] else []

-- `is_new m u` tests whether the summary `m` lacks the name of the update `u` or has it with a smaller stamp.
abbrev pub is_new : Summary → Update → Bool
is_new m u = is_unseen (value_at name_cmp m u.0) (Some u.1)

-- `missing_json m u` is the list of the JSON of the update `u`, if the summary `m` lacks the name of `u` or has it with
-- a smaller stamp; else it is empty.
abbrev pub missing_json : Summary → Update → List Data
missing_json m u = if is_new m u then entry_json u ∷ [] else []

-- `all_missing_json name m es` is the list of the JSON of those entries of `es` whose names the summary `m` lacks or
-- has with a smaller stamp. Here `name` gives the name that a key represents.
abbrev pub all_missing_json : {K P : Type 0} → (K → Name) → Summary → List (K × Entry P) → List Data
all_missing_json name m es = flat_map (missing_json m) (abstract_entries name es)

-- `EndsMessage kind label old new` holds if the output `new` is `old` with the end of a message appended: the members
-- `kind`, `schema` and `version`, and the bracket that closes the object.
pub record EndsMessage (kind label : List ℕ) (old new : Written) : Type 0 where
  pub kinded : Written
  pub labelled : Written
  pub versioned : Written
  pub kind_is : AppendsMember old kinded (codes "kind") (string kind)
  pub label_is : AppendsMember kinded labelled (codes "schema") (string label)
  pub version_is : AppendsMember labelled versioned (codes "version") (number (unsigned 2))
  pub closed : AppendsTokens versioned new (end_object ∷ [])
