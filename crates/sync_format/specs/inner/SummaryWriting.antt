-- Defines the JSON of the stamps of a store's entries.
use Rattle.std.specs.Prelude.{List, map}
use Rattle.serde_json.specs.Data.{Data}
use Rattle.values.specs.declared.name.Name.{Name}
use Rattle.stamped_store.specs.declared.entry.Entry.{Entry}
use Rattle.stamped_store.specs.Deltas.{stamp_of}
use Rattle.stamped_store.specs.Abstraction.{abstract_entries}
use Rattle.sync_format.specs.Summaries.{stamp_json}

-- `stamps_json name es` is the list of the JSON of the names and stamps of the entries `es`, where `name` gives the
-- name that a key represents.
abbrev pub stamps_json : {K P : Type 0} → (K → Name) → List (K × Entry P) → List Data
stamps_json name es = map stamp_json (map (λ u. (u.0, stamp_of u.1)) (abstract_entries name es))
