-- Defines the relation between a store's policies and their index.
-- Source: Cedar reference guide 4.0, "Policies", for what a policy is.
-- Rules of this product: the index has, for each id, exactly the parsed policy of the store's entry, and none for a
-- deleted name.
use Rattle.std.specs.Prelude.{◌≡◌, ℕ, List, Option, option_map, option_and_then}
use Rattle.std.specs.declared.alloc.Global.{Global}
use Rattle.std.specs.declared.string.String.{String}
use Rattle.scope_index.specs.policy_grammar.declared.policy.Policy.{Policy}
use Rattle.scope_index.specs.Keys.{Kept, kept_at}
use Rattle.stamped_store.specs.declared.entry.Entry.{Entry}
use Rattle.stamped_store.specs.JoinMaps.{value_at_text}

-- A `PolicyEntries` is the list of a store's entries of policies.
abbrev pub PolicyEntries : Type 0
PolicyEntries = List (String Global × Entry Policy)

-- `policy_in e` is the parsed policy of the entry `e`; `None` if `e` is a tombstone.
abbrev pub policy_in : Entry Policy → Option Policy
policy_in e = option_map (λ t. t.read) e.body

-- `policy_at es id` is the parsed policy of the first entry for `id` in `es`. It is `None` if there is no such entry,
-- or if this entry is a tombstone.
abbrev pub policy_at : PolicyEntries → List ℕ → Option Policy
policy_at es id = option_and_then policy_in (value_at_text es id)

-- `AreIndexed es kept` holds if the index with the content `kept` has exactly the policies of the entries `es`, each
-- under its id.
abbrev pub AreIndexed : PolicyEntries → Kept → Type 0
AreIndexed es kept = (id : List ℕ) → kept_at kept id ≡ policy_at es id
