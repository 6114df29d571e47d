-- Defines the contents of a store: the policies and the entities whose body is a text, each with its name, in the
-- order of the names.
-- Rules of this product: a name with a tombstone is not among them.
use Rattle.std.specs.Prelude.{ℕ, List, [], ◌∷◌, Option, Some, None, option_and_then}
use Rattle.std.specs.List.{flat_map}
use Rattle.std.specs.FinMap.{get}
use Rattle.values.specs.declared.name.Name.{Name}
use Rattle.values.specs.declared.name.Name.TheVariants.{Policy, Entity}
use Rattle.values.specs.declared.entity_uid.EntityUid.{EntityUid}
use Rattle.stamped_store.specs.Store.{Store, updates}

-- `text_under s name` is the text of `name` in the store `s`, if it has one.
abbrev pub text_under : Store → Name → Option (List ℕ)
text_under s name = option_and_then (λ e. e.body) (get s name)

-- `policy_text name body` is the list of one pair, the id in `name` and the text in `body`, if `name` is the name of a
-- policy and `body` has a text; else `[]`.
abbrev pub policy_text : Name → Option (List ℕ) → List (List ℕ × List ℕ)
policy_text (Policy id) (Some text) = (id, text) ∷ []
policy_text (Policy id) None = []
policy_text (Entity uid) body = []

-- `entity_text name body` is the list of one pair, the uid in `name` and the text in `body`, if `name` is the name of
-- an entity and `body` has a text; else `[]`.
abbrev pub entity_text : Name → Option (List ℕ) → List (EntityUid × List ℕ)
entity_text (Entity uid) (Some text) = (uid, text) ∷ []
entity_text (Entity uid) None = []
entity_text (Policy id) body = []

-- `policies_of s` are the policies of the store `s`, each an id and a text, ascending by id.
abbrev pub policies_of : Store → List (List ℕ × List ℕ)
policies_of s = flat_map (λ u. policy_text u.0 u.1.body) (updates s)

-- `entities_of s` are the entities of the store `s`, each a uid and a text, ascending by uid.
abbrev pub entities_of : Store → List (EntityUid × List ℕ)
entities_of s = flat_map (λ u. entity_text u.0 u.1.body) (updates s)
