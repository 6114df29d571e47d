-- Defines the theorem that a state or a delta describes exactly the updates of the store that it was written from.
-- Source: docs/formats.md, "Messages between sites".
-- Rules of this product: the updates of a written message are in the order of their names.
use Rattle.std.specs.Prelude.{◌≡◌, ℕ, List}
use Rattle.std.specs.List.{AllByRecursion}
use Rattle.std.specs.Str.{IsUtf8}
use Rattle.stamped_store.specs.Store.{Store, updates}
use Rattle.sync_format.specs.policy_grammar.declared.policy.Policy.{Policy}
use Rattle.sync_format.specs.declared.fault.MessageFault.{MessageFault}
use Rattle.sync_format.specs.declared.update.Update.{Update}
use Rattle.sync_format.specs.Messages.{state_text, delta_text}
use Rattle.sync_format.specs.Texts.{AreTexts}
use Rattle.sync_format.specs.Updates.{AreInRange, plain_updates}
use Rattle.validator.specs.schema.Schemas.{StatedSchema}
use Rattle.validator.specs.entity_data.declared.entity.Entity.{Entity}
use Rattle.sync_messages.specs.StatedMessages.{HasBody, DescribesMessage, RefusesMessage}

-- `HasValidUpdates s m` holds if each update of the store `m` is valid under the schema `s`, with its name, count and
-- site in their ranges: it is a tombstone, or its body is a text that can be parsed under `s` and its name.
pub record HasValidUpdates (s : StatedSchema) (m : Store) : Type 0 where
  pub in_range : AreInRange (updates m)
  pub have_bodies : AllByRecursion (HasBody s) (updates m)

-- `DescribesStore s bytes m` holds if `bytes`, as a message of the schema `s`, describe exactly the updates of the
-- store `m`, in the order of their names, each with the value of its text: they describe no other list of updates, and
-- are not rejected.
pub record DescribesStore (s : StatedSchema) (bytes : List ℕ) (m : Store) : Type 0 where
  pub read : List (Update Policy Entity)
  pub message : DescribesMessage s bytes read
  pub same : plain_updates read ≡ updates m
  pub only : (us : List (Update Policy Entity)) → DescribesMessage s bytes us → us ≡ read
  pub accepted : (fault : MessageFault) → RefusesMessage s bytes fault → ⊥

-- `StatesReadBack`: if each update of a store is valid under a schema, the state that is written of the store describes
-- exactly these updates under the schema. (The label and the strings of the updates are UTF-8, as all strings in the
-- code are.)
abbrev pub StatesReadBack : Type 0
StatesReadBack = (s : StatedSchema) (m : Store) → IsUtf8 s.label → AreTexts (updates m) → HasValidUpdates s m
    → DescribesStore s (state_text s.label m) m

-- `DeltasReadBack`: the same of the delta that is written of the store.
abbrev pub DeltasReadBack : Type 0
DeltasReadBack = (s : StatedSchema) (m : Store) → IsUtf8 s.label → AreTexts (updates m) → HasValidUpdates s m
    → DescribesStore s (delta_text s.label m) m
