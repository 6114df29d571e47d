-- Defines the outcome of three texts (policies, entities, a request) in a setting by relations on JSON, item by item:
-- the line of an answer, or the first error.
-- Source: Cedar reference guide 4.0, "Authorization" and "Entities and context: JSON format".
-- Rules of this product: the order of the errors. First comes the error of the file of policies, then that of a policy
-- which the setting rejects; then that of a text that is not an array of entities, then that of the first item that
-- describes no entity or repeats an earlier item's uid, at the item's index; then that of the request.
use Rattle.std.specs.Prelude.{◌≡◌, ℕ, List, [], ◌∷◌, ◌++◌, length, Contains, Option, Some, None}
use Rattle.std.specs.Prelude.{option_map}
use Rattle.std.specs.List.{AllZip}
use Rattle.serde_json.specs.Data.{Data, Items, array}
use Rattle.json_words.specs.Each.{list_of}
use Rattle.json_words.specs.Json.{json_of}
use Rattle.values.specs.declared.entity_uid.EntityUid.{EntityUid}
use Rattle.values.specs.declared.request.Request.{Request}
use Rattle.entity_data.specs.evaluator.Operators.{Entities}
use Rattle.entity_data.specs.declared.entity.Entity.{Entity}
use Rattle.entity_data.specs.Entities.{Actions}
use Rattle.answer_lines.specs.policy_grammar.declared.policy.Policy.{Policy}
use Rattle.answer_lines.specs.authoriser.declared.answer.Answer.{Answer}
use Rattle.answer_lines.specs.authoriser.Answers.{NamedPolicy, IsAnswer}
use Rattle.answer_lines.specs.declared.place.Place.TheVariants.{Index}
use Rattle.answer_lines.specs.declared.refusal.Refusal.{Refusal}
use Rattle.answer_lines.specs.Lines.{answer_line}
use Rattle.decision_texts.specs.Decisions.{ArePoliciesOf, ArePoliciesRefused, named_policies, IsInOrder}

-- A `StatedSetting` says by relations what a setting's texts describe, and with which codes they are rejected.
pub record StatedSetting : Type 1 where
  -- the policies of a file are admitted
  pub admits : List Policy → Type 0
  -- the policies of a file are not admitted, and this is the first error
  pub rejects : List Policy → Refusal → Type 0
  -- a value describes this entity
  pub describes_entity : Data → Entity → Type 0
  -- a value describes no entity, and its first error has this code
  pub rejects_entity : Data → ℕ → Type 0
  -- a value describes this request
  pub describes_request : Data → Request → Type 0
  -- a value describes no request, and its first error has this code
  pub rejects_request : Data → ℕ → Type 0
  -- the declared actions
  pub actions : Actions

-- `error_at index code` is the error with the code `code` at the index `index`; without a place if that is `None`.
abbrev pub error_at : Option ℕ → ℕ → Refusal
error_at index code = record { code = code; place = option_map Index index; within = None }

-- ---- the array of entities

-- `HasUid es uid` holds if one of the entities `es` has the uid `uid`.
abbrev pub HasUid : List Entity → EntityUid → Type 0
HasUid es uid = (e : Entity) × Contains es e × (e.uid ≡ uid)

-- `HaveOwnUids es` holds if no two of the entities `es` have the same uid.
abbrev pub HaveOwnUids : List Entity → Type 0
HaveOwnUids [] = Unit {0}
HaveOwnUids (e ∷ es) = ¬ HasUid es e.uid × HaveOwnUids es

-- `DescribesEntities s text es` holds if `text` is a JSON array whose items describe the entities `es` in the setting
-- `s`, index by index, and no two of these have the same uid.
pub record DescribesEntities (s : StatedSetting) (text : List ℕ) (es : List Entity) : Type 0 where
  pub items : Items
  pub json : json_of text ≡ Some (array items)
  pub described : AllZip s.describes_entity (list_of items) es
  pub own_uids : HaveOwnUids es

-- `RejectsItem s earlier d code` holds if the item `d` of an array is rejected with the code `code` in the setting `s`,
-- after items that describe the entities `earlier`: `d` describes no entity, or one whose uid one of `earlier` has
-- (30).
pub data RejectsItem (s : StatedSetting) (earlier : List Entity) (d : Data) : ℕ → Type 0 where
  no_entity : (code : ℕ) → s.rejects_entity d code → RejectsItem s earlier d code
  same_uid : (e : Entity) → s.describes_entity d e → HasUid earlier e.uid → RejectsItem s earlier d 30

-- `IsFirstRejected s items refusal` holds if one of the items `items` of an array is rejected in the setting `s`, those
-- before it describe entities no two of which have the same uid, and `refusal` is the item's error, at its index.
pub record IsFirstRejected (s : StatedSetting) (items : Items) (refusal : Refusal) : Type 0 where
  pub front : List Data
  pub rejected : Data
  pub back : List Data
  pub are : list_of items ≡ front ++ rejected ∷ back
  pub earlier : List Entity
  pub described : AllZip s.describes_entity front earlier
  pub own_uids : HaveOwnUids earlier
  pub code : ℕ
  pub has_code : RejectsItem s earlier rejected code
  pub refusal_is : refusal ≡ error_at (Some (length front)) code

-- `RejectsEntities s text refusal` holds if `text` describes no entities in the setting `s`, and `refusal` is the
-- error: 30 without a place if `text` is not a JSON array, else the error of the first rejected item.
pub data RejectsEntities (s : StatedSetting) (text : List ℕ) : Refusal → Type 0 where
  no_array : ((items : Items) → json_of text ≡ Some (array items) → ⊥) → RejectsEntities s text (error_at None 30)
  bad_item : (items : Items) (refusal : Refusal) → json_of text ≡ Some (array items)
      → IsFirstRejected s items refusal → RejectsEntities s text refusal

-- ---- the request

-- `DescribesRequestText s text q` holds if `text` is JSON that describes the request `q` in the setting `s`.
pub record DescribesRequestText (s : StatedSetting) (text : List ℕ) (q : Request) : Type 0 where
  pub value : Data
  pub json : json_of text ≡ Some value
  pub described : s.describes_request value q

-- `RejectsRequestText s text refusal` holds if `text` describes no request in the setting `s`, and `refusal` is the
-- error, without a place: 30 if `text` is not JSON, else the error of its value.
pub data RejectsRequestText (s : StatedSetting) (text : List ℕ) : Refusal → Type 0 where
  not_json : json_of text ≡ None → RejectsRequestText s text (error_at None 30)
  no_request : (d : Data) (code : ℕ) → json_of text ≡ Some d → s.rejects_request d code
      → RejectsRequestText s text (error_at None code)

-- ---- entity data

-- `IsDataOf actions es W` holds if `W` is the data of the entities `es` and the declared actions `actions`. A declared
-- action has its declared parents and no attributes, also if an entity has its uid; another entity has its own
-- attributes and parents; and no other uid has data.
pub record IsDataOf (actions : Actions) (es : List Entity) (W : Entities) : Type 0 where
  pub of_actions : (u : EntityUid) (parents : List EntityUid) → actions u ≡ Some parents
      → (W.stored u ≡ Some []) × (W.parents u ≡ parents)
  pub of_entities : (e : Entity) → Contains es e → actions e.uid ≡ None
      → (W.stored e.uid ≡ Some e.attrs) × (W.parents e.uid ≡ e.parents)
  pub of_others : (u : EntityUid) → actions u ≡ None → ¬ HasUid es u → (W.stored u ≡ None) × (W.parents u ≡ [])

-- ---- the three texts

-- `DescribesDecision s policies entities request line` holds if the texts `policies`, `entities` and `request` describe
-- policies that the setting `s` admits, entities and a request, and `line` is the line of Cedar's answer to the request
-- over these policies, in the order of their names, and the data of these entities.
pub record DescribesDecision (s : StatedSetting) (policies entities request line : List ℕ) : Type 0 where
  pub names : List (List ℕ)
  pub cores : List Policy
  pub file : ArePoliciesOf policies names cores
  pub admitted : s.admits cores
  pub stored : List Entity
  pub array_is : DescribesEntities s entities stored
  pub asked : Request
  pub request_is : DescribesRequestText s request asked
  pub known : Entities
  pub data_is : IsDataOf s.actions stored known
  pub ordered : List NamedPolicy
  pub order : IsInOrder (named_policies names cores) ordered
  pub answer : Answer
  pub answer_is : IsAnswer known asked ordered answer
  pub line_is : line ≡ answer_line answer

-- `RejectsDecision s policies entities request refusal` holds if `refusal` is the first error of the texts `policies`,
-- `entities` and `request` in the setting `s`, in this order; policies are parsed before any of them is checked.
pub data RejectsDecision (s : StatedSetting) (policies entities request : List ℕ) (refusal : Refusal) : Type 0 where
  bad_file : ArePoliciesRefused policies refusal → RejectsDecision s policies entities request refusal
  bad_policies : (names : List (List ℕ)) (cores : List Policy) → ArePoliciesOf policies names cores
      → s.rejects cores refusal → RejectsDecision s policies entities request refusal
  bad_entities : (names : List (List ℕ)) (cores : List Policy) → ArePoliciesOf policies names cores → s.admits cores
      → RejectsEntities s entities refusal → RejectsDecision s policies entities request refusal
  bad_request : (names : List (List ℕ)) (cores : List Policy) (stored : List Entity)
      → ArePoliciesOf policies names cores → s.admits cores → DescribesEntities s entities stored
      → RejectsRequestText s request refusal → RejectsDecision s policies entities request refusal
