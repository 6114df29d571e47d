-- Defines the load of a file of policies and an array of entities into a site, and its errors.
-- Rules of this product: the policies are put first, each under its name in the file and with its own text from the
-- file; then the entities, in their order. The whole file is parsed before any of its policies is put, and the whole
-- array before any of its entities is put. A parsing error is the one that a decision over the same file or array
-- reports.
use Rattle.std.specs.Prelude.{◌≡◌, ℕ, List, [], ◌∷◌, length, map, Option, None, Some, option_and_then, option_map}
use Rattle.std.specs.Prelude.{Ok, Err}
use Rattle.serde_json.specs.Data.{Data}
use Rattle.serde_json.specs.Find.{as_array}
use Rattle.json_words.specs.Json.{json_of}
use Rattle.json_words.specs.Each.{list_of}
use Rattle.policy_grammar.specs.declared.policy.Policy.{Policy}
use Rattle.policy_grammar.specs.Cuts.{AreTextsOf}
use Rattle.schema_decisions.specs.schema.Schemas.{StatedSchema}
use Rattle.schema_decisions.specs.entity_data.declared.entity.Entity.{Entity}
use Rattle.site.specs.stamped_store.Store.{Store, updates}
use Rattle.site.specs.sync_format.Messages.{state_text, updates_stated}
use Rattle.schema_decisions.specs.answer_lines.declared.refusal.Refusal.{Refusal}
use Rattle.schema_decisions.specs.decision_texts.Decisions.{ArePoliciesOf, ArePoliciesRefused}
use Rattle.schema_decisions.specs.decision_texts.EntityArrays.{entities_of}
use Rattle.schema_decisions.specs.UnderSchema.{reading_under}
use Rattle.site_loading.specs.Puts.{Operation, policy_put, entity_put, AcceptsAll, RefusesFirst}

-- ---- policies

-- `AreNamedTexts bytes names texts` holds if `names` and `texts` are the names and the texts of the policies in the
-- file `bytes`, in their order.
pub record AreNamedTexts (bytes : List ℕ) (names texts : List (List ℕ)) : Type 0 where
  pub policies : List Policy
  pub file : ArePoliciesOf bytes names policies
  pub cut : AreTextsOf bytes texts
  pub as_many : length texts ≡ length names

-- `policy_puts names texts` is the list of the puts of each of `texts` under its name in `names`, up to the end of the
-- shorter list.
abbrev pub policy_puts : List (List ℕ) → List (List ℕ) → List Operation
policy_puts [] texts = []
policy_puts (name ∷ names) [] = []
policy_puts (name ∷ names) (text ∷ texts) = policy_put name text ∷ policy_puts names texts

-- ---- entities

-- `items_of bytes` is the list of the members of the JSON array `bytes`, or `None` if `bytes` are not a JSON array.
abbrev pub items_of : List ℕ → Option (List Data)
items_of bytes = option_map list_of (option_and_then as_array (json_of bytes))

-- ---- a file that may be absent

-- `LoadsIfNamed Loads s bytes t` holds if the file `bytes` leads from the store `s` to the store `t` by the relation
-- `Loads`, or the file is absent and `t` is `s`.
abbrev pub LoadsIfNamed : (Store → List ℕ → Store → Type 0) → Store → Option (List ℕ) → Store → Type 0
LoadsIfNamed Loads s None t = t ≡ s
LoadsIfNamed Loads s (Some bytes) t = Loads s bytes t

-- `RefusesIfNamed Refuses s bytes refusal` holds if the file `bytes` is present, and `refusal` is its error over the
-- store `s` by the relation `Refuses`.
abbrev pub RefusesIfNamed : (Store → List ℕ → Refusal → Type 0) → Store → Option (List ℕ) → Refusal → Type 0
RefusesIfNamed Refuses s None refusal = ⊥
RefusesIfNamed Refuses s (Some bytes) refusal = Refuses s bytes refusal

-- ---- for a site of the schema `schema`, named `n`

module _ (schema : StatedSchema) (n : List ℕ) where
  -- `LoadsPolicies s bytes t` holds if the site with the store `s` accepts all policies of the file `bytes`, and then
  -- has the store `t`.
  pub record LoadsPolicies (s : Store) (bytes : List ℕ) (t : Store) : Type 0 where
    pub names : List (List ℕ)
    pub texts : List (List ℕ)
    pub are : AreNamedTexts bytes names texts
    pub puts : AcceptsAll schema n s (policy_puts names texts) t

  -- `RefusesPolicies s bytes refusal` holds if `refusal` is the error of the file `bytes`, or of its first policy that
  -- the site, from the store `s`, rejects.
  pub data RefusesPolicies (s : Store) (bytes : List ℕ) (refusal : Refusal) : Type 0 where
    by_file : ArePoliciesRefused bytes refusal → RefusesPolicies s bytes refusal
    by_put : (names texts : List (List ℕ)) → AreNamedTexts bytes names texts
        → RefusesFirst schema n s 0 (policy_puts names texts) refusal → RefusesPolicies s bytes refusal

  -- `LoadsEntities s bytes t` holds if the site with the store `s` accepts all entities of the array `bytes`, and then
  -- has the store `t`.
  pub record LoadsEntities (s : Store) (bytes : List ℕ) (t : Store) : Type 0 where
    pub entities : List Entity
    pub read : entities_of (reading_under schema) bytes ≡ Ok entities
    pub items : List Data
    pub array : items_of bytes ≡ Some items
    pub puts : AcceptsAll schema n s (map entity_put items) t

  -- `RefusesEntities s bytes refusal` holds if `refusal` is the error of the array `bytes`, or of its first entity that
  -- the site, from the store `s`, rejects.
  pub data RefusesEntities (s : Store) (bytes : List ℕ) (refusal : Refusal) : Type 0 where
    by_array : entities_of (reading_under schema) bytes ≡ Err refusal → RefusesEntities s bytes refusal
    by_stored : (entities : List Entity) (items : List Data) → entities_of (reading_under schema) bytes ≡ Ok entities
        → items_of bytes ≡ Some items → RefusesFirst schema n s 0 (map entity_put items) refusal
        → RefusesEntities s bytes refusal

  -- `IsLoadedState s policies entities bytes` holds if the site, from the store `s`, accepts the file `policies` and
  -- then the array `entities`, if they are present, and `bytes` are the state of the store at the end. These bytes are
  -- parsed as the updates of that store.
  pub record IsLoadedState (s : Store) (policies entities : Option (List ℕ)) (bytes : List ℕ) : Type 0 where
    pub between : Store
    pub last : Store
    pub policies_put : LoadsIfNamed LoadsPolicies s policies between
    pub entities_put : LoadsIfNamed LoadsEntities between entities last
    pub bytes_are : bytes ≡ state_text schema.label last
    pub reads_back : updates_stated schema.label bytes ≡ Ok (updates last)

  -- `IsRefused s policies entities refusal` holds if, from the store `s`, `refusal` is the error of the file `policies`
  -- or, if that file is loaded or absent, of the array `entities`.
  pub data IsRefused (s : Store) (policies entities : Option (List ℕ)) (refusal : Refusal) : Type 0 where
    by_policies : RefusesIfNamed RefusesPolicies s policies refusal → IsRefused s policies entities refusal
    by_entities : (between : Store) → LoadsIfNamed LoadsPolicies s policies between
        → RefusesIfNamed RefusesEntities between entities refusal → IsRefused s policies entities refusal
