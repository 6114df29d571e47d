-- Defines how the store that the code fills agrees with the entities of an array, and the lines of answers over entity
-- data.
use Rattle.std.specs.Prelude.{◌≡◌, ℕ, Bool, not, List, [], ◌∷◌, ◌++◌, Some, Result, Ok, Err}
use Rattle.std.specs.List.{list_any}
use Rattle.serde_json.specs.Data.{Data}
use Rattle.values.specs.declared.entity_uid.EntityUid.{EntityUid}
use Rattle.values.specs.declared.request.Request.{Request}
use Rattle.json_words.specs.ReadsAs.{◌>>=◌, demand, Fails}
use Rattle.entity_data.specs.ancestor_search.Decided.{is_same}
use Rattle.entity_data.specs.evaluator.Operators.{Entities}
use Rattle.entity_data.specs.declared.entity.Entity.{Entity}
use Rattle.entity_data.specs.Entities.{with_actions, entity_data_in}
use Rattle.entity_data.specs.EntityStores.{Entries, kept_in}
use Rattle.answer_lines.specs.authoriser.declared.answer.Answer.{Answer}
use Rattle.answer_lines.specs.authoriser.Answers.{NamedPolicy}
use Rattle.answer_lines.specs.declared.refusal.Refusal.{Refusal}
use Rattle.answer_lines.specs.Refusals.{no_memory, bad_shape}
use Rattle.answer_lines.specs.Lines.{answer_line}
use Rattle.decision_texts.specs.Settings.{Reading}
use Rattle.decision_texts.specs.EntityArrays.{placed}
use Rattle.decision_texts.specs.Requests.{IsRequestText}
use Rattle.decision_texts.specs.Decisions.{stated, IsAnswerTo}

-- `Holds store es` holds if `store` has exactly the data of the entities `es`, each under its uid.
abbrev pub Holds : Entries → List Entity → Type 0
Holds store es = (q : EntityUid) → kept_in store q ≡ stated es q

-- `entity_data_stored r store` is the entity data that evaluation uses: the entities of `store`, and the declared
-- actions of `r`.
abbrev pub entity_data_stored : Reading → Entries → Entities
entity_data_stored r store = entity_data_in (with_actions r.actions (kept_in store))

-- `is_among uid es` tests whether any of the entities `es` has the uid `uid`.
abbrev pub is_among : EntityUid → List Entity → Bool
is_among uid es = list_any (λ e. is_same e.uid uid) es

-- `entity_after r es place d` is the entity that `d` describes in the setting `r`, or an error; `d` is the item of an
-- array at the index `place`, after items that describe the entities `es`. The error is that of `d` itself, else 30
-- (bad shape) if one of `es` has the same uid.
unfoldable pub entity_after : Reading → List Entity → ℕ → Data → Result Entity Refusal
entity_after r es place d = do
  entity ← placed place (r.entity d)
  first ← demand (bad_shape (Some place)) (not (is_among entity.uid es))
  Ok entity

-- `KeepsNext r es place d result store` holds if adding an entity to a store of the entities `es` may give `result` and
-- the new store `store`. The entity is that in `entity_after r es place d`; an error in `result` is the error in
-- `entity_after r es place d`, or `NoMemory`.
abbrev pub KeepsNext : {A : Type 0} → Reading → List Entity → ℕ → Data → Result A Refusal → Entries → Type 0
KeepsNext r es place d (Ok x) store = (e : Entity) × (entity_after r es place d ≡ Ok e) × Holds store (es ++ e ∷ [])
KeepsNext r es place d (Err refusal) store = Fails no_memory refusal (entity_after r es place d)

-- `Keeps read store` holds if `read` is a list of entities, not an error, and `store` has exactly these entities.
pub record Keeps (read : Result (List Entity) Refusal) (store : Entries) : Type 0 where
  pub entities : List Entity
  pub are : read ≡ Ok entities
  pub held : Holds store entities

-- `ReadsStore result read` holds if `result` is a store of exactly the entities in `read`, the error in `read`, or
-- `NoMemory`.
abbrev pub ReadsStore : Result Entries Refusal → Result (List Entity) Refusal → Type 0
ReadsStore (Ok store) read = Keeps read store
ReadsStore (Err refusal) read = Fails no_memory refusal read

-- `IsLineIn policies W asked line` holds if `line` is the line of the answer to the request `asked` over `policies` and
-- the entity data `W`.
pub record IsLineIn (policies : List NamedPolicy) (W : Entities) (asked : Request) (line : List ℕ) : Type 0 where
  pub answer : Answer
  pub answers : IsAnswerTo policies W asked answer
  pub line_is : line ≡ answer_line answer

-- `IsLineTo r policies W request line` holds if `line` is the line of the answer to the request that the text `request`
-- describes in the setting `r`, over `policies` and the entity data `W`.
pub record IsLineTo (r : Reading) (policies : List NamedPolicy) (W : Entities) (request line : List ℕ) : Type 0 where
  pub asked : Request
  pub request_stated : IsRequestText r request asked
  pub told : IsLineIn policies W asked line
