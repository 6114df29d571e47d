-- Defines the runs of a site over relations between bytes and what they describe, the updates that runs apply, and the
-- stores that runs leave.
-- Source: docs/formats.md, "Messages between sites".
-- Rules of this product: a command applies an update if its reply has a stamp; a message applies its updates in their
-- order, all, or the first `k` if its reply is `Short(k)`, including those that lose to a greater entry; other inputs
-- and replies apply none.
use Rattle.std.specs.Prelude.{◌≡◌, ◌↔◌, ℕ, List, [], ◌∷◌, ◌++◌, take, Some, None, Ok, Contains}
use Rattle.json_words.specs.Json.{json_of}
use Rattle.values.specs.declared.entity_uid.EntityUid.{EntityUid}
use Rattle.site.specs.schema.Schemas.{StatedSchema, IsSchemaOf}
use Rattle.site.specs.entity_data.declared.entity.Entity.{Entity}
use Rattle.site.specs.entities.Canonical.{canonical_text}
use Rattle.site.specs.stamped_store.Store.{Store, Update, updates, store_of, IsStoreOf, issued}
use Rattle.site.specs.stamped_store.Store.{policy_name, entity_name}
use Rattle.site.specs.declared.outcome.Taken.TheVariants.{All, Short}
use Rattle.site.specs.Inputs.{Input}
use Rattle.site.specs.Inputs as input
use Rattle.site.specs.declared.reply.Reply.{Reply}
use Rattle.site.specs.declared.reply.Reply.TheVariants as reply
use Rattle.site.specs.Admitted.{JsonDescribes}
use Rattle.site.specs.Runs.{RunBy}
use Rattle.site.specs.Permitted.{ArePermittedReplies}
use Rattle.site.specs.entity_uids.Uids.{IsUid}
use Rattle.site.specs.entities.StatedEntities.{DescribesEntity}
use Rattle.site.specs.sync_messages.StatedUpdates.{DescribesUpdates}
use Rattle.site_theorems.specs.Steps.{described}

-- ---- runs

-- `IsRun schema n s is rs t` holds if a chain of steps, one for each of the inputs `is` with its reply in `rs`, leads
-- the site of `schema` named `n` from the store `s` to the store `t`.
abbrev pub IsRun : StatedSchema → List ℕ → Store → List Input → List Reply → Store → Type 0
IsRun schema n s is rs t = RunBy (described schema) n s is rs t

-- ---- the updates that runs apply

-- `Applies schema i r us` holds if `us` are the updates that the input `i` with the reply `r` applied at a site of
-- `schema`.
abbrev pub Applies : StatedSchema → Input → Reply → List Update → Type 0
Applies schema (input.PutPolicy id text) (reply.Put (Ok put)) us =
    us ≡ (policy_name id, issued put.stamp (Some text)) ∷ []
Applies schema (input.DeletePolicy id) (reply.Stamped (Ok stamp)) us = us ≡ (policy_name id, issued stamp None) ∷ []
Applies schema (input.PutEntity bytes) (reply.Stamped (Ok stamp)) us =
    (e : Entity) × JsonDescribes (DescribesEntity schema) (json_of bytes) e
    × (us ≡ (entity_name e.uid, issued stamp (Some (canonical_text e))) ∷ [])
Applies schema (input.DeleteEntity bytes) (reply.Stamped (Ok stamp)) us =
    (uid : EntityUid) × JsonDescribes IsUid (json_of bytes) uid × (us ≡ (entity_name uid, issued stamp None) ∷ [])
Applies schema (input.Take bytes) (reply.Taken (Ok (All k))) us = DescribesUpdates schema.label bytes us
Applies schema (input.Take bytes) (reply.Taken (Ok (Short k))) us =
    (all : List Update) × DescribesUpdates schema.label bytes all × (us ≡ take k all)
Applies schema _ _ us = us ≡ []

-- `Applied schema is rs us` holds if `us` are the updates that the inputs `is` with the replies `rs` applied, in their
-- order, at a site of `schema`.
abbrev pub Applied : StatedSchema → List Input → List Reply → List Update → Type 0
Applied schema [] [] us = us ≡ []
Applied schema [] (r ∷ rs) us = ⊥
Applied schema (i ∷ is) [] us = ⊥
Applied schema (i ∷ is) (r ∷ rs) us =
    (first : List Update) × (more : List Update) × Applies schema i r first × Applied schema is rs more
    × (us ≡ first ++ more)

-- ---- the stores that runs leave

-- `LeavesApplied schema s is rs t` holds if the inputs `is` with the replies `rs` applied exactly one list of updates
-- at a site of `schema`, and `t` is the join of the updates of `s` and of this list: at each name the greatest entry.
pub record LeavesApplied (schema : StatedSchema) (s : Store) (is : List Input) (rs : List Reply) (t : Store) : Type 0
  where
    pub us : List Update
    pub applied : Applied schema is rs us
    pub only : (vs : List Update) → Applied schema is rs vs → vs ≡ us
    pub greatest : IsStoreOf (updates s ++ us) t
    pub store : t ≡ store_of (updates s ++ us)

-- `RunsLeaveApplied`: each run of each site leaves the join of the updates that the site had and those that the run
-- applied.
abbrev pub RunsLeaveApplied : Type 0
RunsLeaveApplied = (schema : StatedSchema) (n : List ℕ) (s : Store) (is : List Input) (rs : List Reply) (t : Store)
    → IsRun schema n s is rs t → LeavesApplied schema s is rs t

-- `Holds schema us t` holds if some run of some site of `schema` leaves the store `t`, and `us` are the updates of the
-- first store, followed by those that the run applied.
pub record Holds (schema : StatedSchema) (us : List Update) (t : Store) : Type 0 where
  pub name : List ℕ
  pub first : Store
  pub inputs : List Input
  pub replies : List Reply
  pub run : IsRun schema name first inputs replies t
  pub more : List Update
  pub applied : Applied schema inputs replies more
  pub all : us ≡ updates first ++ more

-- `EqualUpdatesLeaveEqualStores`: sites of one schema that had and applied equal sets of updates hold equal stores,
-- whatever the order, the repeats and the grouping of the updates.
abbrev pub EqualUpdatesLeaveEqualStores : Type 0
EqualUpdatesLeaveEqualStores = (schema : StatedSchema) (us vs : List Update) (s t : Store) → Holds schema us s
    → Holds schema vs t → ((u : Update) → Contains us u ↔ Contains vs u) → s ≡ t

-- `RunsHavePermittedErrors`: under a schema that some bytes describe, each error of a policy in an answer of a run is
-- `EntityDoesNotExist` or `ArithBoundsError`.
abbrev pub RunsHavePermittedErrors : Type 0
RunsHavePermittedErrors = (bytes : List ℕ) (schema : StatedSchema) → IsSchemaOf bytes schema → (n : List ℕ) (s : Store)
    (is : List Input) (rs : List Reply) (t : Store) → IsRun schema n s is rs t → ArePermittedReplies rs
