-- The effect of one step of a site on its store: nothing is joined, an update that it issues is joined, or updates
-- that were sent to it are. And what is issued may be sent to any site.
use Rattle.std.specs.Prelude.{◌≡◌, ◌<◌, ◌∷◌, ◌++◌, [], ℕ, zero, suc, List, take, Option, Some, None, IsSome}
use Rattle.std.specs.Prelude.{option_and_then, Result, Ok, Err, Contains, refl}
use Rattle.std.specs.List.{AllByRecursion}
use Rattle.std.specs.Str.{IsUtf8}
use Rattle.std.specs.FinMap.{get}
use Rattle.std.proofs.Common.{sym, ap, ◌∙◌, subst, arith, append-nil}
use Rattle.std.proofs.lemmas.List.Elements.{All-contains_itself, All-weaker, recursion_from_All}
use Rattle.serde_json.specs.Data.{Data}
use Rattle.entities.specs.Texts.{HasUtf8}
use Rattle.json_words.specs.Json.{json_of}
use Rattle.values.specs.declared.name.Name.{Name}
use Rattle.values.specs.declared.name.Name.TheVariants as name
use Rattle.entity_uids.specs.Laws.{UidsAreFound}
use Rattle.site_store.specs.schema.Schemas.{StatedSchema}
use Rattle.site_store.specs.schema.WellFormed.{IsWellFormed}
use Rattle.site_store.specs.entity_data.declared.entity.Entity.{Entity}
use Rattle.site_store.specs.policy_grammar.declared.policy.Policy.{Policy}
use Rattle.values.specs.declared.entity_uid.EntityUid.{EntityUid}
use Rattle.entities.specs.declared.fault.EntityFault.{EntityFault}
use Rattle.entities.specs.Canonical.{canonical_json, canonical_text}
use Rattle.entities.specs.Entities.{entity_stated_in}
use Rattle.entities.specs.CanonicalLaws.{JsonTextsAreUtf8, IsReadFrom, CanonicalTextsAreJson}
use Rattle.sync_messages.specs.Laws.{CanonicalTextsAreRead}
use Rattle.site_store.specs.stamped_store.declared.entry.Stamp.{Stamp}
use Rattle.site_store.specs.stamped_store.Contents.{text_under}
use Rattle.site_store.specs.stamped_store.EntryOrder.{PlainEntry}
use Rattle.site_store.specs.stamped_store.Greatest.{greatest_count}
use Rattle.site_store.specs.stamped_store.Store.{Store, Update, updates, store_of, issue, issued, policy_name}
use Rattle.site_store.specs.stamped_store.Store.{entity_name}
use Rattle.sync_messages.specs.sync_format.Summaries.{HasTexts, IsName, IsStamped}
use Rattle.sync_messages.specs.sync_format.Messages.{updates_stated}
use Rattle.sync_messages.specs.sync_format.Updates.{stamped, IsValid}
use Rattle.site.specs.Admitted.{IsPolicyUnder, IsEntityUnder, IsPolicyId, entity_stated}
use Rattle.site.specs.Steps.{most_count, Records}
use Rattle.site.specs.declared.outcome.Taken.TheVariants.{All, Short}
use Rattle.site.proofs.JudgingLemmas.{json_utf8}
use Rattle.site.proofs.Paths.{entity_path}
use Rattle.site.specs.Inputs.{Input}
use Rattle.site.specs.Inputs as input
use Rattle.site.specs.declared.reply.Reply.{Reply}
use Rattle.site.specs.declared.reply.Reply.TheVariants as reply
use Rattle.site.specs.Runs.{Step, Run, took_by, took, update_of_entity, update_of_deletion, updates_of_message}
use Rattle.site_store.specs.stamped_store.SiteNames.{IsSiteName}
use Rattle.site.specs.Sites.{SiteName}
use Rattle.sync_messages.specs.sync_format.declared.fault.MessageFault.{MessageFault}
use Rattle.plain.proofs.Members.{Contains-here, Contains-there, Contains-none}
use Rattle.site_store.proofs.of_stamped_store.GreatestsBy.{by_place}
use Rattle.site.proofs.Growing.{Has}
use Rattle.sync_messages.specs.sync_format.Texts.{IsText}

-- an update that may be sent: its name and stamp are in their ranges, its text may be read under its name, and its
-- texts are UTF-8
pub record IsFit (schema : StatedSchema) (u : Update) : Type 0 where
  pub in_range : IsStamped (stamped u)
  pub readable : IsValid (IsPolicyUnder schema) (IsEntityUnder schema) u
  pub text : IsText u

-- the texts of the uid in a canonical JSON
uid_texts : (e : Entity) → HasUtf8 (canonical_json e) → HasTexts (name.Entity e.uid)
uid_texts e (_, _, (_, _, (_, (_, id, (_, type_name, _)), _))) = (type_name, id)

-- what a local command may leave, with the updates that it issued
pub data Comes (schema : StatedSchema) (n : SiteName) (s t : Store) : List Update → Type 0 where
  nothing : t ≡ s → Comes schema n s t []
  one : (name : Name) (body : Option (List ℕ)) (stamp : Stamp) → stamp ≡ issue s n
      → t ≡ store_of (updates s ++ (name, issued stamp body) ∷ []) → IsFit schema (name, issued stamp body)
      → Comes schema n s t ((name, issued stamp body) ∷ [])

-- by the theorems of lower crates
pub record CommandLaws (schema : StatedSchema) : Type 0 where
  pub left : (n : SiteName) (s : Store) (is : List Input) (rs : List Reply) (t : Store) → Run schema n s is rs t
      → t ≡ store_of (updates s ++ took schema is rs)
  pub own : (s : Store) → store_of (updates s) ≡ s
  pub uids : UidsAreFound
  pub utf8 : JsonTextsAreUtf8
  pub json : CanonicalTextsAreJson
  pub read : CanonicalTextsAreRead
  pub well_formed : IsWellFormed schema

module _ (schema : StatedSchema) (law : CommandLaws schema) where
  -- the store after a step, whatever the reply
  pub step_leaves : (n : SiteName) (s : Store) (i : Input) (r : Reply) (t : Store) → Step schema n s i r t
      → t ≡ store_of (updates s ++ took_by schema i r)
  step_leaves n s i r t h =
      law.left n s (i ∷ []) (r ∷ []) t (t, h, refl)
      ∙ ap (λ us. store_of (updates s ++ us)) (append-nil (took_by schema i r))

  pub unchanged : (s t : Store) → t ≡ store_of (updates s ++ []) → t ≡ s
  unchanged s t h = h ∙ ap store_of (append-nil (updates s)) ∙ law.own s

  -- ---- what is issued is fit to be sent
  stamp_in_range : (n : SiteName) (s : Store) (name : Name) (stamp : Stamp) → IsSiteName n → greatest_count s < most_count
      → stamp ≡ issue s n → IsName name → IsStamped (name, stamp)
  stamp_in_range n s name stamp site clock next named = subst (λ (x : Stamp). IsStamped (name, x)) (sym next) (record {
    name = named;
    counted = omega arith;
    bounded = omega arith;
    site = site;
  })

  -- a name whose update is fit gets a tombstone
  module _ (n : SiteName) (site : IsSiteName n) (s t : Store) where
    put_policy : (id text : List ℕ) (put_stamp : Stamp) → IsPolicyId id → IsUtf8 text
        → ((p : Policy) × IsPolicyUnder schema id text p) → Records n s (policy_name id) (Some text) put_stamp t
        → Comes schema n s t ((policy_name id, issued put_stamp (Some text)) ∷ [])
    put_policy id text stamp named is_text reads h = one (policy_name id) (Some text) stamp h.next h.store (record {
      in_range = stamp_in_range n s (policy_name id) stamp site h.clock h.next named.sized;
      readable = reads;
      text = record { name = named.utf8; body = is_text };
    })

    put_entity : (d : Data) (bytes : List ℕ) (e : Entity) (stamp : Stamp) → json_of bytes ≡ Some d → entity_stated_in schema d ≡ Ok e
        → Records n s (entity_name e.uid) (Some (canonical_text e)) stamp t
        → Comes schema n s t ((entity_name e.uid, issued stamp (Some (canonical_text e))) ∷ [])
    put_entity d bytes e stamp stands states h =
        let from : IsReadFrom schema bytes e = record { json = d; stands = stands; states = states } in
        let again : json_of (canonical_text e) ≡ Some (canonical_json e) = law.json schema bytes e law.well_formed from in
        one (entity_name e.uid) (Some (canonical_text e)) stamp h.next h.store (record {
          in_range = stamp_in_range n s (entity_name e.uid) stamp site h.clock h.next (entity_path law.uids schema d e states);
          readable = (e, law.read schema bytes e law.well_formed from);
          text = record {
            name = uid_texts e (law.utf8 (canonical_text e) (canonical_json e) again);
            body = json_utf8 (canonical_text e) (canonical_json e) again;
          };
        })

    module _ (fit : (u : Update) → Has s u → IsFit schema u) where
      named_by : (q : Name) (a : Option PlainEntry) → get s q ≡ a → IsSome (option_and_then (λ (e : PlainEntry). e.body) a)
          → (e : PlainEntry) × IsFit schema (q, e)
      named_by q None is h = absurd cc
      named_by q (Some e) is h = (e, fit (q, e) is)

      delete : (q : Name) (stamp : Stamp) → IsSome (text_under s q) → Records n s q None stamp t
          → Comes schema n s t ((q, issued stamp None) ∷ [])
      delete q stamp there h =
          let old = (named_by q (get s q) refl there).1 in
          one q None stamp h.next h.store (record {
            in_range = stamp_in_range n s q stamp site h.clock h.next old.in_range.name;
            readable = nothing_read q;
            text = record { name = old.text.name; body = tt };
          })
        where
          nothing_read : (x : Name) → IsValid (IsPolicyUnder schema) (IsEntityUnder schema) (x, issued stamp None)
          nothing_read (name.Policy id) = tt
          nothing_read (name.Entity uid) = tt

      -- ---- the four commands
      pub policy_put : (id text : List ℕ) (r : Reply) → Step schema n s (input.PutPolicy id text) r t
          → Comes schema n s t (took_by schema (input.PutPolicy id text) r)
      policy_put id text (reply.Put (Ok put)) h = put_policy id text put.stamp h.1.named h.1.utf8 (h.0, h.1.reads) h.3
      policy_put id text (reply.Put (Err f)) h = nothing (unchanged s t (step_leaves n s (input.PutPolicy id text) (reply.Put (Err f)) t h))
      policy_put id text (reply.Stamped r) h = absurd h
      policy_put id text (reply.Taken r) h = absurd h
      policy_put id text (reply.Answered r) h = absurd h
      policy_put id text (reply.Found r) h = absurd h
      policy_put id text (reply.Written r) h = absurd h

      pub policy_deleted : (id : List ℕ) (r : Reply) → Step schema n s (input.DeletePolicy id) r t
          → Comes schema n s t (took_by schema (input.DeletePolicy id) r)
      policy_deleted id (reply.Put r) h = absurd h
      policy_deleted id (reply.Stamped (Ok stamp)) h = delete (policy_name id) stamp h.1.0 h.1.1
      policy_deleted id (reply.Stamped (Err f)) h = nothing (unchanged s t (step_leaves n s (input.DeletePolicy id) (reply.Stamped (Err f)) t h))
      policy_deleted id (reply.Taken r) h = absurd h
      policy_deleted id (reply.Answered r) h = absurd h
      policy_deleted id (reply.Found r) h = absurd h
      policy_deleted id (reply.Written r) h = absurd h

      pub entity_deleted : (bytes : List ℕ) (r : Reply) → Step schema n s (input.DeleteEntity bytes) r t
          → Comes schema n s t (took_by schema (input.DeleteEntity bytes) r)
      entity_deleted bytes (reply.Put r) h = absurd h
      entity_deleted bytes (reply.Stamped (Ok stamp)) h =
          subst (λ (x : Option EntityUid). Comes schema n s t (update_of_deletion stamp x)) (sym h.1)
          (delete (entity_name h.0) stamp h.2.0 h.2.1)
      entity_deleted bytes (reply.Stamped (Err f)) h = nothing (unchanged s t (step_leaves n s (input.DeleteEntity bytes) (reply.Stamped (Err f)) t h))
      entity_deleted bytes (reply.Taken r) h = absurd h
      entity_deleted bytes (reply.Answered r) h = absurd h
      entity_deleted bytes (reply.Found r) h = absurd h
      entity_deleted bytes (reply.Written r) h = absurd h

    abbrev given : {A : Type 0} → A → Result A EntityFault
    given x = Ok x

    -- the JSON that states an entity
    stated_json : (bytes : List ℕ) (o : Option Data) (e : Entity) → json_of bytes ≡ o → entity_stated schema o ≡ given e
        → (d : Data) × (json_of bytes ≡ Some d) × (entity_stated_in schema d ≡ Ok e)
    stated_json bytes None e is h = absurd cc
    stated_json bytes (Some d) e is h = (d, is, h)

    pub entity_put : (bytes : List ℕ) (r : Reply) → Step schema n s (input.PutEntity bytes) r t
        → Comes schema n s t (took_by schema (input.PutEntity bytes) r)
    entity_put bytes (reply.Put r) h = absurd h
    entity_put bytes (reply.Stamped (Ok stamp)) h =
        let json = stated_json bytes (json_of bytes) h.0 refl h.1 in
        subst (λ (x : Result Entity EntityFault). Comes schema n s t (update_of_entity stamp x)) (sym h.1)
        (put_entity json.0 bytes h.0 stamp json.1 json.2 h.3)
    entity_put bytes (reply.Stamped (Err f)) h = nothing (unchanged s t (step_leaves n s (input.PutEntity bytes) (reply.Stamped (Err f)) t h))
    entity_put bytes (reply.Taken r) h = absurd h
    entity_put bytes (reply.Answered r) h = absurd h
    entity_put bytes (reply.Found r) h = absurd h
    entity_put bytes (reply.Written r) h = absurd h

-- ---- what a message brings
first_member : (k : ℕ) (us : List Update) (u : Update) → Contains (take k us) u → Contains us u
first_member zero us u h = Contains-none u h
first_member (suc k) [] u h = h
first_member (suc k) (v ∷ us) u h = by_place v (take k us) u h
    (λ same. subst (Contains (v ∷ us)) same (Contains-here v us))
    (λ later. Contains-there v us u (first_member k us u later))

pub from_message : (schema : StatedSchema) (bytes : List ℕ) (us : List Update) (r : Reply) → updates_stated schema.label bytes ≡ Ok us
    → (u : Update) → Contains (took_by schema (input.Take bytes) r) u → Contains us u
from_message schema bytes us (reply.Put r) is u h = Contains-none u h
from_message schema bytes us (reply.Stamped r) is u h = Contains-none u h
from_message schema bytes us (reply.Taken (Ok (All k))) is u h = subst (λ (x : Result (List Update) MessageFault). Contains (updates_of_message x) u) is h
from_message schema bytes us (reply.Taken (Ok (Short k))) is u h =
    first_member k us u (subst (λ (x : Result (List Update) MessageFault). Contains (take k (updates_of_message x)) u) is h)
from_message schema bytes us (reply.Taken (Err f)) is u h = Contains-none u h
from_message schema bytes us (reply.Answered r) is u h = Contains-none u h
from_message schema bytes us (reply.Found r) is u h = Contains-none u h
from_message schema bytes us (reply.Written r) is u h = Contains-none u h

-- ---- all updates of a store
pub all_of : (P : Update → Type 0) (us : List Update) → ((u : Update) → Contains us u → P u) → AllByRecursion P us
all_of P us h = recursion_from_All P us (All-weaker (Contains us) P h us (All-contains_itself us))
