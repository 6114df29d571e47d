-- Answers and cycles over a store, by two readings of its entities that agree.
use Rattle.std.proofs.Common.{◌≡◌, ℕ, List, Option, Some, None, Result, Ok, Err, refl, ap, subst}
use Rattle.std.specs.Prelude.{◌↔◌, option_and_then}
use Rattle.serde_json.specs.Data.{Data}
use Rattle.values.specs.declared.entity_uid.EntityUid.{EntityUid}
use Rattle.values.specs.declared.request.Request.{Request}
use Rattle.site.specs.policy_grammar.declared.policy.Policy.{Policy}
use Rattle.site.specs.authoriser.declared.answer.Answer.{Answer}
use Rattle.site.specs.schema.Schemas.{StatedSchema}
use Rattle.site.specs.entity_data.declared.entity.Entity.{Entity}
use Rattle.site.specs.entities.declared.fault.EntityFault.{EntityFault}
use Rattle.site.specs.entities.declared.fault.EntityFault.TheVariants.{BadShape}
use Rattle.site.specs.stamped_store.Store.{Store, entity_name}
use Rattle.site.specs.stamped_store.Contents.{text_under}
use Rattle.site.specs.site_meaning.StoreMeaning.{IsReadFrom, AreEntities, IsAnswerOver, MakesCycle}
use Rattle.site.specs.site_meaning.StoreMeaning.{MakesNoCycle}
use Rattle.site.specs.Admitted.{entity_stated, IsRequestOf, IsNoRequest, JsonDescribes, JsonRefused}
use Rattle.site.specs.entity_uids.Uids.{IsUid, IsRead, uid_in}
use Rattle.site.specs.entity_uids.Laws.{OneUid, UidsAreFound}
use Rattle.site.specs.entities.StatedEntities.{DescribesEntity, RefusesEntity}
use Rattle.site.specs.entities.StatedRequests.{DescribesRequest, RefusesRequest}
use Rattle.site.specs.entities.ParsingLaws.{EntitiesAreRead, RequestsAreRead}

-- ---- entities of a store

module _ (R S : EntityUid → List ℕ → Entity → Type 0)
    (f : (uid : EntityUid) (text : List ℕ) (e : Entity) → R uid text e → S uid text e) where
  read_as : (uid : EntityUid) (o : Option (List ℕ)) (e : Option Entity) → IsReadFrom (R uid) o e
      → IsReadFrom (S uid) o e
  read_as uid None None h = tt
  read_as uid None (Some e) h = h
  read_as uid (Some text) None h = h
  read_as uid (Some text) (Some e) h = f uid text e h

  are_as : (s : Store) (entities : EntityUid → Option Entity) → AreEntities R s entities → AreEntities S s entities
  are_as s entities h = λ uid. read_as uid (text_under s (entity_name uid)) (entities uid) (h uid)

  pub answer_as : (P : List ℕ → List ℕ → Policy → Type 0) (schema : StatedSchema) (s : Store) (q : Request) (a : Answer)
      → IsAnswerOver P R schema s q a → IsAnswerOver P S schema s q a
  answer_as P schema s q a h = record {
    policies = h.policies;
    are_policies = h.are_policies;
    entities = h.entities;
    are_entities = are_as s h.entities h.are_entities;
    is_answer = h.is_answer;
  }

  pub cycle_as : (schema : StatedSchema) (s : Store) (e : Entity) → MakesCycle R schema s e → MakesCycle S schema s e
  cycle_as schema s e h = record {
    entities = h.entities;
    are_entities = are_as s h.entities h.are_entities;
    cycle = h.cycle;
  }

  pub no_cycle_as : (schema : StatedSchema) (s : Store) (e : Entity) → MakesNoCycle R schema s e
      → MakesNoCycle S schema s e
  no_cycle_as schema s e h = record {
    entities = h.entities;
    are_entities = are_as s h.entities h.are_entities;
    none = h.none;
  }

-- ---- JSON

abbrev refused : EntityFault → Result Entity EntityFault
refused f = Err f

bad_is : (f : EntityFault) → refused BadShape ≡ refused f → f ≡ BadShape
bad_is f e = cc

pub entity_value : EntitiesAreRead → (schema : StatedSchema) (json : Option Data) (e : Entity)
    → (entity_stated schema json ≡ Ok e) ↔ JsonDescribes (DescribesEntity schema) json e
entity_value read schema None e = ((λ h. absurd cc), (λ h. absurd h))
entity_value read schema (Some d) e = (read schema d).value e

pub entity_fault : EntitiesAreRead → (schema : StatedSchema) (json : Option Data) (f : EntityFault)
    → (entity_stated schema json ≡ Err f) ↔ JsonRefused (RefusesEntity schema) json f
entity_fault read schema None f = (bad_is f, (λ h. cc))
entity_fault read schema (Some d) f = (read schema d).fault f

pub request_value : RequestsAreRead → (schema : StatedSchema) (json : Option Data) (q : Request)
    → IsRequestOf schema json q ↔ JsonDescribes (DescribesRequest schema) json q
request_value read schema None q = ((λ h. h), (λ h. h))
request_value read schema (Some d) q = (read schema d).states q

pub request_fault : RequestsAreRead → (schema : StatedSchema) (json : Option Data) (f : EntityFault)
    → IsNoRequest schema json f ↔ JsonRefused (RefusesRequest schema) json f
request_fault read schema None f = ((λ h. h), (λ h. h))
request_fault read schema (Some d) f = (read schema d).refuses f

-- ---- uids

-- at most one value is named, or none
one_read : (P : EntityUid → Type 0) → ((x y : EntityUid) → P x → P y → x ≡ y) → (o p : Option EntityUid) → IsRead P o
    → IsRead P p → o ≡ p
one_read P one None None h k = refl
one_read P one None (Some y) h k = absurd (h y k)
one_read P one (Some x) None h k = absurd (k x h)
one_read P one (Some x) (Some y) h k = ap (λ (z : EntityUid). Some z) (one x y h k)

one_described : OneUid → (json : Option Data) (x y : EntityUid) → JsonDescribes IsUid json x → JsonDescribes IsUid json y
    → x ≡ y
one_described one None x y h k = absurd h
one_described one (Some d) x y h k = one d x y h k

uid_read : UidsAreFound → (json : Option Data) → IsRead (JsonDescribes IsUid json) (option_and_then uid_in json)
uid_read found None = λ uid h. h
uid_read found (Some d) = found d

pub uid_named : OneUid → UidsAreFound → (json : Option Data) (o : Option EntityUid)
    → (option_and_then uid_in json ≡ o) ↔ IsRead (JsonDescribes IsUid json) o
uid_named one found json o = (
  (λ h. subst (λ (p : Option EntityUid). IsRead (JsonDescribes IsUid json) p) h (uid_read found json)),
  (λ h. one_read (JsonDescribes IsUid json) (one_described one json) (option_and_then uid_in json) o
      (uid_read found json) h),
)
