-- The store after a run by what bytes state is that of the updates applied.
use Rattle.std.proofs.Common.{◌≡◌, ◌∙◌, ℕ, List, [], ◌∷◌, Option, Some, Result, Ok, refl, sym, ap, subst}
use Rattle.std.specs.Prelude.{◌↔◌, ◌++◌, take, option_and_then, Contains}
use Rattle.serde_json.specs.Data.{Data}
use Rattle.json_words.specs.Json.{json_of}
use Rattle.values.specs.declared.entity_uid.EntityUid.{EntityUid}
use Rattle.values.specs.Names.{name_cmp-IsTotalOrder, name_cmp-IsAntisymmetric}
use Rattle.site.specs.schema.Schemas.{StatedSchema}
use Rattle.site.specs.entity_data.declared.entity.Entity.{Entity}
use Rattle.site.specs.entities.declared.fault.EntityFault.{EntityFault}
use Rattle.site.specs.sync_format.declared.fault.MessageFault.{MessageFault}
use Rattle.site.specs.sync_format.Messages.{updates_stated}
use Rattle.site.specs.sync_format.Updates.{plain_updates}
use Rattle.site.specs.stamped_store.Store.{Store, Update, updates, store_of, IsStoreOf}
use Rattle.site.specs.declared.outcome.Taken.TheVariants.{All, Short}
use Rattle.site.specs.Inputs.{Input}
use Rattle.site.specs.Inputs as input
use Rattle.site.specs.declared.reply.Reply.{Reply}
use Rattle.site.specs.declared.reply.Reply.TheVariants as reply
use Rattle.site.specs.Admitted.{JsonDescribes}
use Rattle.site.specs.Runs.{Run, took_by, took, update_of_entity, update_of_deletion, updates_of_message}
use Rattle.site.specs.entity_uids.Uids.{IsUid, uid_in}
use Rattle.site.specs.entity_uids.Laws.{OneUid, UidsAreFound}
use Rattle.site.specs.Permitted.{RunsAreSound}
use Rattle.site.specs.entities.ParsingLaws.{EntitiesAreRead}
use Rattle.site.proofs.of_stamped_store.Greatests.{entry_order}
use Rattle.site.proofs.of_stamped_store.GreatestsBy.{is_store_of-store_of, store_of-same_members}
use Rattle.site.specs.sync_messages.StatedUpdates.{DescribesUpdates}
use Rattle.site.specs.sync_messages.ParsingLaws.{UpdatesAreRead}
use Rattle.site_theorems.specs.Steps.{IsStep}
use Rattle.site_theorems.specs.Laws.{StepsAreAsStated}
use Rattle.site_theorems.specs.Runs.{IsRun, Applies, Applied, LeavesApplied, RunsLeaveApplied, Holds}
use Rattle.site_theorems.specs.Runs.{EqualUpdatesLeaveEqualStores, RunsHavePermittedErrors}
use Rattle.site_theorems.proofs.Readings.{entity_value, uid_named}

-- by the theorems of lower crates
pub record RunLaws : Type 0 where
  pub steps : StepsAreAsStated
  pub entities : EntitiesAreRead
  pub messages : UpdatesAreRead
  pub one_uid : OneUid
  pub uids : UidsAreFound
  pub leave : (schema : StatedSchema) (n : List ℕ) (s : Store) (is : List Input) (rs : List Reply) (t : Store)
      → Run schema n s is rs t → t ≡ store_of (updates s ++ took schema is rs)

pub both : (a b c d : List Update) → a ≡ c → b ≡ d → a ++ b ≡ c ++ d
both a b c d e f = ap (λ (x : List Update). x ++ b) e ∙ ap (λ (x : List Update). c ++ x) f

module _ (law : RunLaws) (schema : StatedSchema) where
  stated_updates : (bytes : List ℕ) (us : List Update) → DescribesUpdates schema.label bytes us
      → updates_stated schema.label bytes ≡ Ok us
  stated_updates bytes us h = ((law.messages schema.label bytes).value us).1 h

  stated_uid : (json : Option Data) (uid : EntityUid) → JsonDescribes IsUid json uid
      → option_and_then uid_in json ≡ Some uid
  stated_uid json uid h = (uid_named law.one_uid law.uids json (Some uid)).1 h

  -- ---- one input

  -- what it applied is what the function gives
  pub only_by : (i : Input) (r : Reply) (us : List Update) → Applies schema i r us → us ≡ took_by schema i r
  only_by (input.PutPolicy id text) (reply.Put (Ok put)) us h = h
  only_by (input.DeletePolicy id) (reply.Stamped (Ok stamp)) us h = h
  only_by (input.PutEntity bytes) (reply.Stamped (Ok stamp)) us h =
      h.2 ∙ ap (λ (x : Result Entity EntityFault). update_of_entity stamp x)
      (sym ((entity_value law.entities schema (json_of bytes) h.0).1 h.1))
  only_by (input.DeleteEntity bytes) (reply.Stamped (Ok stamp)) us h =
      h.2 ∙ ap (λ (x : Option EntityUid). update_of_deletion stamp x) (sym (stated_uid (json_of bytes) h.0 h.1))
  only_by (input.Take bytes) (reply.Taken (Ok (All k))) us h =
      ap (λ (x : Result (List Update) MessageFault). updates_of_message x) (sym (stated_updates bytes us h))
  only_by (input.Take bytes) (reply.Taken (Ok (Short k))) us h =
      h.2 ∙ ap (λ (x : Result (List Update) MessageFault). take k (updates_of_message x))
      (sym (stated_updates bytes h.0 h.1))
  only_by i r us h = h

  -- and a step applied these
  pub applied_by : (n : List ℕ) (s : Store) (i : Input) (r : Reply) (t : Store) → IsStep schema n s i r t
      → Applies schema i r (took_by schema i r)
  applied_by n s (input.PutPolicy id text) (reply.Put (Ok put)) t h = refl
  applied_by n s (input.DeletePolicy id) (reply.Stamped (Ok stamp)) t h = refl
  applied_by n s (input.PutEntity bytes) (reply.Stamped (Ok stamp)) t h = (
    h.0,
    h.1,
    ap (λ (x : Result Entity EntityFault). update_of_entity stamp x)
        ((entity_value law.entities schema (json_of bytes) h.0).1 h.1),
  )
  applied_by n s (input.DeleteEntity bytes) (reply.Stamped (Ok stamp)) t h = (
    h.0,
    h.1,
    ap (λ (x : Option EntityUid). update_of_deletion stamp x) (stated_uid (json_of bytes) h.0 h.1),
  )
  applied_by n s (input.Take bytes) (reply.Taken (Ok (All k))) t h =
      subst (λ (us : List Update). DescribesUpdates schema.label bytes us)
      (ap (λ (x : Result (List Update) MessageFault). updates_of_message x)
      (sym (stated_updates bytes (plain_updates h.0) h.1.stated))) h.1.stated
  applied_by n s (input.Take bytes) (reply.Taken (Ok (Short k))) t h = (
    plain_updates h.0,
    h.1.stated,
    ap (λ (x : Result (List Update) MessageFault). take k (updates_of_message x))
        (stated_updates bytes (plain_updates h.0) h.1.stated),
  )
  applied_by n s i r t h = refl

  -- ---- runs
  pub run_from : (n : List ℕ) (s : Store) (is : List Input) (rs : List Reply) (t : Store) → IsRun schema n s is rs t
      → Run schema n s is rs t
  run_from n s [] [] t h = h
  run_from n s [] (r ∷ rs) t h = h
  run_from n s (i ∷ is) [] t h = h
  run_from n s (i ∷ is) (r ∷ rs) t h = (h.0, (law.steps schema n s i r h.0).1 h.1, run_from n h.0 is rs t h.2)

  pub only : (is : List Input) (rs : List Reply) (us : List Update) → Applied schema is rs us → us ≡ took schema is rs
  only [] [] us h = h
  only [] (r ∷ rs) us h = absurd h
  only (i ∷ is) [] us h = absurd h
  only (i ∷ is) (r ∷ rs) us h =
      h.4 ∙ both h.0 h.1 (took_by schema i r) (took schema is rs) (only_by i r h.0 h.2) (only is rs h.1 h.3)

  pub applied : (n : List ℕ) (s : Store) (is : List Input) (rs : List Reply) (t : Store) → IsRun schema n s is rs t
      → Applied schema is rs (took schema is rs)
  applied n s [] [] t h = refl
  applied n s [] (r ∷ rs) t h = h
  applied n s (i ∷ is) [] t h = h
  applied n s (i ∷ is) (r ∷ rs) t h =
      (took_by schema i r, took schema is rs, applied_by n s i r h.0 h.1, applied n h.0 is rs t h.2, refl)

  pub leaves : (n : List ℕ) (s : Store) (is : List Input) (rs : List Reply) (t : Store) → IsRun schema n s is rs t
      → LeavesApplied schema s is rs t
  leaves n s is rs t h =
      let same = law.leave schema n s is rs t (run_from n s is rs t h) in
      record {
        us = took schema is rs;
        applied = applied n s is rs t h;
        only = λ vs k. only is rs vs k;
        greatest = subst (λ (x : Store). IsStoreOf (updates s ++ took schema is rs) x) (sym same)
            (is_store_of-store_of entry_order name_cmp-IsTotalOrder name_cmp-IsAntisymmetric
            (updates s ++ took schema is rs));
        store = same;
      }

  -- ---- the store of what was held and applied
  held : (us : List Update) (t : Store) → Holds schema us t → t ≡ store_of us
  held us t h =
      law.leave schema h.name h.first h.inputs h.replies t
      (run_from h.name h.first h.inputs h.replies t h.run)
      ∙ ap (λ (x : List Update). store_of (updates h.first ++ x)) (sym (only h.inputs h.replies h.more h.applied))
      ∙ ap store_of (sym h.all)

  pub equal : (us vs : List Update) (s t : Store) → Holds schema us s → Holds schema vs t
      → ((u : Update) → Contains us u ↔ Contains vs u) → s ≡ t
  equal us vs s t h k same =
      held us s h
      ∙ store_of-same_members entry_order name_cmp-IsTotalOrder name_cmp-IsAntisymmetric us vs same
      ∙ sym (held vs t k)

pub runs_leave : RunLaws → RunsLeaveApplied
runs_leave law schema n s is rs t h = leaves law schema n s is rs t h

pub runs_equal : RunLaws → EqualUpdatesLeaveEqualStores
runs_equal law schema us vs s t h k same = equal law schema us vs s t h k same

pub runs_harmless : RunLaws → RunsAreSound → RunsHavePermittedErrors
runs_harmless law sound bytes schema stated n s is rs t h =
    sound bytes schema stated n s is rs t (run_from law schema n s is rs t h)
