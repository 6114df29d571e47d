-- Each input of a site has at most one outcome if there is memory.
use Rattle.std.specs.Prelude.{◌≡◌, ℕ, List, Option, Result, refl}
use Rattle.std.proofs.Common.{sym, ap, ◌∙◌}
use Rattle.json_words.specs.Json.{json_of}
use Rattle.values.specs.declared.entity_uid.EntityUid.{EntityUid}
use Rattle.values.specs.declared.request.Request.{Request}
use Rattle.site_store.specs.policy_grammar.PolicyText.{IsPolicyText, IsPolicyRefused}
use Rattle.site_store.specs.policy_grammar.Unique.{HasOneReading}
use Rattle.site_meaning.specs.authoriser.declared.answer.Answer.{Answer}
use Rattle.site_store.specs.schema.Schemas.{StatedSchema}
use Rattle.site_store.specs.entity_data.declared.entity.Entity.{Entity}
use Rattle.entities.specs.Laws.{OneRequest, NotBoth, OneRefusal}
use Rattle.sync_messages.specs.validator.Outcomes.{PoliciesHaveOneOutcome, PassingIsNotRefused}
use Rattle.site_store.specs.stamped_store.declared.entry.Stamp.{Stamp}
use Rattle.site_store.specs.stamped_store.Deltas as deltas
use Rattle.site_store.specs.stamped_store.Store.{Store}
use Rattle.site_meaning.specs.StoreMeaning.{AreEntities, IsAnswerOver}
use Rattle.sync_messages.specs.sync_format.Summaries.{summary_text}
use Rattle.sync_messages.specs.sync_format.Messages.{state_text}
use Rattle.site.specs.declared.fault.SiteFault.{SiteFault}
use Rattle.site.specs.declared.outcome.Put.{Put}
use Rattle.site.specs.declared.outcome.Taken as taking
use Rattle.site.specs.Admitted.{IsPolicyUnder, IsEntityUnder}
use Rattle.site.specs.Readings.{parsed}
use Rattle.site.specs.Steps.{PutsPolicy, PutsEntity, DeletesPolicy, DeletesEntity, Answers}
use Rattle.site.specs.Inputs.{Input}
use Rattle.site.specs.Inputs as input
use Rattle.site.specs.declared.reply.Found.{Found}
use Rattle.site.specs.declared.reply.Reply.{Reply}
use Rattle.site.specs.declared.reply.Reply.TheVariants as reply
use Rattle.site.specs.Runs.{TakesMessage, Finds, Writes, WritesDelta, Step}
use Rattle.site.specs.Outcomes.{ReportsNoFailedAllocation, ReportsNoFailedAllocationForAll, IsWhole}
use Rattle.site.proofs.OneStored.{policy_comes, one_policy, policy_delete_comes, one_policy_delete, entity_comes}
use Rattle.site.proofs.OneStored.{one_entity, entity_delete_comes, one_entity_delete}
use Rattle.site.proofs.OneAnswered.{message_comes, MessagesAreOne, one_message, one_reply, one_found, one_written}
use Rattle.site.proofs.OneAnswered.{delta_comes, one_delta}

-- ---- a step, by its input

-- the results that replies hold
in_put : (schema : StatedSchema) (n : List ℕ) (s : Store) (id text : List ℕ) (r : Reply) (t : Store)
    → Step schema n s (input.PutPolicy id text) r t → IsWhole r
    → (x : Result Put SiteFault) × (r ≡ reply.Put x) × PutsPolicy schema n s id text x t × ReportsNoFailedAllocation x
in_put schema n s id text (reply.Put x) t h m = (x, refl, h, m)
in_put schema n s id text (reply.Stamped x) t h m = absurd h
in_put schema n s id text (reply.Taken x) t h m = absurd h
in_put schema n s id text (reply.Answered x) t h m = absurd h
in_put schema n s id text (reply.Found x) t h m = absurd h
in_put schema n s id text (reply.Written x) t h m = absurd h

in_delete_policy : (schema : StatedSchema) (n : List ℕ) (s : Store) (id : List ℕ) (r : Reply) (t : Store)
    → Step schema n s (input.DeletePolicy id) r t → IsWhole r
    → (x : Result Stamp SiteFault) × (r ≡ reply.Stamped x) × DeletesPolicy n s id x t × ReportsNoFailedAllocation x
in_delete_policy schema n s id (reply.Put x) t h m = absurd h
in_delete_policy schema n s id (reply.Stamped x) t h m = (x, refl, h, m)
in_delete_policy schema n s id (reply.Taken x) t h m = absurd h
in_delete_policy schema n s id (reply.Answered x) t h m = absurd h
in_delete_policy schema n s id (reply.Found x) t h m = absurd h
in_delete_policy schema n s id (reply.Written x) t h m = absurd h

in_put_entity : (schema : StatedSchema) (n : List ℕ) (s : Store) (bytes : List ℕ) (r : Reply) (t : Store)
    → Step schema n s (input.PutEntity bytes) r t → IsWhole r
    → (x : Result Stamp SiteFault) × (r ≡ reply.Stamped x) × PutsEntity (parsed schema) n s (json_of bytes) x t × ReportsNoFailedAllocation x
in_put_entity schema n s bytes (reply.Put x) t h m = absurd h
in_put_entity schema n s bytes (reply.Stamped x) t h m = (x, refl, h, m)
in_put_entity schema n s bytes (reply.Taken x) t h m = absurd h
in_put_entity schema n s bytes (reply.Answered x) t h m = absurd h
in_put_entity schema n s bytes (reply.Found x) t h m = absurd h
in_put_entity schema n s bytes (reply.Written x) t h m = absurd h

in_delete_entity : (schema : StatedSchema) (n : List ℕ) (s : Store) (bytes : List ℕ) (r : Reply) (t : Store)
    → Step schema n s (input.DeleteEntity bytes) r t → IsWhole r
    → (x : Result Stamp SiteFault) × (r ≡ reply.Stamped x) × DeletesEntity (parsed schema) n s (json_of bytes) x t × ReportsNoFailedAllocation x
in_delete_entity schema n s bytes (reply.Put x) t h m = absurd h
in_delete_entity schema n s bytes (reply.Stamped x) t h m = (x, refl, h, m)
in_delete_entity schema n s bytes (reply.Taken x) t h m = absurd h
in_delete_entity schema n s bytes (reply.Answered x) t h m = absurd h
in_delete_entity schema n s bytes (reply.Found x) t h m = absurd h
in_delete_entity schema n s bytes (reply.Written x) t h m = absurd h

in_take : (schema : StatedSchema) (n : List ℕ) (s : Store) (bytes : List ℕ) (r : Reply) (t : Store)
    → Step schema n s (input.Take bytes) r t → IsWhole r
    → (x : Result taking.Taken SiteFault) × (r ≡ reply.Taken x) × TakesMessage (parsed schema) s bytes x t × ReportsNoFailedAllocationForAll x
in_take schema n s bytes (reply.Put x) t h m = absurd h
in_take schema n s bytes (reply.Stamped x) t h m = absurd h
in_take schema n s bytes (reply.Taken x) t h m = (x, refl, h, m)
in_take schema n s bytes (reply.Answered x) t h m = absurd h
in_take schema n s bytes (reply.Found x) t h m = absurd h
in_take schema n s bytes (reply.Written x) t h m = absurd h

in_authorize : (schema : StatedSchema) (n : List ℕ) (s : Store) (bytes : List ℕ) (r : Reply) (t : Store)
    → Step schema n s (input.Authorize bytes) r t → IsWhole r
    → (x : Result Answer SiteFault) × (r ≡ reply.Answered x) × (Answers (parsed schema) s (json_of bytes) x × (t ≡ s)) × ReportsNoFailedAllocation x
in_authorize schema n s bytes (reply.Put x) t h m = absurd h
in_authorize schema n s bytes (reply.Stamped x) t h m = absurd h
in_authorize schema n s bytes (reply.Taken x) t h m = absurd h
in_authorize schema n s bytes (reply.Answered x) t h m = (x, refl, h, m)
in_authorize schema n s bytes (reply.Found x) t h m = absurd h
in_authorize schema n s bytes (reply.Written x) t h m = absurd h

in_get_policy : (schema : StatedSchema) (n : List ℕ) (s : Store) (id : List ℕ) (r : Reply) (t : Store)
    → Step schema n s (input.GetPolicy id) r t → IsWhole r
    → (x : Result (Option Found) SiteFault) × (r ≡ reply.Found x) × (Finds s id x × (t ≡ s)) × ReportsNoFailedAllocation x
in_get_policy schema n s id (reply.Put x) t h m = absurd h
in_get_policy schema n s id (reply.Stamped x) t h m = absurd h
in_get_policy schema n s id (reply.Taken x) t h m = absurd h
in_get_policy schema n s id (reply.Answered x) t h m = absurd h
in_get_policy schema n s id (reply.Found x) t h m = (x, refl, h, m)
in_get_policy schema n s id (reply.Written x) t h m = absurd h

in_state : (schema : StatedSchema) (n : List ℕ) (s : Store) (r : Reply) (t : Store)
    → Step schema n s input.State r t → IsWhole r
    → (x : Result (List ℕ) SiteFault) × (r ≡ reply.Written x) × (Writes (state_text schema.label s) x × (t ≡ s)) × ReportsNoFailedAllocation x
in_state schema n s (reply.Put x) t h m = absurd h
in_state schema n s (reply.Stamped x) t h m = absurd h
in_state schema n s (reply.Taken x) t h m = absurd h
in_state schema n s (reply.Answered x) t h m = absurd h
in_state schema n s (reply.Found x) t h m = absurd h
in_state schema n s (reply.Written x) t h m = (x, refl, h, m)

in_summary : (schema : StatedSchema) (n : List ℕ) (s : Store) (r : Reply) (t : Store)
    → Step schema n s input.Summary r t → IsWhole r
    → (x : Result (List ℕ) SiteFault) × (r ≡ reply.Written x) × (Writes (summary_text schema.label (deltas.summary_of s)) x × (t ≡ s)) × ReportsNoFailedAllocation x
in_summary schema n s (reply.Put x) t h m = absurd h
in_summary schema n s (reply.Stamped x) t h m = absurd h
in_summary schema n s (reply.Taken x) t h m = absurd h
in_summary schema n s (reply.Answered x) t h m = absurd h
in_summary schema n s (reply.Found x) t h m = absurd h
in_summary schema n s (reply.Written x) t h m = (x, refl, h, m)

in_delta : (schema : StatedSchema) (n : List ℕ) (s : Store) (bytes : List ℕ) (r : Reply) (t : Store)
    → Step schema n s (input.Delta bytes) r t → IsWhole r
    → (x : Result (List ℕ) SiteFault) × (r ≡ reply.Written x) × (WritesDelta (parsed schema) s bytes x × (t ≡ s)) × ReportsNoFailedAllocation x
in_delta schema n s bytes (reply.Put x) t h m = absurd h
in_delta schema n s bytes (reply.Stamped x) t h m = absurd h
in_delta schema n s bytes (reply.Taken x) t h m = absurd h
in_delta schema n s bytes (reply.Answered x) t h m = absurd h
in_delta schema n s bytes (reply.Found x) t h m = absurd h
in_delta schema n s bytes (reply.Written x) t h m = (x, refl, h, m)

-- by the theorems about a site's callees
pub record LawsOfOne (schema : StatedSchema) : Type 0 where
  pub texts : HasOneReading IsPolicyText IsPolicyRefused
  pub checks : PoliciesHaveOneOutcome
  pub apart : PassingIsNotRefused
  pub one_world : (s : Store) (es fs : EntityUid → Option Entity) → AreEntities (IsEntityUnder schema) s es
      → AreEntities (IsEntityUnder schema) s fs → es ≡ fs
  pub messages : MessagesAreOne schema
  pub one_request : OneRequest
  pub asked_or_not : NotBoth
  pub one_refusal : OneRefusal
  pub one_answer : (s : Store) (q : Request) (a b : Answer)
      → IsAnswerOver (IsPolicyUnder schema) (IsEntityUnder schema) schema s q a
      → IsAnswerOver (IsPolicyUnder schema) (IsEntityUnder schema) schema s q b → a ≡ b

-- two replies with equal results
by_result : {X : Type 0} (K : X → Reply) (r q : Reply) (x y : X) → r ≡ K x → q ≡ K y → x ≡ y → r ≡ q
by_result K r q x y h k same = h ∙ ap K same ∙ sym k

pub one_step : (schema : StatedSchema) → LawsOfOne schema → (n : List ℕ) (s : Store) (i : Input) (r q : Reply) (t u : Store)
    → Step schema n s i r t → IsWhole r → Step schema n s i q u → IsWhole q → (r ≡ q) × (t ≡ u)
one_step schema law n s (input.PutPolicy id text) r q t u h m k w =
    let a = in_put schema n s id text r t h m in
    let b = in_put schema n s id text q u k w in
    let both = one_policy schema law.texts law.checks law.apart n s id text a.0 b.0 t u
    (policy_comes schema n s id text a.0 t a.2 a.3) (policy_comes schema n s id text b.0 u b.2 b.3) in
    (by_result (λ (z : Result Put SiteFault). reply.Put z) r q a.0 b.0 a.1 b.1 both.0, both.1)
one_step schema law n s (input.DeletePolicy id) r q t u h m k w =
    let a = in_delete_policy schema n s id r t h m in
    let b = in_delete_policy schema n s id q u k w in
    let both = one_policy_delete n s id a.0 b.0 t u
    (policy_delete_comes n s id a.0 t a.2 a.3) (policy_delete_comes n s id b.0 u b.2 b.3) in
    (by_result (λ (z : Result Stamp SiteFault). reply.Stamped z) r q a.0 b.0 a.1 b.1 both.0, both.1)
one_step schema law n s (input.PutEntity bytes) r q t u h m k w =
    let a = in_put_entity schema n s bytes r t h m in
    let b = in_put_entity schema n s bytes q u k w in
    let both = one_entity schema law.one_world n s (json_of bytes) a.0 b.0 t u
    (entity_comes schema n s (json_of bytes) a.0 t a.2 a.3) (entity_comes schema n s (json_of bytes) b.0 u b.2 b.3) in
    (by_result (λ (z : Result Stamp SiteFault). reply.Stamped z) r q a.0 b.0 a.1 b.1 both.0, both.1)
one_step schema law n s (input.DeleteEntity bytes) r q t u h m k w =
    let a = in_delete_entity schema n s bytes r t h m in
    let b = in_delete_entity schema n s bytes q u k w in
    let both = one_entity_delete n s (json_of bytes) a.0 b.0 t u
    (entity_delete_comes schema n s (json_of bytes) a.0 t a.2 a.3)
    (entity_delete_comes schema n s (json_of bytes) b.0 u b.2 b.3) in
    (by_result (λ (z : Result Stamp SiteFault). reply.Stamped z) r q a.0 b.0 a.1 b.1 both.0, both.1)
one_step schema law n s (input.Take bytes) r q t u h m k w =
    let a = in_take schema n s bytes r t h m in
    let b = in_take schema n s bytes q u k w in
    let both = one_message schema law.messages s bytes a.0 b.0 t u
    (message_comes schema s bytes a.0 t a.2 a.3) (message_comes schema s bytes b.0 u b.2 b.3) in
    (by_result (λ (z : Result taking.Taken SiteFault). reply.Taken z) r q a.0 b.0 a.1 b.1 both.0, both.1)
one_step schema law n s (input.Authorize bytes) r q t u h m k w =
    let a = in_authorize schema n s bytes r t h m in
    let b = in_authorize schema n s bytes q u k w in (
      by_result (λ (z : Result Answer SiteFault). reply.Answered z) r q a.0 b.0 a.1 b.1
          (one_reply schema law.one_request law.asked_or_not law.one_refusal law.one_answer s (json_of bytes) a.0 b.0 a.2.0 a.3 b.2.0 b.3),
      a.2.1 ∙ sym b.2.1,
    )
one_step schema law n s (input.GetPolicy id) r q t u h m k w =
    let a = in_get_policy schema n s id r t h m in
    let b = in_get_policy schema n s id q u k w in (
      by_result (λ (z : Result (Option Found) SiteFault). reply.Found z) r q a.0 b.0 a.1 b.1
          (one_found s id a.0 b.0 a.2.0 a.3 b.2.0 b.3),
      a.2.1 ∙ sym b.2.1,
    )
one_step schema law n s input.State r q t u h m k w =
    let a = in_state schema n s r t h m in
    let b = in_state schema n s q u k w in (
      by_result (λ (z : Result (List ℕ) SiteFault). reply.Written z) r q a.0 b.0 a.1 b.1
          (one_written (state_text schema.label s) a.0 b.0 a.2.0 a.3 b.2.0 b.3),
      a.2.1 ∙ sym b.2.1,
    )
one_step schema law n s input.Summary r q t u h m k w =
    let a = in_summary schema n s r t h m in
    let b = in_summary schema n s q u k w in (
      by_result (λ (z : Result (List ℕ) SiteFault). reply.Written z) r q a.0 b.0 a.1 b.1
          (one_written (summary_text schema.label (deltas.summary_of s)) a.0 b.0 a.2.0 a.3 b.2.0 b.3),
      a.2.1 ∙ sym b.2.1,
    )
one_step schema law n s (input.Delta bytes) r q t u h m k w =
    let a = in_delta schema n s bytes r t h m in
    let b = in_delta schema n s bytes q u k w in (
      by_result (λ (z : Result (List ℕ) SiteFault). reply.Written z) r q a.0 b.0 a.1 b.1
          (one_delta schema s bytes a.0 b.0 (delta_comes schema s bytes a.0 a.2.0 a.3) (delta_comes schema s bytes b.0 b.2.0 b.3)),
      a.2.1 ∙ sym b.2.1,
    )
