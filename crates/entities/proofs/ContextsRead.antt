-- A context that JSON states, or the first fault.
use Rattle.std.proofs.Common.{◌≡◌, ◌∙◌, ◌↔◌, List, [], ◌∷◌, Bool, true, false, cond, Option, Some, None, Result, Ok, Err, refl, ap, subst, inl, inr}
use Rattle.std.specs.Prelude.{◌⊎◌, ◌&&◌, codes}
use Rattle.std.specs.Str.{bytes_eq}
use Rattle.serde_json.specs.Data.{Data, Members}
use Rattle.serde_json.specs.Data as json
use Rattle.serde_json.specs.Find.{get}
use Rattle.json_words.specs.ReadsAs.{◌>>=◌, or_fault}
use Rattle.values.specs.declared.entity_uid.EntityUid.{EntityUid}
use Rattle.values.specs.Fields.{Field}
use Rattle.entities.specs.declared.fault.EntityFault.{EntityFault}
use Rattle.entities.specs.Typing.{record_in}
use Rattle.entity_data.specs.ancestor_search.Decided.{is_same}
use Rattle.schema_types.specs.Cedar.{Cedar}
use Rattle.schema.specs.declared.parts.EnvironmentKey.{EnvironmentKey}
use Rattle.schema.specs.Schemas.{EnvironmentOf, StatedSchema}
use Rattle.entities.specs.declared.fault.EntityFault.TheVariants.{BadShape, NotApplicable}
use Rattle.entities.specs.declared.requests.Asked.{Asked}
use Rattle.entities.specs.EntityForms.{or_empty}
use Rattle.entities.specs.Contexts.{context_where, is_of_action, is_place, context_in}
use Rattle.entities.specs.Requests.{context_asked}
use Rattle.entities.specs.StatedRequests.{IsOfAction, AppliesTo, HasContext, ReadsContext, FailsContext, DescribesContext, RefusesContext}
use Rattle.entities.specs.StatedRequests as says
use Rattle.entities.specs.StatedEntities.{ObjectAt}
use Rattle.schema.specs.Agreement.{Gives, HasOneOutcome}
use Rattle.entities.proofs.ReadingSteps.{done, failed, some_is, none_some, true_false, same_bytes, bytes_same, untrue}
use Rattle.entities.proofs.Leaves.{Names}
use Rattle.entities.proofs.Fields.{both_true, joined}
use Rattle.entities.proofs.Refusals.{records_are_read, records_are_refused}
use Rattle.entities.proofs.Forms.{members_there}
use Rattle.entities.proofs.EntitiesRead.{same_is, is_the_same}
use Rattle.entities.proofs.OneOutcome.{gives, one_outcome}

-- ---- the first environment with a place

module _ (passes : EnvironmentKey → Bool) (IsPlace : EnvironmentKey → Type 0) (exact : (p : EnvironmentKey) → (passes p ≡ true) ↔ IsPlace p) where
  context_by : (e : EnvironmentOf) (es : List EnvironmentOf) (t : Cedar) → (context_where passes es ≡ Some t → HasContext IsPlace es t) → (b : Bool) → passes e.place ≡ b
      → cond b (Some e.context) (context_where passes es) ≡ Some t → HasContext IsPlace (e ∷ es) t
  context_by e es t rest true is h = subst (HasContext IsPlace (e ∷ es)) (some_is e.context t h) (says.first_place e es ((exact e.place).0 is))
  context_by e es t rest false is h = says.later_place e es t (λ p. true_false (passes e.place) ((exact e.place).1 p) is) (rest h)

  context_is : (es : List EnvironmentOf) (t : Cedar) → context_where passes es ≡ Some t → HasContext IsPlace es t
  context_is [] t h = absurd (none_some t None refl h)
  context_is (e ∷ es) t h = context_by e es t (context_is es t) (passes e.place) refl h

  is_context : (es : List EnvironmentOf) (t : Cedar) → HasContext IsPlace es t → context_where passes es ≡ Some t
  is_context es t (says.first_place e more p) = ap (λ (b : Bool). cond b (Some e.context) (context_where passes more)) ((exact e.place).1 p)
  is_context es t (says.later_place e more u other rest) =
      ap (λ (b : Bool). cond b (Some e.context) (context_where passes more)) (untrue (passes e.place) (λ h. other ((exact e.place).0 h))) ∙ is_context more u rest

  no_context_by : (es : List EnvironmentOf) → ((t : Cedar) → HasContext IsPlace es t → ⊥) → (o : Option Cedar) → context_where passes es ≡ o → o ≡ None
  no_context_by es none (Some t) e = absurd (none t (context_is es t e))
  no_context_by es none None e = refl

  context_none : (es : List EnvironmentOf) → context_where passes es ≡ None → (t : Cedar) → HasContext IsPlace es t → ⊥
  context_none es e t h = none_some t (context_where passes es) e (is_context es t h)

  -- what the functions compute of an object
  abbrev pub context_read : StatedSchema → Members → Result (List Field) EntityFault
  context_read s ms = or_fault NotApplicable (context_where passes s.environments) >>= λ t. record_in t (json.object ms)

  read_step : (s : StatedSchema) (ms : Members) (t : Cedar) (r : Result (List Field) EntityFault) → context_where passes s.environments ≡ Some t → record_in t (json.object ms) ≡ r
      → context_read s ms ≡ r
  read_step s ms t r at read = rw (at, read) refl

  none_step : (s : StatedSchema) (ms : Members) → context_where passes s.environments ≡ None → context_read s ms ≡ failed NotApplicable
  none_step s ms at = rw at refl

  module _ (names : Names) (s : StatedSchema) (ms : Members) where
    pub states : (fields : List Field) → ReadsContext IsPlace s ms fields → context_read s ms ≡ done fields
    states fields h = read_step s ms h.shape (done fields) (is_context s.environments h.shape h.applies) ((records_are_read names h.shape ms fields).1 h.reads)

    pub refuses : (f : EntityFault) → FailsContext IsPlace s ms f → context_read s ms ≡ failed f
    refuses f (says.not_applicable none) = none_step s ms (no_context_by s.environments none (context_where passes s.environments) refl)
    refuses f (says.bad_fields t fault at bad) =
        read_step s ms t (failed fault) (is_context s.environments t at) ((records_are_refused names t ms fault).1 bad)

    abbrev pub ContextOutcome : Type 0
    ContextOutcome = ((fields : List Field) × ReadsContext IsPlace s ms fields) ⊎ ((f : EntityFault) × FailsContext IsPlace s ms f)

    by_record : (t : Cedar) → HasContext IsPlace s.environments t → (r : Result (List Field) EntityFault) → record_in t (json.object ms) ≡ r → ContextOutcome
    by_record t at (Ok fields) e = inl (fields, record { shape = t; applies = at; reads = (records_are_read names t ms fields).0 e })
    by_record t at (Err f) e = inr (f, says.bad_fields t f at ((records_are_refused names t ms f).0 e))

    by_place : (o : Option Cedar) → context_where passes s.environments ≡ o → ContextOutcome
    by_place (Some t) e = by_record t (context_is s.environments t e) (record_in t (json.object ms)) refl
    by_place None e = inr (NotApplicable, says.not_applicable (context_none s.environments e))

    pub some_context : ContextOutcome
    some_context = by_place (context_where passes s.environments) refl

-- ---- places

pub of_action : (action : EntityUid) (p : EnvironmentKey) → (is_of_action action p ≡ true) ↔ IsOfAction action p
of_action action p = (same_is p.action action, is_the_same p.action action)

place_is : (asked : Asked) (p : EnvironmentKey) → is_place asked.action asked.principal.type_name asked.resource.type_name p ≡ true → AppliesTo asked p
place_is asked p h =
    let a = both_true (is_same p.action asked.action) (bytes_eq p.principal asked.principal.type_name && bytes_eq p.resource asked.resource.type_name) h in
    let b = both_true (bytes_eq p.principal asked.principal.type_name) (bytes_eq p.resource asked.resource.type_name) a.1 in
    record {
      same_action = same_is p.action asked.action a.0;
      same_principal = bytes_same p.principal asked.principal.type_name b.0;
      same_resource = bytes_same p.resource asked.resource.type_name b.1;
    }

is_the_place : (asked : Asked) (p : EnvironmentKey) → AppliesTo asked p → is_place asked.action asked.principal.type_name asked.resource.type_name p ≡ true
is_the_place asked p h =
    joined (is_same p.action asked.action) (bytes_eq p.principal asked.principal.type_name && bytes_eq p.resource asked.resource.type_name) (is_the_same p.action asked.action h.same_action)
    (joined (bytes_eq p.principal asked.principal.type_name) (bytes_eq p.resource asked.resource.type_name)
    (same_bytes p.principal asked.principal.type_name h.same_principal) (same_bytes p.resource asked.resource.type_name h.same_resource))

pub applies_to : (asked : Asked) (p : EnvironmentKey) → (is_place asked.action asked.principal.type_name asked.resource.type_name p ≡ true) ↔ AppliesTo asked p
applies_to asked p = (place_is asked p, is_the_place asked p)

-- ---- contexts

object_step : (s : StatedSchema) (action : EntityUid) (ms : Members) → context_in s action (json.object ms) ≡ context_read (is_of_action action) (IsOfAction action) (of_action action) s ms
unfolding context_in
object_step s action ms = refl

other_step : (s : StatedSchema) (action : EntityUid) (d : Data) → ((ms : Members) → d ≡ json.object ms → ⊥) → context_in s action d ≡ failed BadShape
unfolding context_in
other_step s action json.null none = refl
other_step s action (json.boolean b) none = refl
other_step s action (json.number n) none = refl
other_step s action (json.string x) none = refl
other_step s action (json.array ds) none = refl
other_step s action (json.object ms) none = absurd (none ms refl)

object_or_other : (d : Data) → ((ms : Members) × (d ≡ json.object ms)) ⊎ ((ms : Members) → d ≡ json.object ms → ⊥)
object_or_other json.null = inr (λ ms e. absurd cc)
object_or_other (json.boolean b) = inr (λ ms e. absurd cc)
object_or_other (json.number n) = inr (λ ms e. absurd cc)
object_or_other (json.string x) = inr (λ ms e. absurd cc)
object_or_other (json.array ds) = inr (λ ms e. absurd cc)
object_or_other (json.object ms) = inl (ms, refl)

module _ (names : Names) (s : StatedSchema) (action : EntityUid) (d : Data) where
  in_object : (ms : Members) → d ≡ json.object ms → context_in s action d ≡ context_read (is_of_action action) (IsOfAction action) (of_action action) s ms
  in_object ms at = ap (context_in s action) at ∙ object_step s action ms

  context_states : (fields : List Field) → DescribesContext s action d fields → context_in s action d ≡ done fields
  context_states fields h = in_object h.members h.is_object ∙ states (is_of_action action) (IsOfAction action) (of_action action) names s h.members fields h.reads

  context_refuses : (f : EntityFault) → RefusesContext s action d f → context_in s action d ≡ failed f
  context_refuses f (says.other_json none) = other_step s action d none
  context_refuses f (says.bad_context ms g at bad) = in_object ms at ∙ refuses (is_of_action action) (IsOfAction action) (of_action action) names s ms g bad

  abbrev Outcome : Type 0
  Outcome = ((fields : List Field) × DescribesContext s action d fields) ⊎ ((f : EntityFault) × RefusesContext s action d f)

  by_context : (ms : Members) → d ≡ json.object ms → ContextOutcome (is_of_action action) (IsOfAction action) (of_action action) names s ms → Outcome
  by_context ms at (inl h) = inl (h.0, record { members = ms; is_object = at; reads = h.1 })
  by_context ms at (inr h) = inr (h.0, says.bad_context ms h.0 at h.1)

  by_kind : ((ms : Members) × (d ≡ json.object ms)) ⊎ ((ms : Members) → d ≡ json.object ms → ⊥) → Outcome
  by_kind (inl h) = by_context h.0 h.1 (some_context (is_of_action action) (IsOfAction action) (of_action action) names s h.0)
  by_kind (inr none) = inr (BadShape, says.other_json none)

  pub context_given : Gives (context_in s action d) (DescribesContext s action d) (RefusesContext s action d)
  context_given = gives (context_in s action d) (DescribesContext s action d) (RefusesContext s action d) context_states context_refuses (by_kind (object_or_other d))

  pub context_outcome : HasOneOutcome (DescribesContext s action d) (RefusesContext s action d)
  context_outcome = one_outcome (context_in s action d) (DescribesContext s action d) (RefusesContext s action d) context_states context_refuses (by_kind (object_or_other d))

-- ---- the context of a request

empty_step : (s : StatedSchema) (asked : Asked) (d : Data) (x : Data) → or_empty (get (codes "context") d) ≡ x
    → context_asked s asked d
    ≡ (or_fault NotApplicable (context_where (is_place asked.action asked.principal.type_name asked.resource.type_name) s.environments) >>= λ t. record_in t x)
unfolding context_asked
empty_step s asked d x at =
    ap (λ (y : Data). or_fault NotApplicable (context_where (is_place asked.action asked.principal.type_name asked.resource.type_name) s.environments) >>= λ t. record_in t y) at

module _ (names : Names) (s : StatedSchema) (asked : Asked) (d : Data) (ms : Members) (at : ObjectAt (codes "context") d ms) where
  abbrev passes : EnvironmentKey → Bool
  passes = is_place asked.action asked.principal.type_name asked.resource.type_name

  asked_read : context_asked s asked d ≡ context_read passes (AppliesTo asked) (applies_to asked) s ms
  asked_read = empty_step s asked d (json.object ms) (members_there (codes "context") d ms at)

  asked_states : (fields : List Field) → ReadsContext (AppliesTo asked) s ms fields → context_asked s asked d ≡ done fields
  asked_states fields h = asked_read ∙ states passes (AppliesTo asked) (applies_to asked) names s ms fields h

  asked_refuses : (f : EntityFault) → FailsContext (AppliesTo asked) s ms f → context_asked s asked d ≡ failed f
  asked_refuses f h = asked_read ∙ refuses passes (AppliesTo asked) (applies_to asked) names s ms f h

  pub asked_given : Gives (context_asked s asked d) (ReadsContext (AppliesTo asked) s ms) (FailsContext (AppliesTo asked) s ms)
  asked_given =
      gives (context_asked s asked d) (ReadsContext (AppliesTo asked) s ms) (FailsContext (AppliesTo asked) s ms) asked_states asked_refuses
      (some_context passes (AppliesTo asked) (applies_to asked) names s ms)
