-- Each error in an answer over a store is one of the two that remain.
use Rattle.std.proofs.Common.{◌≡◌, ◌↔◌, ℕ, List, [], ◌∷◌, map, Option, Some, None, Result, Ok, Err, refl, subst, inl}
use Rattle.std.proofs.Common.{inr}
use Rattle.std.specs.Prelude.{Contains, IsSome, ⊤, option_map}
use Rattle.std.specs.List.{AllZip}
use Rattle.std.specs.Str.{bytes_eq}
use Rattle.serde_json.specs.Data.{Data}
use Rattle.json_words.specs.Json.{json_of}
use Rattle.json_words.specs.ReadsAs.{◌>>=◌, or_fault, demand}
use Rattle.values.specs.declared.entity_uid.EntityUid.{EntityUid}
use Rattle.values.specs.declared.request.Request.{Request}
use Rattle.site_store.specs.policy_grammar.declared.policy.Effect.{Effect}
use Rattle.site_store.specs.policy_grammar.declared.policy.Effect.TheVariants.{Permit, Forbid}
use Rattle.site_store.specs.policy_grammar.PolicyExpression.{expression_of}
use Rattle.site_meaning.specs.ancestor_search.Decided.{is_same}
use Rattle.site_meaning.specs.ancestor_search.Deciding.{Contains-here, Contains-there, Contains-none, Contains-cases}
use Rattle.site_meaning.specs.ancestor_search.Deciding.{same_uid}
use Rattle.site_meaning.specs.evaluator.Operators.{Entities}
use Rattle.site_meaning.specs.evaluator.Outcomes.{EvaluationResult}
use Rattle.site_meaning.specs.evaluator.Evaluation.{EvaluatesTo}
use Rattle.sync_messages.specs.typing.Types.{boolean_type}
use Rattle.sync_messages.specs.typing.Conforming.{Fits, IsPermittedError}
use Rattle.site_meaning.specs.authoriser.declared.answer.Answer.{Answer}
use Rattle.site_meaning.specs.authoriser.declared.answer.ErringPolicy.{ErringPolicy}
use Rattle.site_meaning.specs.authoriser.declared.outcome.Outcome.{Outcome}
use Rattle.site_meaning.specs.authoriser.declared.outcome.Outcome.TheVariants.{Satisfied, NotSatisfied, Errs}
use Rattle.site_meaning.specs.authoriser.Answers.{NamedPolicy, PolicyOutcome, ArePolicyOutcomes, PolicyEvaluatesTo}
use Rattle.site_meaning.specs.authoriser.Answers.{fault_of, if_erring, erring, satisfied, decided, IsAnswer}
use Rattle.site_store.specs.schema.Schemas.{StatedSchema}
use Rattle.site_store.specs.entity_data.declared.entity.Entity.{Entity}
use Rattle.site_store.specs.entity_data.declared.data.EntityData.{EntityData}
use Rattle.site_store.specs.entity_data.Entities.{AreListed}
use Rattle.site_store.specs.entity_data.Listing.{in_either}
use Rattle.site_meaning.specs.entity_hierarchy.Laws.{MemberOfIsKept, MemberOfGivesAlike}
use Rattle.entities.specs.Entities.{entity_stated_in}
use Rattle.site_store.specs.stamped_store.Contents.{text_under, entities_of, policies_of}
use Rattle.site_store.specs.stamped_store.Store.{Store, entity_name}
use Rattle.sync_messages.specs.sync_format.declared.bodies.BodyFault.TheVariants.{Refused, OtherName}
use Rattle.entities.specs.Canonical.{canonical_text}
use Rattle.entities.specs.declared.fault.EntityFault.{EntityFault}
use Rattle.sync_messages.specs.Texts.{ReadsPolicy, ReadsEntity, entity_of_text, refused_by}
use Rattle.site_meaning.specs.StoreMeaning.{AreEntities, IsReadFrom, data_of, data_in}
use Rattle.sync_messages.specs.validator.Passing.{Passes}
use Rattle.site.specs.SoundAnswers.{HasPermittedErrors, StoredPoliciesAreSound, StoredAnswersAreSound}
use Rattle.site.specs.SoundWorlds.{AreRead, ValidationIsSound, entity_kept}
use Rattle.site.proofs.Values.{bound, is_it, demanded}
use Rattle.site.proofs.Stored.{mapped}

-- ---- what is stored was read

read_of : (r : Result Entity EntityFault) (e : Entity) → refused_by r ≡ Ok e → r ≡ Ok e
read_of (Ok y) e h = cc
read_of (Err f) e h = absurd cc

-- the entity that a text is read as was read from JSON, and has the uid of its entry
text_was_read : (s : StatedSchema) (uid : EntityUid) (text : List ℕ) (e : Entity) → ReadsEntity s uid text e
    → ((d : Data) × (entity_stated_in s d ≡ Ok e)) × (e.uid ≡ uid)
unfolding entity_of_text
text_was_read s uid text e h =
    let one = bound (or_fault (Refused 30) (json_of text)) (λ (json : Data). refused_by (entity_stated_in s json) >>= λ (x : Entity). demand (Refused 57) (bytes_eq (canonical_text x) text) >>= λ (c : ⊤). demand OtherName (is_same x.uid uid) >>= λ (n : ⊤). Ok x) e h in
    let two = bound (refused_by (entity_stated_in s one.0)) (λ (x : Entity). demand (Refused 57) (bytes_eq (canonical_text x) text) >>= λ (c : ⊤). demand OtherName (is_same x.uid uid) >>= λ (n : ⊤). Ok x) e one.2 in
    let three = bound (demand (Refused 57) (bytes_eq (canonical_text two.0) text)) (λ (c : ⊤). demand OtherName (is_same two.0.uid uid) >>= λ (n : ⊤). Ok two.0) e two.2 in
    let four = bound (demand OtherName (is_same two.0.uid uid)) (λ (n : ⊤). Ok two.0) e three.2 in
    let is : two.0 ≡ e = is_it two.0 e four.2 in (
      (one.0, subst (λ (x : Entity). entity_stated_in s one.0 ≡ Ok x) is (read_of (entity_stated_in s one.0) two.0 two.1)),
      subst (λ (x : Entity). x.uid ≡ uid) is (same_uid two.0.uid uid (demanded OtherName (is_same two.0.uid uid) four.0 four.1)),
    )

kept_is : (u : EntityUid) (e : Entity) → e.uid ≡ u → e ≡ entity_kept u (data_of e)
kept_is u e h = subst (λ (v : EntityUid). e ≡ record { uid = v; attrs = e.attrs; parents = e.parents }) h refl

module _ (s : StatedSchema) (t : Store) (entities : EntityUid → Option Entity) (are : AreEntities (ReadsEntity s) t entities) where
  read_at : (u : EntityUid) (kept : EntityData) (o : Option (List ℕ)) (x : Option Entity) → IsReadFrom (ReadsEntity s u) o x
      → option_map data_of x ≡ Some kept → (d : Data) × (entity_stated_in s d ≡ Ok (entity_kept u kept))
  read_at u kept None None is h = absurd cc
  read_at u kept None (Some e) is h = absurd is
  read_at u kept (Some text) None is h = absurd is
  read_at u kept (Some text) (Some e) is h =
      let read = text_was_read s u text e is in
      let same : data_of e ≡ kept = cc in
      (read.0.0, subst (λ (k : EntityData). entity_stated_in s read.0.0 ≡ Ok (entity_kept u k)) same (subst (λ (x : Entity). entity_stated_in s read.0.0 ≡ Ok x) (kept_is u e read.1) read.0.1))

  are_read : AreRead s (data_in entities)
  are_read u kept h = read_at u kept (text_under t (entity_name u)) (entities u) (are u) h

  -- ---- what is stored is listed

  abbrev uids : List EntityUid
  uids = map (λ (e : EntityUid × List ℕ). e.0) (entities_of t)

  has_text : (u : EntityUid) (o : Option (List ℕ)) (x : Option Entity) → IsReadFrom (ReadsEntity s u) o x
      → IsSome (option_map data_of x) → (text : List ℕ) × (o ≡ Some text)
  has_text u None None is h = absurd cc
  has_text u None (Some e) is h = absurd is
  has_text u (Some text) x is h = (text, refl)

  has_entity : (u : EntityUid) (text : List ℕ) (o : Option (List ℕ)) (x : Option Entity) → IsReadFrom (ReadsEntity s u) o x
      → o ≡ Some text → IsSome (option_map data_of x)
  has_entity u text None x is h = absurd cc
  has_entity u text (Some w) None is h = absurd is
  has_entity u text (Some w) (Some e) is h = refl

from_map : {A B : Type 0} (f : A → B) (xs : List A) (y : B) → Contains (map f xs) y → (x : A) × Contains xs x × (f x ≡ y)
from_map f [] y h = Contains-none y h
from_map f (w ∷ xs) y h = elim (Contains-cases (f w) (map f xs) y h) [
  | inl e ↦ (w, Contains-here w xs, e)
  | inr m ↦ let more = from_map f xs y m in (more.0, Contains-there w xs more.0 more.1, more.2)
]

abbrev TellsContents : Type 0
TellsContents = (s : Store) (uid : EntityUid) (text : List ℕ) → Contains (entities_of s) (uid, text) ↔ (text_under s (entity_name uid) ≡ Some text)

are_listed : TellsContents → (s : StatedSchema) (t : Store) (entities : EntityUid → Option Entity) (are : AreEntities (ReadsEntity s) t entities)
    → AreListed (data_in entities) (uids s t entities are)
are_listed tells s t entities are u = (
  (λ m.
      let from = from_map (λ (e : EntityUid × List ℕ). e.0) (entities_of t) u m in
      let at : text_under t (entity_name u) ≡ Some from.0.1 = (tells t u from.0.1).0 (subst (λ (x : EntityUid). Contains (entities_of t) (x, from.0.1)) from.2 from.1) in
      has_entity s t entities are u from.0.1 (text_under t (entity_name u)) (entities u) (are u) at),
  (λ h.
      let text = has_text s t entities are u (text_under t (entity_name u)) (entities u) (are u) h in
      mapped (λ (e : EntityUid × List ℕ). e.0) (entities_of t) (u, text.0) ((tells t u text.0).1 text.1)),
)

-- ---- the policies pass

all_pass : (s : StatedSchema) (ts : List (List ℕ × List ℕ)) (ps : List NamedPolicy)
    → AllZip (λ (t : List ℕ × List ℕ) (p : NamedPolicy). (p.id ≡ t.0) × ReadsPolicy s t.1 p.policy) ts ps
    → (p : NamedPolicy) → Contains ps p → Passes s p.policy
all_pass s [] [] h p m = Contains-none p m
all_pass s [] (q ∷ qs) h p m = absurd h
all_pass s (t ∷ ts) [] h p m = absurd h
all_pass s (t ∷ ts) (q ∷ qs) h p m = elim (Contains-cases q qs p m) [
  | inl e ↦ subst (λ (x : NamedPolicy). Passes s x.policy) e h.0.1.passes
  | inr more ↦ all_pass s ts qs h.1 p more
]

-- ---- what errs in an answer

abbrev Harmless : ErringPolicy → Type 0
Harmless e = IsPermittedError (fault_of e.error)

one_errs : (W : Entities) (q : Request) (p : NamedPolicy) (id : List ℕ) (effect : Effect) (o : Outcome) → PolicyEvaluatesTo W q p.policy o
    → ((r : EvaluationResult) → EvaluatesTo W q (expression_of p.policy) r → Fits boolean_type r)
    → (e : ErringPolicy) → Contains (if_erring (record { id = id; effect = effect; outcome = o })) e → Harmless e
one_errs W q p id effect Satisfied is right e m = Contains-none e m
one_errs W q p id effect NotSatisfied is right e m = Contains-none e m
one_errs W q p id effect (Errs error) is right e m = elim (Contains-cases (record { policy = id; error = error }) [] e m) [
  | inl at ↦ subst (λ (x : ErringPolicy). Harmless x) at (right (Err (fault_of error)) is)
  | inr none ↦ Contains-none e none
]

erring_are : (W : Entities) (q : Request) (ps : List NamedPolicy) (js : List PolicyOutcome) → ArePolicyOutcomes W q ps js
    → ((p : NamedPolicy) → Contains ps p → (r : EvaluationResult) → EvaluatesTo W q (expression_of p.policy) r → Fits boolean_type r)
    → (e : ErringPolicy) → Contains (erring js) e → Harmless e
erring_are W q [] [] is right e m = Contains-none e m
erring_are W q [] (j ∷ js) is right e m = absurd is
erring_are W q (p ∷ ps) [] is right e m = absurd is
erring_are W q (p ∷ ps) (j ∷ js) is right e m = elim (in_either (if_erring j) (erring js) e m) [
  | inl one ↦ one_errs W q p j.id j.effect j.outcome is.0.outcome (right p (Contains-here p ps)) e one
  | inr more ↦ erring_are W q ps js is.1 (λ x at. right x (Contains-there p ps x at)) e more
]

errors_are : (permits forbids : List (List ℕ)) (es : List ErringPolicy) → (decided permits forbids es).errors ≡ es
errors_are permits (f ∷ forbids) es = refl
errors_are [] [] es = refl
errors_are (p ∷ permits) [] es = refl

answer_errs : (W : Entities) (q : Request) (ps : List NamedPolicy) (a : Answer) → IsAnswer W q ps a
    → ((p : NamedPolicy) → Contains ps p → (r : EvaluationResult) → EvaluatesTo W q (expression_of p.policy) r → Fits boolean_type r)
    → HasPermittedErrors a
answer_errs W q ps a (inl denial) right e m =
    Contains-none e (subst (λ (x : Answer). Contains x.errors e) denial.rest m)
answer_errs W q ps a (inr is) right e m =
    let js = is.policy_outcomes in
    erring_are W q ps js is.outcomes right e
    (subst (λ (es : List ErringPolicy). Contains es e) (errors_are (satisfied Permit js) (satisfied Forbid js) (erring js))
    (subst (λ (x : Answer). Contains x.errors e) is.answer m))

pub stored_policies_are_sound : MemberOfIsKept → MemberOfGivesAlike → ValidationIsSound → TellsContents → StoredPoliciesAreSound
stored_policies_are_sound kept alike right tells bytes schema stated s d q states policies are_policies entities are p at r gives =
    right bytes schema stated (data_in entities) (are_read schema s entities are)
    (uids schema s entities are) (are_listed tells schema s entities are)
    d q states p.policy (all_pass schema (policies_of s) policies are_policies p at) r
    ((alike bytes schema stated (data_in entities) q (expression_of p.policy) r).0
    (subst (λ (W : Entities). EvaluatesTo W q (expression_of p.policy) r) (kept bytes schema stated (data_in entities)) gives))

pub stored_answers_are_sound : MemberOfIsKept → MemberOfGivesAlike → ValidationIsSound → TellsContents → StoredAnswersAreSound
stored_answers_are_sound kept alike right tells bytes schema stated s d q states a is =
    answer_errs _ q is.policies a is.is_answer (λ p at r gives.
    (stored_policies_are_sound kept alike right tells bytes schema stated s d q states is.policies is.are_policies is.entities is.are_entities p at r gives).0)
