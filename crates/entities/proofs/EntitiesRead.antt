-- An entity that JSON states, or the first fault.
use Rattle.std.proofs.Common.{◌≡◌, ◌∙◌, ℕ, List, [], ◌∷◌, Bool, true, false, Option, Some, None, Result, Ok, Err, refl, sym, ap, subst, inl, inr}
use Rattle.std.specs.Prelude.{◌⊎◌, codes, ⊤, Contains}
use Rattle.serde_json.specs.Data.{Data, Members, no_members, member, object}
use Rattle.serde_json.specs.Find.{get}
use Rattle.values.specs.declared.entity_uid.EntityUid.{EntityUid}
use Rattle.values.specs.Fields.{Field}
use Rattle.values.specs.Values.{record_of, fields_of}
use Rattle.values.specs.Uids.{uid_cmp-IsTotalOrder, uid_cmp-IsAntisymmetric, equal-is}
use Rattle.entities.specs.declared.fault.EntityFault.{EntityFault}
use Rattle.entities.specs.Typing.{record_in}
use Rattle.entity_data.specs.ancestor_search.Hierarchy.{AscendingListsAreOne}
use Rattle.entity_data.specs.ancestor_search.Decided.{is_same}
use Rattle.entity_data.specs.ancestor_search.Deciding.{Contains-here, Contains-there, Contains-cases, Contains-none}
use Rattle.entity_data.specs.declared.entity.Entity.{Entity}
use Rattle.entity_data.specs.Listing.{set_has}
use Rattle.entity_data.specs.UidSets.{uid_set}
use Rattle.entity_data.proofs.UidLemmas.{sorted_set, set_from}
use Rattle.schema_types.specs.Cedar.{Cedar}
use Rattle.schema.specs.Schemas.{StatedSchema}
use Rattle.schema.specs.WellFormed.{IsActionType}
use Rattle.entities.specs.declared.fault.EntityFault.TheVariants.{BadShape, UnknownType, ActionEntity}
use Rattle.entities.specs.declared.fault.EntityFault.TheVariants.{BadParent, SelfParent, TagsLeftOut}
use Rattle.entities.specs.declared.stated.StatedEntity.{StatedEntity}
use Rattle.entities.specs.EntityForms.{is_absent_or_empty, or_empty, stated_in}
use Rattle.entities.specs.Entities.{is_action_type, shape_of, attributes_in, parent_fits, parents_fit, parents_in, entity_stated_in}
use Rattle.entities.specs.Laws.{ActionTypeTestIsExact}
use Rattle.entities.specs.StatedValues.{Reads}
use Rattle.entities.specs.StatedEntities.{HasForm, HasShape, MayHaveParent, DescribesEntity, RefusesParents, RefusesEntity}
use Rattle.entities.specs.StatedEntities as says
use Rattle.schema.specs.Agreement.{Gives, HasOneOutcome}
use Rattle.entities.proofs.ReadingSteps.{done, failed, true_false, untrue}
use Rattle.entities.proofs.Leaves.{Names}
use Rattle.entities.proofs.Refusals.{records_are_read, records_are_refused}
use Rattle.entities.proofs.Forms.{stated, Formed, HasNoForm, formed_or_none, is_form, is_no_form, members_there, emptiness, not_empty}
use Rattle.entities.proofs.OneOutcome.{gives, one_outcome}

pub record Laws : Type 0 where
  pub names : Names
  pub actions : ActionTypeTestIsExact
  pub lists : AscendingListsAreOne

-- ---- parents

pub same_is : (a b : EntityUid) → is_same a b ≡ true → a ≡ b
same_is a b h = (equal-is uid_cmp-IsTotalOrder uid_cmp-IsAntisymmetric a b).0 h

pub is_the_same : (a b : EntityUid) → a ≡ b → is_same a b ≡ true
is_the_same a b h = (equal-is uid_cmp-IsTotalOrder uid_cmp-IsAntisymmetric a b).1 h

others : (a b : EntityUid) → (a ≡ b → ⊥) → is_same a b ≡ false
others a b apart = untrue (is_same a b) (λ h. apart (same_is a b h))

self_step : (s : StatedSchema) (uid p : EntityUid) (ps : List EntityUid) → is_same p uid ≡ true → parents_fit s uid (p ∷ ps) ≡ failed SelfParent
unfolding parents_fit parent_fits
self_step s uid p ps same = rw same refl

bad_step : (s : StatedSchema) (uid p : EntityUid) (ps : List EntityUid) → is_same p uid ≡ false → s.may_have_parent uid.type_name p.type_name ≡ false
    → parents_fit s uid (p ∷ ps) ≡ failed BadParent
unfolding parents_fit parent_fits
bad_step s uid p ps same may = rw (same, may) refl

fit_step : (s : StatedSchema) (uid p : EntityUid) (ps : List EntityUid) (r : Result ⊤ EntityFault) → is_same p uid ≡ false → s.may_have_parent uid.type_name p.type_name ≡ true
    → parents_fit s uid ps ≡ r → parents_fit s uid (p ∷ ps) ≡ r
unfolding parents_fit parent_fits
fit_step s uid p ps r same may rest = rw (same, may) rest

none_step : (s : StatedSchema) (uid : EntityUid) → parents_fit s uid [] ≡ done tt
unfolding parents_fit
none_step s uid = refl

abbrev AllFit : StatedSchema → EntityUid → List EntityUid → Type 0
AllFit s uid ps = (p : EntityUid) → Contains ps p → MayHaveParent s uid p

all_fit : (s : StatedSchema) (uid : EntityUid) (ps : List EntityUid) → AllFit s uid ps → parents_fit s uid ps ≡ done tt
all_fit s uid [] all = none_step s uid
all_fit s uid (p ∷ ps) all =
    let first = all p (Contains-here p ps) in
    fit_step s uid p ps (done tt) (others p uid first.other) first.type_fits (all_fit s uid ps (λ q h. all q (Contains-there p ps q h)))

is_refused_parent : (s : StatedSchema) (uid : EntityUid) (ps : List EntityUid) (f : EntityFault) → RefusesParents s uid ps f → parents_fit s uid ps ≡ failed f
is_refused_parent s uid ps f (says.self_parent p more same) = self_step s uid p more (is_the_same p uid same)
is_refused_parent s uid ps f (says.bad_parent p more other none) = bad_step s uid p more (others p uid other) (untrue (s.may_have_parent uid.type_name p.type_name) none)
is_refused_parent s uid ps f (says.later_parent p more g fits rest) =
    fit_step s uid p more (failed g) (others p uid fits.other) fits.type_fits (is_refused_parent s uid more g rest)

abbrev ParentsJudged : StatedSchema → EntityUid → List EntityUid → Type 0
ParentsJudged s uid ps = AllFit s uid ps ⊎ ((f : EntityFault) × RefusesParents s uid ps f)

fits_too : (s : StatedSchema) (uid p : EntityUid) (ps : List EntityUid) → MayHaveParent s uid p → ParentsJudged s uid ps → ParentsJudged s uid (p ∷ ps)
fits_too s uid p ps first (inl all) = inl (λ q h. elim (Contains-cases p ps q h) [ inl same ↦ subst (MayHaveParent s uid) same first | inr later ↦ all q later ])
fits_too s uid p ps first (inr r) = inr (r.0, says.later_parent p ps r.0 first r.1)

parent_by_type : (s : StatedSchema) (uid p : EntityUid) (ps : List EntityUid) → (p ≡ uid → ⊥) → ParentsJudged s uid ps → (b : Bool) → s.may_have_parent uid.type_name p.type_name ≡ b
    → ParentsJudged s uid (p ∷ ps)
parent_by_type s uid p ps other rest true may = fits_too s uid p ps (record { other = other; type_fits = may }) rest
parent_by_type s uid p ps other rest false may = inr (BadParent, says.bad_parent p ps other (λ h. true_false (s.may_have_parent uid.type_name p.type_name) h may))

parent_by : (s : StatedSchema) (uid p : EntityUid) (ps : List EntityUid) → ParentsJudged s uid ps → (b : Bool) → is_same p uid ≡ b → ParentsJudged s uid (p ∷ ps)
parent_by s uid p ps rest true same = inr (SelfParent, says.self_parent p ps (same_is p uid same))
parent_by s uid p ps rest false same =
    parent_by_type s uid p ps (λ h. true_false (is_same p uid) (is_the_same p uid h) same) rest (s.may_have_parent uid.type_name p.type_name) refl

parents_judged : (s : StatedSchema) (uid : EntityUid) (ps : List EntityUid) → ParentsJudged s uid ps
parents_judged s uid [] = inl (λ p h. Contains-none p h)
parents_judged s uid (p ∷ ps) = parent_by s uid p ps (parents_judged s uid ps) (is_same p uid) refl

-- ---- one step of reading

action_step : (s : StatedSchema) (name : List ℕ) (d : Data) → is_action_type name ≡ true → attributes_in s name d ≡ failed ActionEntity
unfolding attributes_in shape_of
action_step s name d action = rw action refl

unknown_step : (s : StatedSchema) (name : List ℕ) (d : Data) → is_action_type name ≡ false → s.shape name ≡ None → attributes_in s name d ≡ failed UnknownType
unfolding attributes_in shape_of
unknown_step s name d action shape = rw (action, shape) refl

tags_step : (s : StatedSchema) (name : List ℕ) (d : Data) (t : Cedar) → is_action_type name ≡ false → s.shape name ≡ Some t → is_absent_or_empty (get (codes "tags") d) ≡ false
    → attributes_in s name d ≡ failed TagsLeftOut
unfolding attributes_in shape_of
tags_step s name d t action shape tags = rw (action, shape, tags) refl

record_step : (s : StatedSchema) (name : List ℕ) (d : Data) (t : Cedar) (x : Data) (r : Result (List Field) EntityFault) → is_action_type name ≡ false → s.shape name ≡ Some t
    → is_absent_or_empty (get (codes "tags") d) ≡ true → or_empty (get (codes "attrs") d) ≡ x → record_in t x ≡ r → attributes_in s name d ≡ r
unfolding attributes_in shape_of
record_step s name d t x r action shape tags at read = rw (action, shape, tags, at, read) refl

entity_step : (s : StatedSchema) (d : Data) (uid : EntityUid) (ps : List EntityUid) (attrs : List Field) → stated_in d ≡ done (stated uid ps) → attributes_in s uid.type_name d ≡ done attrs
    → parents_fit s uid ps ≡ done tt → entity_stated_in s d ≡ done (record { uid = uid; attrs = attrs; parents = uid_set ps })
unfolding entity_stated_in parents_in
entity_step s d uid ps attrs form attributed fit = rw (form, attributed, fit) refl

form_fails : (s : StatedSchema) (d : Data) (f : EntityFault) → stated_in d ≡ failed f → entity_stated_in s d ≡ failed f
unfolding entity_stated_in
form_fails s d f e = rw e refl

attributes_fail : (s : StatedSchema) (d : Data) (uid : EntityUid) (ps : List EntityUid) (f : EntityFault) → stated_in d ≡ done (stated uid ps) → attributes_in s uid.type_name d ≡ failed f
    → entity_stated_in s d ≡ failed f
unfolding entity_stated_in
attributes_fail s d uid ps f form e = rw (form, e) refl

parents_fail : (s : StatedSchema) (d : Data) (uid : EntityUid) (ps : List EntityUid) (attrs : List Field) (f : EntityFault) → stated_in d ≡ done (stated uid ps)
    → attributes_in s uid.type_name d ≡ done attrs → parents_fit s uid ps ≡ failed f → entity_stated_in s d ≡ failed f
unfolding entity_stated_in parents_in
parents_fail s d uid ps attrs f form attributed e = rw (form, attributed, e) refl

module _ (laws : Laws) (s : StatedSchema) (d : Data) where
  is_action : (name : List ℕ) → IsActionType name → is_action_type name ≡ true
  is_action name h = (laws.actions name).1 h

  no_action : (name : List ℕ) → (IsActionType name → ⊥) → is_action_type name ≡ false
  no_action name none = untrue (is_action_type name) (λ h. none ((laws.actions name).0 h))

  -- ---- what is stated is given

  attributes_of : (uid : EntityUid) (ps : List EntityUid) (ms : Members) (t : Cedar) (r : Result (List Field) EntityFault) → HasForm d uid ps ms no_members → HasShape s uid.type_name t
      → record_in t (object ms) ≡ r → attributes_in s uid.type_name d ≡ r
  attributes_of uid ps ms t r form shape read =
      record_step s uid.type_name d t (object ms) r (no_action uid.type_name shape.no_action) shape.declared (emptiness (codes "tags") d no_members form.has_tags)
      (members_there (codes "attrs") d ms form.has_attributes) read

  read_attributes : (uid : EntityUid) (ps : List EntityUid) (ms : Members) (t : Cedar) (attrs : List Field) → HasForm d uid ps ms no_members → HasShape s uid.type_name t
      → Reads t (object ms) (record_of (fields_of attrs)) → attributes_in s uid.type_name d ≡ done attrs
  read_attributes uid ps ms t attrs form shape read = attributes_of uid ps ms t (done attrs) form shape ((records_are_read laws.names t ms attrs).1 read)

  set_of_listed : (e : Entity) (h : DescribesEntity s d e) → uid_set h.listed ≡ e.parents
  set_of_listed e h = sym (laws.lists e.parents (uid_set h.listed) h.ascend (sorted_set h.listed) (λ a. (λ c. set_has h.listed a ((h.same a).0 c), λ c. (h.same a).1 (set_from h.listed a c))))

  states : (e : Entity) → DescribesEntity s d e → entity_stated_in s d ≡ done e
  states e h =
      entity_step s d e.uid h.listed e.attrs (is_form laws.names d e.uid h.listed h.attributes no_members h.form)
      (read_attributes e.uid h.listed h.attributes h.shape e.attrs h.form h.has_shape h.reads) (all_fit s e.uid h.listed h.fit)
      ∙ ap (λ (us : List EntityUid). done (record { uid = e.uid; attrs = e.attrs; parents = us })) (set_of_listed e h)

  refuses : (f : EntityFault) → RefusesEntity s d f → entity_stated_in s d ≡ failed f
  refuses f (says.bad_shape none) = form_fails s d BadShape (is_no_form laws.names d none)
  refuses f (says.action_entity uid ps ms tags form action) =
      attributes_fail s d uid ps ActionEntity (is_form laws.names d uid ps ms tags form) (action_step s uid.type_name d (is_action uid.type_name action))
  refuses f (says.unknown_type uid ps ms tags form action shape) =
      attributes_fail s d uid ps UnknownType (is_form laws.names d uid ps ms tags form) (unknown_step s uid.type_name d (no_action uid.type_name action) shape)
  refuses f (says.tags_left_out uid ps ms tags t form shape some) =
      attributes_fail s d uid ps TagsLeftOut (is_form laws.names d uid ps ms tags form)
      (tags_step s uid.type_name d t (no_action uid.type_name shape.no_action) shape.declared (emptiness (codes "tags") d tags form.has_tags ∙ not_empty tags some))
  refuses f (says.bad_attributes uid ps ms t fault form shape bad) =
      attributes_fail s d uid ps fault (is_form laws.names d uid ps ms no_members form)
      (attributes_of uid ps ms t (failed fault) form shape ((records_are_refused laws.names t ms fault).1 bad))
  refuses f (says.bad_parents uid ps ms t attrs fault form shape read bad) =
      parents_fail s d uid ps attrs fault (is_form laws.names d uid ps ms no_members form) (read_attributes uid ps ms t attrs form shape read) (is_refused_parent s uid ps fault bad)

  -- ---- something is stated, or refused

  abbrev Outcome : Type 0
  Outcome = ((e : Entity) × DescribesEntity s d e) ⊎ ((f : EntityFault) × RefusesEntity s d f)

  by_parents : (uid : EntityUid) (ps : List EntityUid) (ms : Members) (t : Cedar) (attrs : List Field) → HasForm d uid ps ms no_members → HasShape s uid.type_name t
      → Reads t (object ms) (record_of (fields_of attrs)) → ParentsJudged s uid ps → Outcome
  by_parents uid ps ms t attrs form shape read (inl all) = inl (
    record { uid = uid; attrs = attrs; parents = uid_set ps },
    record {
      listed = ps;
      attributes = ms;
      shape = t;
      form = form;
      has_shape = shape;
      reads = read;
      fit = all;
      ascend = sorted_set ps;
      same = λ p. (set_from ps p, set_has ps p);
    },
  )
  by_parents uid ps ms t attrs form shape read (inr bad) = inr (bad.0, says.bad_parents uid ps ms t attrs bad.0 form shape read bad.1)

  by_record : (uid : EntityUid) (ps : List EntityUid) (ms : Members) (t : Cedar) → HasForm d uid ps ms no_members → HasShape s uid.type_name t → (r : Result (List Field) EntityFault)
      → record_in t (object ms) ≡ r → Outcome
  by_record uid ps ms t form shape (Ok attrs) e = by_parents uid ps ms t attrs form shape ((records_are_read laws.names t ms attrs).0 e) (parents_judged s uid ps)
  by_record uid ps ms t form shape (Err f) e = inr (f, says.bad_attributes uid ps ms t f form shape ((records_are_refused laws.names t ms f).0 e))

  some_member : (k : List ℕ) (x : Data) (ms : Members) → member k x ms ≡ no_members → ⊥
  some_member k x ms e = absurd cc

  by_tags : (uid : EntityUid) (ps : List EntityUid) (ms tags : Members) (t : Cedar) → HasForm d uid ps ms tags → HasShape s uid.type_name t → Outcome
  by_tags uid ps ms no_members t form shape = by_record uid ps ms t form shape (record_in t (object ms)) refl
  by_tags uid ps ms (member k x more) t form shape = inr (TagsLeftOut, says.tags_left_out uid ps ms (member k x more) t form shape (some_member k x more))

  by_shape : (uid : EntityUid) (ps : List EntityUid) (ms tags : Members) → HasForm d uid ps ms tags → (IsActionType uid.type_name → ⊥) → (o : Option Cedar) → s.shape uid.type_name ≡ o → Outcome
  by_shape uid ps ms tags form action None e = inr (UnknownType, says.unknown_type uid ps ms tags form action e)
  by_shape uid ps ms tags form action (Some t) e = by_tags uid ps ms tags t form (record { no_action = action; declared = e })

  by_action : (uid : EntityUid) (ps : List EntityUid) (ms tags : Members) → HasForm d uid ps ms tags → (b : Bool) → is_action_type uid.type_name ≡ b → Outcome
  by_action uid ps ms tags form true e = inr (ActionEntity, says.action_entity uid ps ms tags form ((laws.actions uid.type_name).0 e))
  by_action uid ps ms tags form false e =
      by_shape uid ps ms tags form (λ h. true_false (is_action_type uid.type_name) (is_action uid.type_name h) e) (s.shape uid.type_name) refl

  by_form : ((st : StatedEntity) × Formed laws.names d st) ⊎ HasNoForm laws.names d → Outcome
  by_form (inl h) = by_action h.0.uid h.0.parents h.1.0 h.1.1 h.1.2 (is_action_type h.0.uid.type_name) refl
  by_form (inr none) = inr (BadShape, says.bad_shape none)

  pub entity_given : Gives (entity_stated_in s d) (DescribesEntity s d) (RefusesEntity s d)
  entity_given = gives (entity_stated_in s d) (DescribesEntity s d) (RefusesEntity s d) states refuses (by_form (formed_or_none laws.names d))

  pub entity_outcome : HasOneOutcome (DescribesEntity s d) (RefusesEntity s d)
  entity_outcome = one_outcome (entity_stated_in s d) (DescribesEntity s d) (RefusesEntity s d) states refuses (by_form (formed_or_none laws.names d))
