use Rattle.std.proofs.Common.{◌≡◌, ◌∙◌, ◌∷◌, [], List, ℕ, Option, Some, None, IfOk, String, Vec, BTreeMap, Global, sym, ap, subst, rules}
use Rattle.serde_json.specs.Data.{Data}
use Rattle.serde_json.specs.View.{view, items_view, members_view}
use Rattle.serde_json.specs.Data as json
use Rattle.serde_json.specs.declared.value.Value.{Value, the_lemmas}
use Rattle.serde_json.specs.declared.value.Value.TheVariants as value
use Rattle.schema_types.specs.Cedar.{Cedar, CedarFields}
use Rattle.schema_types.specs.CedarViews.{cedar_view, cedar_fields_view}
use Rattle.entities.specs.Parts.{element_of, fields_in, declared_at}
use Rattle.entities.specs.Typing.{with_or, typed_value}
use Rattle.explanations.specs.Steps.{Step, Key}
use Rattle.explanations.specs.inner.FoundPaths.{or_else, absent_path, whole_path, value_path, item_path, member_path}
use Rattle.explanations.proofs.Going.{whole-other, item_goes, item_stops, items_done, member_unknown, member_goes, member_stops, members_done}
use Rattle.explanations.proofs.value_search.+find.Goals as goal

abbrev some_key : List ℕ → List Step → Option (List Step)
some_key k p = Some (Key k ∷ p)

abbrev Entries : Type 0
Entries = List (String Global × Value)

-- a member comes before an absent key
in_member : (fs : CedarFields) (d : Data) (found total : Option (List Step)) → found ≡ total → or_else found (absent_path fs d) ≡ or_else total (absent_path fs d)
in_member fs d found total e = ap (λ (o : Option (List Step)). or_else o (absent_path fs d)) e

-- the path in an array, by the type of the items, and in an object, by its fields
array_view : (xs : Vec Value Global) → view (value.Array xs) ≡ json.array (items_view xs.items)
array_view xs = search (rules, the_lemmas)

array_at : (t : Cedar) (v : Value) (xs : Vec Value Global) (o : Option Cedar) → v ≡ value.Array xs → o ≡ element_of t
    → with_or o (λ e. item_path e 0 (items_view xs.items)) (Some []) ≡ value_path t (view v)
unfolding value_path
array_at t v xs o is e =
    ap (λ (p : Option Cedar). with_or p (λ x. item_path x 0 (items_view xs.items)) (Some [])) e ∙ ap (λ (d : Data). value_path t d) (sym (ap view is ∙ array_view xs))

object_view : (ms : BTreeMap (String Global) Value) → view (value.Object ms) ≡ json.object (members_view ms.entries)
object_view ms = search (rules, the_lemmas)

object_at : (t : Cedar) (v : Value) (ms : BTreeMap (String Global) Value) (o : Option CedarFields) → v ≡ value.Object ms → o ≡ fields_in t
    → with_or o (λ fs. or_else (member_path fs (members_view ms.entries)) (absent_path fs (view v))) (whole_path (typed_value t (view v))) ≡ value_path t (view v)
unfolding value_path
object_at t v ms o is e =
    let d = json.object (members_view ms.entries) in
    subst
    (λ (x : Data). with_or o (λ fs. or_else (member_path fs (members_view ms.entries)) (absent_path fs x)) (whole_path (typed_value t x)) ≡ value_path t x) (sym (ap view is ∙ object_view ms))
    (ap (λ (p : Option CedarFields). with_or p (λ fs. or_else (member_path fs (members_view ms.entries)) (absent_path fs d)) (whole_path (typed_value t d))) e)

pub find-returns-in-Some : goal.find-returns-in-Some
find-returns-in-Some t c =
    subst (λ (x : Option (List Step)). IfOk c.find_item.result (λ o. o ≡ x))
    (array_at (cedar_view c.args.ty.now) c.args.value.now c.in-Array.items (Some (cedar_view c.in-Some.element.now)) c.in-Array.is c.in-Some.ensures) c.find_item.ensures

pub find-returns-in-None : goal.find-returns-in-None
find-returns-in-None t c =
    ap (λ (p : List Step). Some p) c.here.ensures ∙ array_at (cedar_view c.args.ty.now) c.args.value.now c.in-Array.items None c.in-Array.is c.in-None.ensures

pub find-returns-in-Some-record_fields : goal.find-returns-in-Some-record_fields
find-returns-in-Some-record_fields t c =
    subst (λ (x : Option (List Step)). IfOk c.find_in_members.result (λ o. o ≡ x))
    (object_at (cedar_view c.args.ty.now) c.args.value.now c.in-Object.members (Some (cedar_fields_view c.in-Some-record_fields.fields.now)) c.in-Object.is c.in-Some-record_fields.ensures)
    c.find_in_members.ensures

pub find-returns-in-None-record_fields : goal.find-returns-in-None-record_fields
find-returns-in-None-record_fields t c =
    subst (λ (x : Option (List Step)). IfOk c.find_whole.result (λ o. o ≡ x))
    (object_at (cedar_view c.args.ty.now) c.args.value.now c.in-Object.members None c.in-Object.is c.in-None-record_fields.ensures) c.find_whole.ensures

pub find-returns-in_default : goal.find-returns-in_default
find-returns-in_default t c =
    subst (λ (x : Option (List Step)). IfOk c.find_whole-in_default.result (λ o. o ≡ x)) (whole-other (cedar_view c.args.ty.now) c.args.value.now c.in_default.not-Array c.in_default.not-Object) c.find_whole-in_default.ensures

pub find_item-returns-in-Some : goal.find_item-returns-in-Some
find_item-returns-in-Some t c =
    let total = item_path (cedar_view c.args.ty.now) 0 (items_view c.args.items.now.items) in
    subst (λ (x : Option (List Step)). IfOk c.under.result (λ o. o ≡ x))
    (item_stops (cedar_view c.args.ty.now) c.deref-item-items.result.now c.loop-index.index c.item-item.result c.in-Some.trail total c.loop-index-test.true c.item-item.is
    (sym c.in-Some.is ∙ c.in-Ok.ensures) c.loop-index.invariant)
    c.under.ensures

pub find_item-loop-index-init : goal.find_item-loop-index-init
find_item-loop-index-init t c = ap (λ (vs : List Value). item_path (cedar_view c.args.ty.now) 0 (items_view vs)) (sym c.deref-item-items.ensures.value)

pub find_item-loop-index-preserved : goal.find_item-loop-index-preserved
find_item-loop-index-preserved t c =
    item_goes (cedar_view c.args.ty.now) c.deref-item-items.result.now c.loop-index.index c.item-item.result _ c.loop-index-test.true c.item-item.is
    (sym c.in-None.is ∙ c.in-Ok.ensures) c.loop-index.invariant

pub find_item-returns : goal.find_item-returns
find_item-returns t c = items_done (cedar_view c.args.ty.now) c.deref-item-items.result.now c.loop-index.index _ c.loop-index-test.false c.loop-index.invariant

pub find_in_members-returns-in-None-declared_type : goal.find_in_members-returns-in-None-declared_type
find_in_members-returns-in-None-declared_type t c =
    let fs = cedar_fields_view c.args.fields.now in
    let here = c.loop-key.invariant ∙ ap (λ (es : Entries). member_path fs (members_view es)) c.in-Some.ensures.steps in
    subst (λ (x : Option (List Step)). IfOk c.at_key.result (λ o. o ≡ x))
    (in_member fs (view c.args.value.now) (some_key c.as_str-name.result.now []) _
    (ap (λ (k : List ℕ). some_key k []) c.as_str-name.ensures.value
    ∙ member_unknown fs c.in-Some.key.now c.in-Some.member.now c.next.new.self _ (c.in-None-declared_type.ensures ∙ ap (λ (k : List ℕ). declared_at k fs) c.as_str-name.ensures.value) here))
    c.at_key.ensures

pub find_in_members-returns-in-Some-found : goal.find_in_members-returns-in-Some-found
find_in_members-returns-in-Some-found t c =
    let fs = cedar_fields_view c.args.fields.now in
    let here = c.loop-key.invariant ∙ ap (λ (es : Entries). member_path fs (members_view es)) c.in-Some.ensures.steps in
    subst (λ (x : Option (List Step)). IfOk c.under.result (λ o. o ≡ x))
    (in_member fs (view c.args.value.now) (some_key c.as_str-name.result.now c.in-Some-found.trail) _
    (ap (λ (k : List ℕ). some_key k c.in-Some-found.trail) c.as_str-name.ensures.value
    ∙ member_stops fs c.in-Some.key.now c.in-Some.member.now c.next.new.self (cedar_view c.in-Some-declared_type.ty.now) c.in-Some-found.trail _
    (c.in-Some-declared_type.ensures ∙ ap (λ (k : List ℕ). declared_at k fs) c.as_str-name.ensures.value) (sym c.in-Some-found.is ∙ c.in-Ok.ensures) here))
    c.under.ensures

pub find_in_members-loop-key-preserved : goal.find_in_members-loop-key-preserved
find_in_members-loop-key-preserved t c =
    let fs = cedar_fields_view c.args.fields.now in
    let here = c.loop-key.invariant ∙ ap (λ (es : Entries). member_path fs (members_view es)) c.in-Some.ensures.steps in
    member_goes fs c.in-Some.key.now c.in-Some.member.now c.next.new.self (cedar_view c.in-Some-declared_type.ty.now) _
    (c.in-Some-declared_type.ensures ∙ ap (λ (k : List ℕ). declared_at k fs) c.as_str-name.ensures.value) (sym c.in-None-found.is ∙ c.in-Ok.ensures) here

pub find_in_members-returns : goal.find_in_members-returns
find_in_members-returns t c =
    let fs = cedar_fields_view c.args.fields.now in
    subst (λ (x : Option (List Step)). IfOk c.find_absent.result (λ o. o ≡ x))
    (in_member fs (view c.args.value.now) None _
    (members_done fs _ (c.loop-key.invariant ∙ ap (λ (es : Entries). member_path fs (members_view es)) c.in-None.ensures.steps.0)))
    c.find_absent.ensures

pub find_item-returns-in-Err : goal.find_item-returns-in-Err
find_item-returns-in-Err t c = tt

pub find_in_members-returns-in-Err : goal.find_in_members-returns-in-Err
find_in_members-returns-in-Err t c = tt
