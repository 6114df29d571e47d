use Rattle.std.proofs.Common.{◌≡◌, ◌∙◌, ◌++◌, ◌∷◌, [], string_bytes, ap, subst, List, ℕ}
use Rattle.std.proofs.lemmas.Result.{err_from_is_err_and}
use Rattle.serde_json.specs.View.{members_view}
use Rattle.entities.specs.Parts.{declared_at}
use Rattle.schema_types.specs.CedarViews.{cedar_view, cedar_fields_view}
use Rattle.entities.specs.Typing.{typed_members}
use Rattle.entities.proofs.Walk.{Entry, Ordered, with_front, item_goes, item_ends, items_done, member_goes, member_ends, member_unknown, members_done, ordered_first, next_ordered, front_none, pushed}
use Rattle.entities.proofs.Passing.{ahead}
use Rattle.entities.proofs.value_reading.+typed_value.Goals as goal

pub typed_items-returns-in_err-value : goal.typed_items-returns-in_err-value
typed_items-returns-in_err-value t c =
    let p = err_from_is_err_and c.from_residual.result c.from_residual.ensures.1 in
    rw (p.1, p.2) (item_ends (cedar_view c.args.ty.now) c.deref-item-items.result.now c.loop-item.item-index c.item-item.result c.loop-item.values.items _ c.in_err-value.field-0.0
    c.loop-item-test.true c.item-item.is c.in_err-value.ensures.reads c.loop-item.invariant)

pub typed_items-loop-item-preserved : goal.typed_items-loop-item-preserved
typed_items-loop-item-preserved t c =
    let e : c.push.new.self.items ≡ c.loop-item.values.items ++ c.in_ok-value.value ∷ [] = c.in_ok-push.ensures.items in
    rw e (item_goes (cedar_view c.args.ty.now) c.deref-item-items.result.now c.loop-item.item-index c.item-item.result c.loop-item.values.items c.in_ok-value.value _
    c.loop-item-test.true c.item-item.is c.in_ok-value.ensures.reads c.loop-item.invariant)

pub typed_items-returns : goal.typed_items-returns
typed_items-returns t c = items_done (cedar_view c.args.ty.now) c.deref-item-items.result.now c.loop-item.item-index c.loop-item.values.items _ c.loop-item-test.false c.loop-item.invariant

pub typed_members-loop-key-init : goal.typed_members-loop-key-init
typed_members-loop-key-init t c =
    let it : c.into_iter-key-iterator.result ≡ c.args.members.now.entries = c.into_iter-key-iterator.ensures.into_iter_gives ∙ c.iter-key-items.ensures.rest in
    rw (c.new-record.ensures, it) (front_none (typed_members (cedar_fields_view c.args.fields.now) (members_view c.args.members.now.entries)), ordered_first c.args.members.now.entries c.iter-key-items.ensures.ordered)

pub typed_members-returns-in-None-declared_type : goal.typed_members-returns-in-None-declared_type
typed_members-returns-in-None-declared_type t c =
    let e : Entry = (c.in-Some.key.now, c.in-Some.member.now) in
    let gs = cedar_fields_view c.from_name-rest.result.now in
    let order : Ordered c.loop-key.record (e ∷ c.next.new.self) = subst (λ (es : List Entry). Ordered c.loop-key.record es) c.in-Some.ensures.steps c.loop-key.invariant.1 in
    let here = c.loop-key.invariant.0 ∙ ap (λ (es : List Entry). with_front c.loop-key.record (typed_members (cedar_fields_view c.loop-key.rest.now) (members_view es))) c.in-Some.ensures.steps in
    let left = ahead c.as_str-name.result.now (cedar_fields_view c.loop-key.rest.now) gs e c.next.new.self c.loop-key.record _ c.as_str-name.ensures.value c.from_name-rest.ensures order here in
    λ other. member_unknown gs e c.next.new.self c.loop-key.record _ (c.in-None-declared_type.ensures ∙ ap (λ (k : List ℕ). declared_at k gs) c.as_str-name.ensures.value) left

pub typed_members-returns-in_err-value : goal.typed_members-returns-in_err-value
typed_members-returns-in_err-value t c =
    let p = err_from_is_err_and c.from_residual.result c.from_residual.ensures.1 in
    let e : Entry = (c.in-Some.key.now, c.in-Some.member.now) in
    let gs = cedar_fields_view c.from_name-rest.result.now in
    let order : Ordered c.loop-key.record (e ∷ c.next.new.self) = subst (λ (es : List Entry). Ordered c.loop-key.record es) c.in-Some.ensures.steps c.loop-key.invariant.1 in
    let here = c.loop-key.invariant.0 ∙ ap (λ (es : List Entry). with_front c.loop-key.record (typed_members (cedar_fields_view c.loop-key.rest.now) (members_view es))) c.in-Some.ensures.steps in
    let left = ahead c.as_str-name.result.now (cedar_fields_view c.loop-key.rest.now) gs e c.next.new.self c.loop-key.record _ c.as_str-name.ensures.value c.from_name-rest.ensures order here in
    rw (p.1, p.2) (member_ends gs e c.next.new.self (cedar_view c.in-Some-declared_type.ty.now) c.loop-key.record _ c.in_err-value.field-0.0
    (c.in-Some-declared_type.ensures ∙ ap (λ (k : List ℕ). declared_at k gs) c.as_str-name.ensures.value) c.in_err-value.ensures.reads left)

pub typed_members-loop-key-preserved : goal.typed_members-loop-key-preserved
typed_members-loop-key-preserved t c =
    let e : Entry = (c.in-Some.key.now, c.in-Some.member.now) in
    let gs = cedar_fields_view c.from_name-rest.result.now in
    let here = c.loop-key.invariant.0 ∙ ap (λ (es : List Entry). with_front c.loop-key.record (typed_members (cedar_fields_view c.loop-key.rest.now) (members_view es))) c.in-Some.ensures.steps in
    let order : Ordered c.loop-key.record (e ∷ c.next.new.self) = subst (λ (es : List Entry). Ordered c.loop-key.record es) c.in-Some.ensures.steps c.loop-key.invariant.1 in
    let left = ahead c.as_str-name.result.now (cedar_fields_view c.loop-key.rest.now) gs e c.next.new.self c.loop-key.record _ c.as_str-name.ensures.value c.from_name-rest.ensures order here in
    let named : c.in_ok-name.name ≡ string_bytes e.0 = c.in_ok-name.ensures ∙ c.as_str-name.ensures.value in
    let last = pushed c.loop-key.record c.insert.new.self e c.next.new.self c.in_ok-name.name c.in_ok-value.value c.in_ok-insert.ensures.ok named order in
    rw last (
      member_goes gs e c.next.new.self (cedar_view c.in-Some-declared_type.ty.now) c.loop-key.record c.in_ok-value.value _
          (c.in-Some-declared_type.ensures ∙ ap (λ (k : List ℕ). declared_at k gs) c.as_str-name.ensures.value) c.in_ok-value.ensures.reads left,
      next_ordered c.loop-key.record e c.next.new.self c.in_ok-value.value order,
    )

pub typed_members-returns : goal.typed_members-returns
typed_members-returns t c = members_done (cedar_fields_view c.loop-key.rest.now) c.loop-key.record _
    (c.loop-key.invariant.0 ∙ ap (λ (es : List Entry). with_front c.loop-key.record (typed_members (cedar_fields_view c.loop-key.rest.now) (members_view es))) c.in-None.ensures.steps.0)
