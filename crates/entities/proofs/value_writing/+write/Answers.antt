use Rattle.std.proofs.Common.{◌≡◌, ◌∙◌, [], ◌<◌, ◌∷◌, ◌++◌, arith, sym, ap, subst, append_assoc, string_cmp, rules}
use Rattle.json.specs.Token.{key}
use Rattle.std.specs.List.Sorted.{IsStrictlySortedBy}
use Rattle.std.specs.Map.{keys_of}
use Rattle.values.specs.Values.{height, heights, field_heights, values_of, fields_of}
use Rattle.values.specs.ValueView.{of_entries}
use Rattle.values.proofs.Records.{Entry}
use Rattle.values.proofs.Depths.{member_height, field_height}
use Rattle.entity_uids.proofs.Appending.{wrote, ends}
use Rattle.entity_uids.proofs.Adding.{alike}
use Rattle.entity_uids.proofs.Nested.{IsInObject, list_begun, list_next, list_ended, member_written}
use Rattle.entities.specs.CanonicalValues.{value_json, fields_json}
use Rattle.entities.proofs.Written.{entries_json, set_written, fields_begun, fields_next, fields_ended}
use Rattle.entities.proofs.value_writing.+write.Goals as goal

pub write_items-write_value-requires : goal.write_items-write_value-requires
write_items-write_value-requires t c =
    let deep : height c.member-item.result < heights (values_of c.args.members.now) =
    rw c.member-item.is (member_height c.args.members.now c.loop-member.member-index c.member-item.result c.loop-member-test.true) in
    (omega (arith, deep), tt)

pub write_items-loop-member-init : goal.write_items-loop-member-init
write_items-loop-member-init t c = list_begun value_json c.args.members.now (wrote c.in_ok-begin_array.ensures)

pub write_items-loop-member-preserved : goal.write_items-loop-member-preserved
write_items-loop-member-preserved t c =
    list_next value_json c.args.members.now c.loop-member.member-index c.member-item.result c.loop-member-test.true c.member-item.is c.loop-member.invariant c.in_ok-write_value.ensures

pub write_items-returns : goal.write_items-returns
write_items-returns t c = ends c.end_array.result _ c.end_array.ensures (λ e.
    set_written c.args.members.now (list_ended value_json c.args.members.now c.loop-member.member-index c.loop-member-test.false c.loop-member.invariant e))

pub write_members-write_value-requires : goal.write_members-write_value-requires
write_members-write_value-requires t c =
    let i = c.loop-key.invariant in
    let e : Entry = (c.in-Some.key.now, c.in-Some.value.now) in
    let whole : c.args.fields.now ≡ of_entries (i.0 ++ e ∷ c.next.new.self) = i.1 ∙ ap (λ es. of_entries (i.0 ++ es)) c.in-Some.ensures.steps in
    let deep : field_heights (fields_of c.args.fields.now) ≡ field_heights (fields_of (of_entries (i.0 ++ e ∷ c.next.new.self))) = ap (λ fs. field_heights (fields_of fs)) whole in
    (omega (arith, deep, field_height i.0 e c.next.new.self), tt)

pub write_members-loop-key-init : goal.write_members-loop-key-init
write_members-loop-key-init t c = ([], search rules, search rules, fields_begun c.args.fields.now _ (search rules) (wrote c.in_ok-begin_object.ensures))

pub write_members-loop-key-preserved : goal.write_members-loop-key-preserved
write_members-loop-key-preserved t c =
    let i = c.loop-key.invariant in
    let e : Entry = (c.in-Some.key.now, c.in-Some.value.now) in
    let left = c.next.new.self in
    let all : i.0 ++ c.loop-key.key-iterator ≡ i.0 ++ e ∷ left = ap (λ es. i.0 ++ es) c.in-Some.ensures.steps in
    let sorted = subst (λ es. IsStrictlySortedBy string_cmp (keys_of es)) all i.2 in
    let here = subst (λ es. IsInObject (fields_json (fields_of c.args.fields.now)) (entries_json es) (entries_json i.0) c.args.out.now c.loop-key.out) c.in-Some.ensures.steps i.3 in
    let named = alike (ap (λ s. key s ∷ []) c.as_str.ensures.value) (wrote c.in_ok-key.ensures) in (
      i.0 ++ e ∷ [],
      i.1 ∙ ap of_entries (all ∙ sym (append_assoc i.0 (e ∷ []) left)),
      subst (λ es. IsStrictlySortedBy string_cmp (keys_of es)) (sym (append_assoc i.0 (e ∷ []) left)) sorted,
      fields_next i.0 e left sorted here (member_written named c.in_ok-write_value.ensures),
    )

pub write_members-returns : goal.write_members-returns
write_members-returns t c =
    let i = c.loop-key.invariant in
    ends c.end_object.result _ c.end_object.ensures (λ e. fields_ended c.args.fields.now i.0 c.loop-key.key-iterator i.1 c.in-None.ensures.steps.0 i.3 e)
