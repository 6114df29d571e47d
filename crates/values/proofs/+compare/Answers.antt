use Rattle.std.proofs.Common.{◌≡◌, ◌<◌, length, ◌∷◌, ◌++◌, [], drop, arith, sym, ap, ◌∙◌, append_assoc, min, nat_cmp, false, string_bytes}
use Rattle.std.specs.Ordering.{is_ne}
use Rattle.values.specs.Values.{height, heights, values_of, fields_of}
use Rattle.values.specs.ValueOrder.{value_cmp, values_cmp, fields_cmp}
use Rattle.values.specs.Uids.{text_cmp}
use Rattle.values.specs.ValueView.{of_entries}
use Rattle.values.proofs.Records.{Entry}
use Rattle.values.proofs.Depths.{member_height}
use Rattle.values.proofs.Compared.{values_cmp-end, then_eq}
use Rattle.values.proofs.+compare.Goals as goal

pub record::compare_fields-loop-key-preserved : goal.record::compare_fields-loop-key-preserved
record::compare_fields-loop-key-preserved t c =
    let i = c.loop-key.invariant in
    let e : Entry = (c.in-Some.key.now, c.in-Some.value.now) in
    let left = c.next.new.self in
    let rest = fields_cmp (fields_of (of_entries left)) (fields_of (of_entries c.next-in-loop-key.new.self)) in
    let keys_tied : is_ne (text_cmp (string_bytes c.in-Some.key.now) (string_bytes c.in-Some-next.other_key.now)) ≡ false =
    sym (rw (← c.cmp-keys.ensures) c.if-is_ne.ensures) in
    let values_tied : is_ne (value_cmp c.in-Some.value.now c.in-Some-next.other_value.now) ≡ false =
    sym (rw (← c.compare-order.ensures) c.if-is_ne-2.ensures) in (
      i.0 ++ e ∷ [],
      i.1 ∙ ap (λ es. of_entries (i.0 ++ es)) c.in-Some.ensures.steps ∙ ap of_entries (sym (append_assoc i.0 (e ∷ []) left)),
      i.2 ∙ rw (c.in-Some.ensures.steps, c.in-Some-next.ensures.steps) (then_eq _ _ keys_tied ∙ then_eq _ rest values_tied),
    )

pub set::compare_members-compare-order-requires : goal.set::compare_members-compare-order-requires
set::compare_members-compare-order-requires t c =
    let s = c.index.ensures in
    let vs = c.a.inside.members.items in
    let lt : c.loop-i.i < length vs = omega (arith, c.loop-i-test.true, c.min-common.ensures, c.len.ensures) in
    let deep : height c.index.result.now < heights (values_of vs) = rw s (member_height vs c.loop-i.i c.index.result.now lt) in
    (omega (arith, deep, ap (λ vs. heights (values_of vs)) c.a.view_is), tt)

pub set::compare_members-returns : goal.set::compare_members-returns
set::compare_members-returns t c =
    let i = c.loop-i.invariant in
    let vs = c.a.inside.members.items in
    let ws = c.b.inside.members.items in
    let vs_len = c.a.inside.members.ok.0 in
    let ws_len = c.b.inside.members.ok.0 in
    let at : c.loop-i.i ≡ min (length vs) (length ws) = omega (arith, c.min-common.ensures, c.len.ensures, c.len-2.ensures, c.loop-i-test.false) in
    let ended = values_cmp-end vs ws c.loop-i.i at in
    let sizes : nat_cmp c.len-3.result c.len-4.result ≡ nat_cmp (length vs) (length ws) = rw (c.len-3.ensures, c.len-4.ensures, vs_len, ws_len) in
    c.cmp.ensures ∙ (sizes ∙ (sym ended ∙ (ap (λ x. values_cmp (values_of (drop c.loop-i.i x)) (values_of (drop c.loop-i.i ws))) c.a.view_is ∙ (ap (λ y. values_cmp (values_of (drop c.loop-i.i c.args.a.now)) (values_of (drop c.loop-i.i y))) c.b.view_is ∙ sym i))))
