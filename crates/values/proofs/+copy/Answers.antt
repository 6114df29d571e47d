use Rattle.std.proofs.Common.{◌≡◌, [], ◌<◌, ◌∷◌, ◌++◌, arith, sym, ap, ◌∙◌, subst, append_assoc, string_bytes, string_cmp}
use Rattle.std.specs.List.Sorted.{IsStrictlySortedBy}
use Rattle.std.specs.Map.{keys_of}
use Rattle.values.specs.Values.{height, heights, field_heights, values_of, fields_of}
use Rattle.std.proofs.lemmas.List.{append-nil}
use Rattle.values.specs.ValueView.{of_entries}
use Rattle.values.proofs.Records.{Entry, insertion, next_set}
use Rattle.values.proofs.Depths.{member_height, field_height}
use Rattle.values.proofs.+copy.Goals as goal

pub record::Record::copy-loop-key-init : goal.record::Record::copy-loop-key-init
record::Record::copy-loop-key-init t c =
    let it : c.into_iter-key-iterator.result ≡ c.self.inside.fields.entries = c.into_iter-key-iterator.ensures.into_iter_gives ∙ c.iter-key-items.ensures.rest in (
      [],
      sym c.self.view_is ∙ ap of_entries (sym it),
      subst (λ es. IsStrictlySortedBy string_cmp (keys_of es)) (sym it) c.iter-key-items.ensures.ordered,
      ap of_entries c.new-copies.ensures.empty,
    )

pub record::Record::copy-copy-requires : goal.record::Record::copy-copy-requires
record::Record::copy-copy-requires t c =
    let i = c.loop-key.invariant in
    let e : Entry = (c.in-Some.key.now, c.in-Some.value.now) in
    let whole : c.args.self.now ≡ of_entries (i.0 ++ e ∷ c.next.new.self) = i.1 ∙ ap (λ es. of_entries (i.0 ++ es)) c.in-Some.ensures.steps in
    let deep : field_heights (fields_of c.args.self.now) ≡ field_heights (fields_of (of_entries (i.0 ++ e ∷ c.next.new.self))) = ap (λ fs. field_heights (fields_of fs)) whole in
    (omega (arith, deep, field_height i.0 e c.next.new.self), tt)

pub record::Record::copy-loop-key-preserved : goal.record::Record::copy-loop-key-preserved
record::Record::copy-loop-key-preserved t c =
    let i = c.loop-key.invariant in
    let e : Entry = (c.in-Some.key.now, c.in-Some.value.now) in
    let left = c.next.new.self in
    let all : i.0 ++ c.loop-key.key-iterator ≡ i.0 ++ e ∷ left = ap (λ es. i.0 ++ es) c.in-Some.ensures.steps in
    let sorted = subst (λ es. IsStrictlySortedBy string_cmp (keys_of es)) all i.2 in
    let named : string_bytes c.in_ok-name.name ≡ string_bytes e.0 = c.in_ok-name.ensures.cases in (
      i.0 ++ e ∷ [],
      i.1 ∙ ap of_entries (all ∙ sym (append_assoc i.0 (e ∷ []) left)),
      subst (λ es. IsStrictlySortedBy string_cmp (keys_of es)) (sym (append_assoc i.0 (e ∷ []) left)) sorted,
      ap of_entries c.in_ok-insert.ensures.entries ∙ (insertion c.loop-key.copies.entries c.in_ok-name.name c.in_ok-copy.field-0 ∙ rw (named, c.in_ok-copy.ensures, i.3) (next_set i.0 e left sorted)),
    )

pub record::Record::copy-returns : goal.record::Record::copy-returns
record::Record::copy-returns t c =
    let i = c.loop-key.invariant in
    let s = c.in-None.ensures.steps in
    i.3 ∙ sym (i.1 ∙ rw (s.0, append-nil i.0))

pub set::Set::copy-copy-requires : goal.set::Set::copy-copy-requires
set::Set::copy-copy-requires t c =
    let same : c.deref-member-items.result.now ≡ c.self.inside.members.items = c.deref-member-items.ensures.value in
    let deep : height c.member-item.result < heights (values_of c.self.inside.members.items) =
    rw c.member-item.is (rw same (member_height c.self.inside.members.items c.loop-member.member-index c.member-item.result (rw same at c.loop-member-test.true))) in
    (omega (arith, deep, ap (λ vs. heights (values_of vs)) c.self.view_is), tt)
