use Rattle.std.proofs.Common.{◌≡◌, ◌-◌, ◌<◌, length, Some, None, IfSome, string_bytes, sym, ap, ◌∙◌, subst, arith, rules}
use Rattle.json.specs.Json.{after_end_array, read_key}
use Rattle.json.specs.Reads.{token_of}
use Rattle.json.proofs.Grammar.{read_key-shorter}
use Rattle.serde_json.specs.Data.{put}
use Rattle.serde_json.specs.View.{view, members_view}
use Rattle.serde_json.proofs.Views.{view-Array, view-Object, members_view-insert_entry}
use Rattle.json_words.specs.inner.Given.{value_at, IsGiven}
use Rattle.json_words.proofs.Turns as turns
use Rattle.json_words.proofs.reading.+value_in.Goals as goal

pub value_in-returns-in-None-clause-given : goal.value_in-returns-in-None-clause-given
value_in-returns-in-None-clause-given t c = turns.nothing_given c.args.deep c.args.reader.now c.in-None.ensures.value.0

pub value_in-returns-then-deep-eq0-clause-given : goal.value_in-returns-then-deep-eq0-clause-given
value_in-returns-then-deep-eq0-clause-given t c =
    turns.array_too_deep c.args.deep c.args.reader.now (token_of c.in-Some.token) c.next.new.self c.in-Some.ensures.value
    (sym c.if-opens_array.ensures) (omega (arith, c.if-deep-eq0.true))

pub value_in-returns-then-opens_array-clause-given : goal.value_in-returns-then-opens_array-clause-given
value_in-returns-then-opens_array-clause-given t c =
    turns.told _ _ c.array_in.result _
    (turns.at_array c.args.deep c.args.reader.now (token_of c.in-Some.token) c.next.new.self c.in-Some.ensures.value
    (sym c.if-opens_array.ensures) (omega (arith, c.if-deep-eq0.false))) c.array_in.ensures.given

pub value_in-returns-then-deep-eq0-2-clause-given : goal.value_in-returns-then-deep-eq0-2-clause-given
value_in-returns-then-deep-eq0-2-clause-given t c =
    turns.object_too_deep c.args.deep c.args.reader.now (token_of c.in-Some.token) c.next.new.self c.in-Some.ensures.value
    (sym c.if-opens_object.ensures) (omega (arith, c.if-deep-eq0-2.true))

pub value_in-returns-then-opens_object-clause-given : goal.value_in-returns-then-opens_object-clause-given
value_in-returns-then-opens_object-clause-given t c =
    turns.told _ _ c.object_in.result _
    (turns.at_object c.args.deep c.args.reader.now (token_of c.in-Some.token) c.next.new.self c.in-Some.ensures.value
    (sym c.if-opens_object.ensures) (omega (arith, c.if-deep-eq0-2.false))) c.object_in.ensures.given

pub value_in-returns-clause-given : goal.value_in-returns-clause-given
value_in-returns-clause-given t c =
    turns.scalar_told c.args.deep c.args.reader.now (token_of c.in-Some.token) c.next.new.self c.scalar_in.result
    c.in-Some.ensures.value (sym c.if-opens_array.ensures) (sym c.if-opens_object.ensures) c.scalar_in.ensures

pub array_in-returns-in-None-clause-given : goal.array_in-returns-in-None-clause-given
array_in-returns-in-None-clause-given t c =
    let l = c.items in
    let going : (after_end_array l.reader ≡ None) × (c.take_end_array.new.self ≡ l.reader) = grind arith in
    let given : value_at c.args.deep c.take_end_array.new.self ≡ None =
    subst (λ o. IsGiven (value_at c.args.deep c.take_end_array.new.self) o c.value_in.new.reader) c.in-None.is
    c.in_ok-item.ensures.given in
    l.invariant.2 ∙ turns.array_fails c.args.deep l.found.items l.invariant.0 l.reader going.0
    (ap (value_at c.args.deep) (sym going.1) ∙ given)

pub array_in-items-preserved : goal.array_in-items-preserved
array_in-items-preserved t c =
    let l = c.items in
    let n = l.invariant.0 in
    let going : (after_end_array l.reader ≡ None) × (c.take_end_array.new.self ≡ l.reader) = grind arith in
    let v = c.in-Some.item in
    let r = c.value_in.new.reader in
    let given : value_at c.args.deep c.take_end_array.new.self ≡ Some (view v, r) =
    subst (λ o. IsGiven (value_at c.args.deep c.take_end_array.new.self) o r) c.in-Some.is c.in_ok-item.ensures.given in
    let shorter : length r < length c.take_end_array.new.self =
    subst (λ o. IfSome o (λ _. length r < length c.take_end_array.new.self)) c.in-Some.is c.in_ok-item.ensures.shorter in
    let less : length r < length l.reader = rw (← going.1) shorter in (
      n - 1,
      omega (arith, l.invariant.1, less),
      l.invariant.2
          ∙ turns.array_goes_on c.args.deep l.found.items v n l.reader r (omega (arith, l.invariant.1, less)) going.0
          (ap (value_at c.args.deep) (sym going.1) ∙ given)
          ∙ ap (λ vs. turns.array_with c.args.deep vs (n - 1) r) (sym c.in_ok-push.ensures.items),
      omega (arith, l.invariant.3, less),
    )

pub array_in-returns-clause-given : goal.array_in-returns-clause-given
array_in-returns-clause-given t c =
    let l = c.items in
    let r = c.take_end_array.new.self in
    l.invariant.2 ∙ turns.array_ends c.args.deep l.found.items l.invariant.0 l.reader r l.invariant.1 (grind arith)
    ∙ ap (λ d. Some (d, r)) (sym (view-Array l.found))

pub object_in-returns-in-None-clause-given : goal.object_in-returns-in-None-clause-given
object_in-returns-in-None-clause-given t c =
    let l = c.members in
    let s = c.next_key.new.self in
    let key : read_key l.reader ≡ Some (Some c.in-Ok-Some.name.now, s) = grind arith in
    let given : value_at c.args.deep s ≡ None =
    subst (λ o. IsGiven (value_at c.args.deep s) o c.value_in.new.reader) c.in-None.is c.in_ok-member-in-Ok-Some.ensures.given in
    l.invariant.2
    ∙ turns.object_fails c.args.deep (members_view l.found.entries) l.invariant.0 c.in-Ok-Some.name.now l.reader s key given

pub object_in-members-preserved : goal.object_in-members-preserved
object_in-members-preserved t c =
    let l = c.members in
    let n = l.invariant.0 in
    let k = c.in-Ok-Some.name.now in
    let s = c.next_key.new.self in
    let key : read_key l.reader ≡ Some (Some k, s) = grind arith in
    let v = c.in-Some.member in
    let r = c.value_in.new.reader in
    let keyed = read_key-shorter l.reader (Some k) s key in
    let given : value_at c.args.deep s ≡ Some (view v, r) =
    subst (λ o. IsGiven (value_at c.args.deep s) o r) c.in-Some.is c.in_ok-member-in-Ok-Some.ensures.given in
    let less : length r < length s =
    subst (λ o. IfSome o (λ _. length r < length s)) c.in-Some.is c.in_ok-member-in-Ok-Some.ensures.shorter in
    let copied : string_bytes c.in_ok-key-in-Ok-Some.key ≡ k = search rules in
    let inserted : members_view c.insert.new.self.entries ≡ put k (view v) (members_view l.found.entries) =
    ap members_view c.in_ok-insert-in-Ok-Some.ensures.entries
    ∙ members_view-insert_entry l.found.entries c.in_ok-key-in-Ok-Some.key v
    ∙ ap (λ name. put name (view v) (members_view l.found.entries)) copied in (
      n - 1,
      omega (arith, l.invariant.1, keyed, less),
      l.invariant.2
          ∙ turns.object_goes_on c.args.deep (members_view l.found.entries) k (view v) n l.reader s r
          (omega (arith, l.invariant.1, keyed, less)) key given
          ∙ ap (λ found. turns.object_with c.args.deep found (n - 1) r) (sym inserted),
      omega (arith, l.invariant.3, keyed, less),
    )

pub object_in-returns-in-Ok-None-clause-given : goal.object_in-returns-in-Ok-None-clause-given
object_in-returns-in-Ok-None-clause-given t c =
    let l = c.members in
    let s = c.next_key.new.self in
    let key : read_key l.reader ≡ Some (None, s) = grind arith in
    l.invariant.2 ∙ turns.object_ends c.args.deep (members_view l.found.entries) l.invariant.0 l.reader s l.invariant.1 key
    ∙ ap (λ d. Some (d, s)) (sym (view-Object l.found))

pub object_in-returns-in-Err-clause-given : goal.object_in-returns-in-Err-clause-given
object_in-returns-in-Err-clause-given t c =
    let l = c.members in
    l.invariant.2 ∙ turns.object_lacks_key c.args.deep (members_view l.found.entries) l.invariant.0 l.reader c.in-Err.ensures.value
