use Rattle.std.proofs.Common.{◌≡◌, ◌-◌, ◌<◌, length, None, IfSome, subst}
use Rattle.json.specs.Json.{after_end_array}
use Rattle.json.specs.Reads.{token_of}
use Rattle.serde_json.specs.Read.{max_depth}
use Rattle.json_words.specs.inner.Given.{value_at, IsGiven}
use Rattle.json_words.proofs.ArrayLemmas.{ends, goes_on, lost, member}
use Rattle.json_words.proofs.array_members.ArrayMembers.next.Goals as goal

pub returns-in-None-clause-told : goal.returns-in-None-clause-told
returns-in-None-clause-told c = ends c.args.self.now.reader c.take_end_array.new.self c.if-take_end_array.ensures c.in-None.ensures.value.0

pub returns-in-Some-clause-told : goal.returns-in-Some-clause-told
returns-in-Some-clause-told c = goes_on c.args.self.now.reader c.take_end_array.new.self (token_of c.in-Some.field-0) c.next.new.self c.if-take_end_array.ensures c.in-Some.ensures.value

pub returns-in-Some-2-clause-told : goal.returns-in-Some-2-clause-told
returns-in-Some-2-clause-told c =
    let old = c.args.self.now.reader in
    let r = c.value_in.new.reader in
    let going : (after_end_array old ≡ None) × (c.take_end_array.new.self ≡ old) = c.if-take_end_array.ensures in
    let given = subst (λ o. IsGiven (value_at (max_depth - 1) c.take_end_array.new.self) o r) c.in-Some-2.is c.in_ok-value.ensures.given in
    let less = subst (λ o. IfSome o (λ _. length r < length c.take_end_array.new.self)) c.in-Some-2.is c.in_ok-value.ensures.shorter in
    member c.in-Some-2.value old r going.0 (rw (← going.1) given) (rw (← going.1) less)

pub returns-in-None-2-clause-told : goal.returns-in-None-2-clause-told
returns-in-None-2-clause-told c =
    let old = c.args.self.now.reader in
    let r = c.value_in.new.reader in
    let going : (after_end_array old ≡ None) × (c.take_end_array.new.self ≡ old) = c.if-take_end_array.ensures in
    let given = subst (λ o. IsGiven (value_at (max_depth - 1) c.take_end_array.new.self) o r) c.in-None-2.is c.in_ok-value.ensures.given in
    lost old going.0 (rw (← going.1) given)
