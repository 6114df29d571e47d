use Rattle.std.proofs.Common.{◌↔◌, ◌∙◌, subst, length, IsTrue, List}
use Rattle.std.specs.Prelude.{is_ok, Contains}
use Rattle.std.specs.List.Sorted.{IsBinarySearchResult, IsSearchInRange}
use Rattle.values.specs.Values.{PlainValue}
use Rattle.values.specs.ValueOrder.{value_cmp}
use Rattle.values.specs.Sets.{has_member}
use Rattle.values.proofs.Found.{found_in, has_member-is, same_test}
use Rattle.values.proofs.set.Set.contains.Goals as goal

pub returns-clause-member : goal.returns-clause-member
returns-clause-member c =
    let r = c.binary_search.result in
    let v = c.args.value.now in
    let bound = subst (λ (xs : List PlainValue). IsSearchInRange r (length xs)) c.deref.ensures.value c.binary_search.ensures.bound in
    let position = subst (λ (xs : List PlainValue). IsBinarySearchResult (λ y. value_cmp y v) xs r) c.deref.ensures.value c.binary_search.ensures.position in
    let found = found_in c.self.inside.members.items v r c.self.invariant.0 bound position in
    rw c.is_ok.ensures.value (subst (λ (xs : List PlainValue). IsTrue (is_ok r) ↔ Contains xs v) c.self.view_is found)

pub returns-clause-is : goal.returns-clause-is
returns-clause-is c =
    let r = c.binary_search.result in
    let v = c.args.value.now in
    let bound = subst (λ (xs : List PlainValue). IsSearchInRange r (length xs)) c.deref.ensures.value c.binary_search.ensures.bound in
    let position = subst (λ (xs : List PlainValue). IsBinarySearchResult (λ y. value_cmp y v) xs r) c.deref.ensures.value c.binary_search.ensures.position in
    let found = found_in c.self.inside.members.items v r c.self.invariant.0 bound position in
    let here : IsTrue (is_ok r) ↔ Contains c.args.self.now v = subst (λ (xs : List PlainValue). IsTrue (is_ok r) ↔ Contains xs v) c.self.view_is found in
    c.is_ok.ensures.value ∙ same_test (is_ok r) (has_member c.args.self.now v) (Contains c.args.self.now v) here (has_member-is c.args.self.now v)
