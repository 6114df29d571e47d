use Rattle.std.proofs.Common.{rules, ◌∙◌, subst, length, List}
use Rattle.std.specs.Prelude.{is_ok, Contains}
use Rattle.std.specs.List.Sorted.{IsBinarySearchResult, IsSearchInRange}
use Rattle.std.proofs.lemmas.Fn.{always_returns_same}
use Rattle.values.specs.Values.{PlainValue}
use Rattle.values.specs.ValueOrder.{value_cmp}
use Rattle.values.specs.Sets.{has_member}
use Rattle.std.proofs.lemmas.Bool.Decides.{same_from_decides}
use Rattle.evaluator.proofs.operators.is_member.Goals as goal

pub returns : goal.returns
returns c =
    let r = c.binary_search_by.result in
    let s = c.args.members.now in
    let v = c.args.given.now in
    let by = c.binary_search_by.ensures.position (λ m. value_cmp m v) (always_returns_same _ _ _ (λ a r f' called. search rules)) in
    let bound = subst (λ (xs : List PlainValue). IsSearchInRange r (length xs)) c.members.ensures.members c.binary_search_by.ensures.bound in
    let position = subst (λ (xs : List PlainValue). IsBinarySearchResult (λ y. value_cmp y v) xs r) c.members.ensures.members by in
    let law = c.sets_hold_their_members.ensures in
    let here = law.found s v r c.members.ensures.ascending bound position in
    c.is_ok.ensures.value ∙ same_from_decides {P = Contains s v} (is_ok r) (has_member s v) here (law.told s v)
