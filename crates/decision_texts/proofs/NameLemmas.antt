-- The policies of a file have different names, so that they ascend by name in one way.
use Rattle.std.proofs.Common.{◌≡◌, ◌∙◌, ℕ, ◌+◌, ◌<◌, true, false, List, [], ◌∷◌, map, length, get_or, Contains}
use Rattle.std.proofs.Common.{IsPermutation, refl, sym, ap, subst, arith}
use Rattle.std.specs.List.{IsDistinct, AllByRecursion}
use Rattle.std.specs.List.Sorted.{IsStrictlySortedBy}
use Rattle.std.specs.Ordering.{nat_cmp, is_lt, is_eq, ordering_reverse}
use Rattle.std.specs.declared.cmp.Ordering.{Ordering}
use Rattle.std.specs.declared.cmp.Ordering.TheVariants.{Less, Equal, Greater}
use Rattle.std.specs.Cmp.{IsTotalOrder}
use Rattle.std.specs.Cmp.Lexicographic.{slice_cmp}
use Rattle.std.specs.Str.{bytes_eq}
use Rattle.std.proofs.lemmas.Cmp.{on_total, nat_list_cmp_total, nat_list_eq_equiv}
use Rattle.std.proofs.lemmas.List.{get_or-map, length-map}
use Rattle.std.proofs.lemmas.List.Sorted.{IsPermutation-map, IsPermutation-sym, Contains-permutation}
use Rattle.std.proofs.lemmas.Map.Keys.{IsDistinct-IsPermutation, apart_from_distinct, sorted_from_all_adjacent}
use Rattle.std.proofs.lemmas.Map.Text.{is_eq-slice_cmp}
use Rattle.answer_lines.specs.policy_grammar.declared.policy.Policy.{Policy}
use Rattle.answer_lines.specs.policy_grammar.PolicyText.{IsPolicyFile}
use Rattle.answer_lines.specs.policy_grammar.Unique.{EachIsNamed, NamesDiffer}
use Rattle.values.specs.Names.{text_cmp}
use Rattle.answer_lines.specs.authoriser.Answers.{NamedPolicy}
use Rattle.answer_lines.specs.authoriser.Laws.{AreIdsAscending}
use Rattle.plain.proofs.Ascending.{one_list}
use Rattle.decision_texts.specs.Decisions.{named_policies, IsInOrder}
use Rattle.decision_texts.proofs.Placing.{has_order}

abbrev ids : List NamedPolicy → List (List ℕ)
ids = map (λ p. p.id)

ids_named : (names : List (List ℕ)) (policies : List Policy) → length names ≡ length policies → ids (named_policies names policies) ≡ names
ids_named [] policies long = refl
ids_named (name ∷ names) [] long = absurd (omega arith)
ids_named (name ∷ names) (policy ∷ policies) long = ap (λ (ns : List (List ℕ)). name ∷ ns) (ids_named names policies (omega arith))

-- the names of policies differ
abbrev pub HaveOwnNames : List NamedPolicy → Type 0
HaveOwnNames policies = IsDistinct bytes_eq (ids policies)

pub own_names : EachIsNamed → NamesDiffer → (text : List ℕ) (names : List (List ℕ)) (policies : List Policy) → IsPolicyFile text names policies
    → HaveOwnNames (named_policies names policies)
own_names each differ text names policies file =
    subst (IsDistinct bytes_eq) (sym (ids_named names policies (each text names policies file))) (differ text names policies file)

-- ---- one order

abbrev by_name : NamedPolicy → NamedPolicy → Ordering
by_name p q = slice_cmp nat_cmp p.id q.id

by_name_total : IsTotalOrder by_name
by_name_total = on_total (λ (p : NamedPolicy). p.id) nat_list_cmp_total

only_less : (o p : Ordering) → o ≡ ordering_reverse p → is_lt p ≡ false → is_eq o ≡ false → o ≡ Less
only_less o Less e not_less not_equal = absurd (cc)
only_less o Equal e not_less not_equal = let tie = ap is_eq (sym e) ∙ not_equal in absurd (cc)
only_less o Greater e not_less not_equal = e

apart : (ordered : List NamedPolicy) (k : ℕ) (p : NamedPolicy) → HaveOwnNames ordered → k + 1 < length ordered → bytes_eq (get_or ordered k p).id (get_or ordered (k + 1) p).id ≡ false
apart ordered k p own below =
    let long : length (ids ordered) ≡ length ordered = length-map ordered (λ q. q.id) in
    rw (← get_or-map (λ (q : NamedPolicy). q.id) ordered k p p.id (omega arith), ← get_or-map (λ (q : NamedPolicy). q.id) ordered (k + 1) p p.id below)
    (apart_from_distinct bytes_eq (ids ordered) k (k + 1) p.id own (omega arith) (omega arith))

rise : (policies ordered : List NamedPolicy) → HaveOwnNames policies → IsInOrder policies ordered → IsStrictlySortedBy by_name ordered
unfolding IsStrictlySortedBy
rise policies [] own order = tt
rise policies (p ∷ ps) own order =
    let moved : IsPermutation (ids policies) (ids (p ∷ ps)) = IsPermutation-map (λ (q : NamedPolicy). q.id) policies (p ∷ ps) order.same in
    let there : HaveOwnNames (p ∷ ps) = IsDistinct-IsPermutation bytes_eq nat_list_eq_equiv.symm (ids policies) (ids (p ∷ ps)) moved own in
    sorted_from_all_adjacent by_name_total (p ∷ ps) p (λ k below.
    let x = get_or (p ∷ ps) k p in
    let y = get_or (p ∷ ps) (k + 1) p in
    only_less (by_name x y) (by_name y x) (by_name_total.antisymm x y) (order.ascending k p (omega arith) below)
    (is_eq-slice_cmp x.id y.id ∙ apart (p ∷ ps) k p there below))

goes_over : (policies ordered other : List NamedPolicy) (p : NamedPolicy) → IsInOrder policies ordered → IsInOrder policies other → Contains ordered p → Contains other p
goes_over policies ordered other p order its at = Contains-permutation policies other p its.same (Contains-permutation ordered policies p (IsPermutation-sym policies ordered order.same) at)

-- policies with names of their own ascend in one way
pub one_order : (policies ordered other : List NamedPolicy) → HaveOwnNames policies → IsInOrder policies ordered → IsInOrder policies other → ordered ≡ other
one_order policies ordered other own order its =
    one_list by_name by_name_total ordered other (rise policies ordered own order) (rise policies other own its)
    (λ p. goes_over policies ordered other p order its) (λ p. goes_over policies other ordered p its order)

-- their names ascend, each once
less_ids : (p : NamedPolicy) (ps : List NamedPolicy) → AllByRecursion (λ q. by_name p q ≡ Less) ps → AllByRecursion (λ y. text_cmp p.id y ≡ Less) (ids ps)
less_ids p [] h = h
less_ids p (q ∷ qs) h = (h.0, less_ids p qs h.1)

ids_rise : (ps : List NamedPolicy) → IsStrictlySortedBy by_name ps → AreIdsAscending (ids ps)
unfolding IsStrictlySortedBy
ids_rise [] h = h
ids_rise (p ∷ ps) h = (less_ids p ps h.0, ids_rise ps h.1)

pub ids_ascend : (policies ordered : List NamedPolicy) → HaveOwnNames policies → IsInOrder policies ordered → AreIdsAscending (ids ordered)
ids_ascend policies ordered own order = ids_rise ordered (rise policies ordered own order)

-- ---- some order

not_both_ways : (o p : Ordering) → o ≡ ordering_reverse p → is_lt p ≡ true → is_lt o ≡ false
not_both_ways o Less e less = ap is_lt e
not_both_ways o Equal e less = absurd (cc)
not_both_ways o Greater e less = absurd (cc)

one_way : (p q : NamedPolicy) → is_lt (by_name p q) ≡ true → is_lt (by_name q p) ≡ false
one_way p q less = not_both_ways (by_name q p) (by_name p q) (by_name_total.antisymm q p) less

-- policies ascend by name in some order
pub some_order : (policies : List NamedPolicy) → (ordered : List NamedPolicy) × IsInOrder policies ordered
some_order policies =
    let found = has_order (λ p q. is_lt (by_name p q)) one_way policies in
    (found.0, record { same = found.1; ascending = found.2 })
