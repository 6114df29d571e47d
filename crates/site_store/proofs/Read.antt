-- The parsed policies of a store are those under their ids.
use Rattle.std.proofs.Common.{◌≡◌, ◌∙◌, refl, sym, ap, subst, true, false, List, [], ◌∷◌, ◌++◌, map, Option, Some, None}
use Rattle.std.proofs.Common.{inl, inr}
use Rattle.std.specs.Prelude.{ℕ, cond, Contains, ◌↔◌, ◌⊎◌, option_map, option_and_then, string_bytes, Result, Ok, Err}
use Rattle.std.specs.Prelude.{IfOk, Vec}
use Rattle.std.specs.List.{AllByRecursion}
use Rattle.std.specs.List.Sorted.{IsStrictlySortedBy}
use Rattle.std.specs.Borrow.{Bor}
use Rattle.std.specs.Map.{keys_of}
use Rattle.std.specs.Ordering.{is_eq}
use Rattle.std.specs.String.{string_cmp}
use Rattle.std.specs.declared.alloc.Global.{Global}
use Rattle.std.specs.declared.string.String.{String}
use Rattle.std.specs.declared.cmp.Ordering.TheVariants.{Less}
use Rattle.std.specs.Cmp.{tied_itself}
use Rattle.std.proofs.lemmas.Map.Views.{tells_apart}
use Rattle.values.specs.Names.{text_cmp, text_cmp-IsTotalOrder, text_cmp-IsAntisymmetric}
use Rattle.ancestor_closure.specs.ancestor_search.Deciding.{Contains-none, Contains-here, Contains-there, Contains-cases}
use Rattle.scope_index.specs.policy_grammar.declared.policy.Policy.{Policy}
use Rattle.values.specs.declared.request.Request.{Request}
use Rattle.ancestor_closure.specs.ancestor_search.Hierarchy.{Parents}
use Rattle.stamped_store.specs.declared.entry.Entry.{Entry}
use Rattle.stamped_store.specs.JoinMaps.{value_at_text}
use Rattle.stamped_store.specs.declared.entry.ReadText.{ReadText}
use Rattle.scope_index.specs.Keys.{Kept, kept_at, Candidate, ids, lent, IsCandidate}
use Rattle.scope_index.specs.Scopes.{IsScopeTrue}
use Rattle.site_meaning.specs.authoriser.Answers.{NamedPolicy}
use Rattle.site_meaning.specs.authoriser.Views.{named}
use Rattle.site_meaning.specs.TextsRead.{policy_read, policies_read}
use Rattle.site_store.specs.Indexed.{PolicyEntries, policy_in, policy_at, AreIndexed}
use Rattle.site_store.specs.Candidates.{AreCandidates, Ascend}

-- ---- the policy under an id, if there is one

abbrev found_at : List ℕ → Option Policy → List NamedPolicy
found_at id None = []
found_at id (Some p) = record { id = id; policy = p } ∷ []

one_in : (id : List ℕ) (o : Option Policy) (rest : List NamedPolicy) (p : NamedPolicy) → Contains (found_at id o ++ rest) p
    → ((id ≡ p.id) × (o ≡ Some p.policy)) ⊎ Contains rest p
one_in id None rest p h = inr h
one_in id (Some x) rest p h = elim (Contains-cases (record { id = id; policy = x }) rest p h) [
  | inl e ↦ inl (ap (λ (n : NamedPolicy). n.id) e, ap (λ (n : NamedPolicy). Some n.policy) e)
  | inr t ↦ inr t
]

rest_in : (id : List ℕ) (o : Option Policy) (rest : List NamedPolicy) (p : NamedPolicy) → Contains rest p → Contains (found_at id o ++ rest) p
rest_in id None rest p h = h
rest_in id (Some x) rest p h = Contains-there (record { id = id; policy = x }) rest p h

first_in : (id : List ℕ) (o : Option Policy) (rest : List NamedPolicy) (x : Policy) → o ≡ Some x → Contains (found_at id o ++ rest) (record { id = id; policy = x })
first_in id o rest x is = subst (λ z. Contains (found_at id z ++ rest) (record { id = id; policy = x })) (sym is) (Contains-here (record { id = id; policy = x }) rest)

-- ---- the policies of the entries

same_read : (id : List ℕ) (b : Option (ReadText Policy)) → policy_read id b ≡ found_at id (option_map (λ t. t.read) b)
same_read id None = refl
same_read id (Some t) = refl

-- the parsed policies, the first of them by its entry
as_found : (e : String Global × Entry Policy) (es : PolicyEntries)
    → policies_read (e ∷ es) ≡ found_at (string_bytes e.0) (policy_in e.1) ++ policies_read es
as_found e es = ap (λ l. l ++ policies_read es) (same_read (string_bytes e.0) e.1.body)

none_at_head : (k : String Global) (es : PolicyEntries) → AllByRecursion (λ y. string_cmp k y ≡ Less) (keys_of es)
    → value_at_text es (string_bytes k) ≡ None
none_at_head k [] h = refl
none_at_head k (e ∷ es) h = ap (λ b. cond b (Some e.1) (value_at_text es (string_bytes k))) (ap is_eq h.0) ∙ none_at_head k es h.1

head_below : (e : String Global × Entry Policy) (es : PolicyEntries) → IsStrictlySortedBy string_cmp (keys_of (e ∷ es))
    → AllByRecursion (λ y. string_cmp e.0 y ≡ Less) (keys_of es)
unfolding IsStrictlySortedBy
head_below e es h = h.0

rest_sorted : (e : String Global × Entry Policy) (es : PolicyEntries) → IsStrictlySortedBy string_cmp (keys_of (e ∷ es))
    → IsStrictlySortedBy string_cmp (keys_of es)
unfolding IsStrictlySortedBy
rest_sorted e es h = h.1

at_head : (e : String Global × Entry Policy) (es : PolicyEntries) (id : List ℕ) → string_bytes e.0 ≡ id → policy_at (e ∷ es) id ≡ policy_in e.1
at_head e es id same =
    let tied : is_eq (text_cmp id (string_bytes e.0)) ≡ true =
    subst (λ b. is_eq (text_cmp id b) ≡ true) (sym same) (ap is_eq (tied_itself text_cmp-IsTotalOrder id)) in
    ap (λ b. option_and_then policy_in (cond b (Some e.1) (value_at_text es id))) tied

behind_head : (e : String Global × Entry Policy) (es : PolicyEntries) (id : List ℕ) (p : Policy) → IsStrictlySortedBy string_cmp (keys_of (e ∷ es))
    → policy_at es id ≡ Some p → policy_at (e ∷ es) id ≡ Some p
behind_head e es id p sorted h =
    elim (is_eq (text_cmp id (string_bytes e.0))) as (λ b. is_eq (text_cmp id (string_bytes e.0)) ≡ b
    → option_and_then policy_in (cond b (Some e.1) (value_at_text es id)) ≡ Some p) [
      | true ↦ λ same.
          let one : id ≡ string_bytes e.0 = tells_apart text_cmp-IsAntisymmetric id (string_bytes e.0) same in
          let none : policy_at es id ≡ None =
          ap (λ o. option_and_then policy_in o) (subst (λ b. value_at_text es b ≡ None) (sym one) (none_at_head e.0 es (head_below e es sorted))) in
          let both : None ≡ Some p = sym none ∙ h in absurd (cc (both))
      | false ↦ λ apart. h
    ] refl

step_to : (e : String Global × Entry Policy) (es : PolicyEntries) (p : NamedPolicy) → IsStrictlySortedBy string_cmp (keys_of (e ∷ es))
    → (Contains (policies_read es) p → policy_at es p.id ≡ Some p.policy) → Contains (policies_read (e ∷ es)) p → policy_at (e ∷ es) p.id ≡ Some p.policy
step_to e es p sorted rest h = elim (one_in (string_bytes e.0) (policy_in e.1) (policies_read es) p (subst (λ l. Contains l p) (as_found e es) h)) [
  | inl f ↦ at_head e es p.id f.0 ∙ f.1
  | inr t ↦ behind_head e es p.id p.policy sorted (rest t)
]

step_from : (e : String Global × Entry Policy) (es : PolicyEntries) (p : NamedPolicy)
    → (policy_at es p.id ≡ Some p.policy → Contains (policies_read es) p) → policy_at (e ∷ es) p.id ≡ Some p.policy → Contains (policies_read (e ∷ es)) p
step_from e es p rest h =
    let now : List NamedPolicy = found_at (string_bytes e.0) (policy_in e.1) ++ policies_read es in
    subst (λ l. Contains l p) (sym (as_found e es))
    (elim (is_eq (text_cmp p.id (string_bytes e.0))) as (λ b. is_eq (text_cmp p.id (string_bytes e.0)) ≡ b
    → option_and_then policy_in (cond b (Some e.1) (value_at_text es p.id)) ≡ Some p.policy → Contains now p) [
      | true ↦ λ same f.
          let one : string_bytes e.0 ≡ p.id = sym (tells_apart text_cmp-IsAntisymmetric p.id (string_bytes e.0) same) in
          subst (λ i. Contains now (record { id = i; policy = p.policy })) one
          (first_in (string_bytes e.0) (policy_in e.1) (policies_read es) p.policy f)
      | false ↦ λ apart f. rest_in (string_bytes e.0) (policy_in e.1) (policies_read es) p (rest f)
    ] refl h)

-- if the keys ascend, the policies of the entries are exactly those under their ids
policies_are_read : (es : PolicyEntries) → IsStrictlySortedBy string_cmp (keys_of es) → (p : NamedPolicy)
    → Contains (policies_read es) p ↔ (policy_at es p.id ≡ Some p.policy)
policies_are_read [] sorted p = ((λ h. Contains-none p h), (λ h. absurd (cc (h))))
policies_are_read (e ∷ es) sorted p =
    let more = policies_are_read es (rest_sorted e es sorted) p in
    (step_to e es p sorted more.0, step_from e es p more.1)

-- ---- what an index offers

abbrev pub Lent : Type 0
Lent = Bor (List ℕ) × Bor Policy

abbrev as_named : Candidate → NamedPolicy
as_named o = record { id = o.0; policy = o.1 }

is_lent : (ps : List Lent) (p : NamedPolicy) → Contains (named ps) p → Contains (lent ps) (p.id, p.policy)
is_lent [] p h = Contains-none p h
is_lent (x ∷ ps) p h = elim (Contains-cases (record { id = x.0.now; policy = x.1.now }) (named ps) p h) [
  | inl e ↦ subst (λ (n : NamedPolicy). Contains (lent (x ∷ ps)) (n.id, n.policy)) e (Contains-here (x.0.now, x.1.now) (lent ps))
  | inr t ↦ Contains-there (x.0.now, x.1.now) (lent ps) (p.id, p.policy) (is_lent ps p t)
]

is_named : (ps : List Lent) (o : Candidate) → Contains (lent ps) o → Contains (named ps) (as_named o)
is_named [] o h = Contains-none o h
is_named (x ∷ ps) o h = elim (Contains-cases (x.0.now, x.1.now) (lent ps) o h) [
  | inl e ↦ subst (λ (n : Candidate). Contains (named (x ∷ ps)) (as_named n)) e (Contains-here (record { id = x.0.now; policy = x.1.now }) (named ps))
  | inr t ↦ Contains-there (record { id = x.0.now; policy = x.1.now }) (named ps) (as_named o) (is_named ps o t)
]

ids_are : (ps : List Lent) → ids (lent ps) ≡ map (λ (p : NamedPolicy). p.id) (named ps)
ids_are [] = refl
ids_are (x ∷ ps) = ap (λ r. x.0.now ∷ r) (ids_are ps)

they_ascend : (ps : List Lent) → IsStrictlySortedBy text_cmp (ids (lent ps)) → Ascend (named ps)
they_ascend ps h = subst (λ l. IsStrictlySortedBy text_cmp l) (ids_are ps) h

-- the candidates of an index suffice
candidates_are : (es : PolicyEntries) (kept : Kept) (parents : Parents) (q : Request) (ps : List Lent)
    → IsStrictlySortedBy string_cmp (keys_of es) → AreIndexed es kept
    → ((o : Candidate) → Contains (lent ps) o ↔ IsCandidate kept parents q o)
    → ((o : Candidate) → kept_at kept o.0 ≡ Some o.1 → IsScopeTrue parents o.1.scope q → Contains (lent ps) o)
    → AreCandidates parents q (policies_read es) (named ps)
candidates_are es kept parents q ps sorted indexed exact complete = record {
  among = λ p h.
      let at : kept_at kept p.id ≡ Some p.policy = ((exact (p.id, p.policy)).0 (is_lent ps p h)).is_kept in
      (policies_are_read es sorted p).1 (sym (indexed p.id) ∙ at);
  all = λ p inside holds.
      let at : policy_at es p.id ≡ Some p.policy = (policies_are_read es sorted p).0 inside in
      is_named ps (p.id, p.policy) (complete (p.id, p.policy) (indexed p.id ∙ at) holds);
}

-- ---- the call

pub offered_are : {E : Type 0} (es : PolicyEntries) (kept : Kept) (parents : Parents) (q : Request) (r : Result (Vec Lent Global) E)
    → IsStrictlySortedBy string_cmp (keys_of es) → AreIndexed es kept
    → IfOk r (λ ps. (o : Candidate) → Contains (lent ps.items) o ↔ IsCandidate kept parents q o)
    → IfOk r (λ ps. (o : Candidate) → kept_at kept o.0 ≡ Some o.1 → IsScopeTrue parents o.1.scope q → Contains (lent ps.items) o)
    → IfOk r (λ ps. AreCandidates parents q (policies_read es) (named ps.items))
offered_are es kept parents q (Ok ps) sorted indexed exact complete = candidates_are es kept parents q ps.items sorted indexed exact complete
offered_are es kept parents q (Err e) sorted indexed exact complete = tt

pub offered_ascend : {E : Type 0} (r : Result (Vec Lent Global) E) → IfOk r (λ ps. IsStrictlySortedBy text_cmp (ids (lent ps.items)))
    → IfOk r (λ ps. Ascend (named ps.items))
offered_ascend (Ok ps) h = they_ascend ps.items h
offered_ascend (Err e) h = tt
