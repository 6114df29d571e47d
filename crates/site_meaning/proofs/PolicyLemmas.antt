-- The parsed policies of a store are those of its meaning; they ascend, and there is one list of them.
use Rattle.std.specs.Prelude.{T, ◌&&◌, ◌≡◌, ◌↔◌, Vec, Result, Ok, Err, IfOk, ℕ, List, [], ◌∷◌, ◌++◌, map, Option, Some}
use Rattle.std.specs.Prelude.{None, Bool, true, false, Contains, refl, string_bytes}
use Rattle.std.proofs.Common.{sym, ◌∙◌, subst}
use Rattle.std.specs.Borrow.{Bor}
use Rattle.std.specs.List.{AllZip, AllByRecursion, flat_map}
use Rattle.std.specs.List.Sorted.{IsStrictlySortedBy}
use Rattle.std.specs.Ordering.{is_lt}
use Rattle.std.specs.FinMap.{entries_sorted}
use Rattle.std.specs.FinMap.Entries.{is_sorted, below_all}
use Rattle.std.specs.declared.alloc.Global.{Global}
use Rattle.std.specs.declared.cmp.Ordering.{Ordering}
use Rattle.std.specs.declared.cmp.Ordering.TheVariants.{Less, Equal, Greater}
use Rattle.std.specs.declared.string.String.{String}
use Rattle.values.specs.declared.name.Name.{Name}
use Rattle.values.specs.declared.name.Name.TheVariants as name
use Rattle.values.specs.declared.entity_uid.EntityUid.{EntityUid}
use Rattle.values.specs.Names.{name_cmp, text_cmp}
use Rattle.entity_hierarchy.specs.policy_grammar.declared.policy.Policy.{Policy}
use Rattle.entity_hierarchy.specs.authoriser.Answers.{NamedPolicy}
use Rattle.entity_hierarchy.specs.authoriser.Laws.{AreIdsAscending}
use Rattle.entity_hierarchy.specs.authoriser.Views.{named}
use Rattle.entity_hierarchy.specs.entity_data.declared.entity.Entity.{Entity}
use Rattle.stamped_store.specs.declared.entry.Entry.{Entry}
use Rattle.stamped_store.specs.declared.entry.ReadText.{ReadText}
use Rattle.stamped_store.specs.EntryOrder.{body_bytes}
use Rattle.stamped_store.specs.Abstraction.{abstract_entries}
use Rattle.stamped_store.specs.Store.{Store, Update, StoreEntries, updates, abstract_store, abstract_updates, id_name}
use Rattle.stamped_store.specs.Store.{entity_name, policy_name}
use Rattle.stamped_store.specs.Contents.{text_under, policy_text, policies_of}
use Rattle.stamped_store.specs.Reading.{AllNamed, IsBodyRead, IsEntryRead}
use Rattle.site_meaning.specs.StoreMeaning.{ArePolicies, HaveOneReading}
use Rattle.site_meaning.specs.TextsRead.{policy_read, policies_read}
use Rattle.site_meaning.proofs.Zips.{one_list, of_first, of_second}

texts : List Update → List (List ℕ × List ℕ)
texts us = flat_map (λ (u : Update). policy_text u.0 u.1.body) us

-- ---- what stands beside the texts
module _ (Reads : List ℕ → List ℕ → Policy → Type 0) where
  abbrev pub Fits : List ℕ × List ℕ → NamedPolicy → Type 0
  Fits t p = (p.id ≡ t.0) × Reads t.0 t.1 p.policy

  one_read : (id : List ℕ) (b : Option (ReadText Policy)) (ts : List (List ℕ × List ℕ)) (ps : List NamedPolicy)
      → IsBodyRead (Reads id) b → AllZip Fits ts ps
      → AllZip Fits (policy_text (name.Policy id) (body_bytes b) ++ ts) (policy_read id b ++ ps)
  one_read id None ts ps h rest = rest
  one_read id (Some t) ts ps h rest = ((refl, h), rest)

  none_read : (es : List (EntityUid × Entry Entity)) → AllZip Fits (texts (abstract_entries entity_name es)) []
  unfolding texts
  none_read [] = tt
  none_read (e ∷ es) = none_read es

  all_read : (ps : List (String Global × Entry Policy)) (es : List (EntityUid × Entry Entity))
      → AllNamed string_bytes (λ id. IsEntryRead (Reads id)) ps
      → AllZip Fits (texts (abstract_entries id_name ps ++ abstract_entries entity_name es)) (policies_read ps)
  unfolding texts
  all_read [] es h = none_read es
  all_read (p ∷ ps) es h =
      one_read (string_bytes p.0) p.1.body (texts (abstract_entries id_name ps ++ abstract_entries entity_name es))
      (policies_read ps) h.0 (all_read ps es h.1)

  pub policies_are : (k : StoreEntries Policy Entity) → AllNamed string_bytes (λ id. IsEntryRead (Reads id)) k.policies
      → updates (abstract_store k) ≡ abstract_updates k → ArePolicies Reads (abstract_store k) (policies_read k.policies)
  unfolding texts
  policies_are k h in_order =
      subst (λ us. AllZip Fits (texts us) (policies_read k.policies)) (sym in_order)
      (all_read k.policies k.entities h)

-- ---- they ascend
less_of : (r : Ordering) → T (is_lt r) → r ≡ Less
less_of Less h = refl
less_of Equal h = absurd h
less_of Greater h = absurd h

left_of : (a b : Bool) → T (a && b) → T a
left_of true b h = tt
left_of false b h = h

right_of : (a b : Bool) → T (a && b) → T b
right_of true b h = h
right_of false b h = absurd h

firsts : List (List ℕ × List ℕ) → List (List ℕ)
firsts ts = map (λ (t : List ℕ × List ℕ). t.0) ts

below_one : (id : List ℕ) (n : Name) (b : Option (List ℕ)) (ts : List (List ℕ × List ℕ))
    → T (is_lt (name_cmp (name.Policy id) n)) → AllByRecursion (λ y. text_cmp id y ≡ Less) (firsts ts)
    → AllByRecursion (λ y. text_cmp id y ≡ Less) (firsts (policy_text n b ++ ts))
unfolding firsts
below_one id (name.Policy k) None ts h rest = rest
below_one id (name.Policy k) (Some t) ts h rest = (less_of (text_cmp id k) h, rest)
below_one id (name.Entity uid) b ts h rest = rest

below_texts : (id : List ℕ) (us : List Update) → T (below_all name_cmp (name.Policy id) us)
    → AllByRecursion (λ y. text_cmp id y ≡ Less) (firsts (texts us))
unfolding texts firsts
below_texts id [] h = tt
below_texts id (u ∷ us) h =
    below_one id u.0 u.1.body (texts us) (left_of (is_lt (name_cmp (name.Policy id) u.0)) (below_all name_cmp (name.Policy id) us) h)
    (below_texts id us (right_of (is_lt (name_cmp (name.Policy id) u.0)) (below_all name_cmp (name.Policy id) us) h))

rise_one : (n : Name) (b : Option (List ℕ)) (us : List Update) → T (below_all name_cmp n us)
    → IsStrictlySortedBy text_cmp (firsts (texts us)) → IsStrictlySortedBy text_cmp (firsts (policy_text n b ++ texts us))
unfolding firsts IsStrictlySortedBy
rise_one (name.Policy k) None us h rest = rest
rise_one (name.Policy k) (Some t) us h rest = (below_texts k us h, rest)
rise_one (name.Entity uid) b us h rest = rest

rise : (us : List Update) → T (is_sorted name_cmp us) → IsStrictlySortedBy text_cmp (firsts (texts us))
unfolding texts firsts IsStrictlySortedBy
rise [] h = tt
rise (u ∷ us) h =
    rise_one u.0 u.1.body us (left_of (below_all name_cmp u.0 us) (is_sorted name_cmp us) h)
    (rise us (right_of (below_all name_cmp u.0 us) (is_sorted name_cmp us) h))

module _ (Reads : List ℕ → List ℕ → Policy → Type 0) where
  ids_are : (ts : List (List ℕ × List ℕ)) (ps : List NamedPolicy) → AllZip (Fits Reads) ts ps → firsts ts ≡ map (λ p. p.id) ps
  unfolding firsts
  ids_are [] [] h = refl
  ids_are [] (p ∷ ps) h = absurd h
  ids_are (t ∷ ts) [] h = absurd h
  ids_are (t ∷ ts) (p ∷ ps) h =
      let first : t.0 ≡ p.id = sym h.0.0 in
      let rest : firsts ts ≡ map (λ q. q.id) ps = ids_are ts ps h.1 in
      λ i. first i ∷ rest i

  pub policies_ascend : (s : Store) (ps : List NamedPolicy) → ArePolicies Reads s ps → AreIdsAscending (map (λ p. p.id) ps)
  unfolding texts
  policies_ascend s ps h =
      subst (λ ids. IsStrictlySortedBy text_cmp ids) (ids_are (policies_of s) ps h) (rise (updates s) (entries_sorted s))

  -- ---- one list, and exactly those with a text
  module _ (one : HaveOneReading Reads) where
    same : (t : List ℕ × List ℕ) (p q : NamedPolicy) → Fits Reads t p → Fits Reads t q → p ≡ q
    same t p q h k =
        let ids : p.id ≡ q.id = λ i. (h.0 ∙ sym k.0) i in
        let policies : p.policy ≡ q.policy = one t.0 t.1 p.policy q.policy h.1 k.1 in
        λ i. record { id = ids i; policy = policies i }

    pub one_policies : (s : Store) (ps qs : List NamedPolicy) → ArePolicies Reads s ps → ArePolicies Reads s qs → ps ≡ qs
    one_policies s ps qs h k = one_list (Fits Reads) same (policies_of s) ps qs h k

    pub policy_said : ((s : Store) (id text : List ℕ) → Contains (policies_of s) (id, text) ↔ (text_under s (policy_name id) ≡ Some text))
        → (s : Store) (ps : List NamedPolicy) → ArePolicies Reads s ps → (p : NamedPolicy)
        → Contains ps p ↔ ((text : List ℕ) × (text_under s (policy_name p.id) ≡ Some text) × Reads p.id text p.policy)
    policy_said told s ps h p = (to, from)
      where
        to : Contains ps p → (text : List ℕ) × (text_under s (policy_name p.id) ≡ Some text) × Reads p.id text p.policy
        to m =
            let found = of_second (Fits Reads) (policies_of s) ps h p m in
            let text : List ℕ = found.0.1 in
            let is : p.id ≡ found.0.0 = found.2.0 in (
              text,
              subst (λ id. text_under s (policy_name id) ≡ Some text) (sym is) ((told s found.0.0 text).0 found.1),
              subst (λ id. Reads id text p.policy) (sym is) found.2.1,
            )

        from : (text : List ℕ) × (text_under s (policy_name p.id) ≡ Some text) × Reads p.id text p.policy → Contains ps p
        from r =
            let found = of_first (Fits Reads) (policies_of s) ps h (p.id, r.0) ((told s p.id r.0).1 r.1) in
            subst (λ q. Contains ps q) (same (p.id, r.0) found.0 p found.2 (refl, r.2)) found.1

-- ---- what stands beside the texts ascends, whatever was read
AnyText : List ℕ → List ℕ → Policy → Type 0
AnyText id text p = Unit {0}

any_body : (id : List ℕ) (b : Option (ReadText Policy)) → IsBodyRead (AnyText id) b
unfolding AnyText
any_body id None = tt
any_body id (Some t) = tt

any_read : (ps : List (String Global × Entry Policy)) → AllNamed string_bytes (λ id. IsEntryRead (AnyText id)) ps
any_read [] = tt
any_read (p ∷ ps) = (any_body (string_bytes p.0) p.1.body, any_read ps)

pub kept_ascend : (k : StoreEntries Policy Entity) (ps : List NamedPolicy) → updates (abstract_store k) ≡ abstract_updates k
    → ps ≡ policies_read k.policies → AreIdsAscending (map (λ p. p.id) ps)
kept_ascend k ps in_order is =
    subst (λ qs. AreIdsAscending (map (λ (p : NamedPolicy). p.id) qs)) (sym is)
    (policies_ascend AnyText (abstract_store k) (policies_read k.policies) (policies_are AnyText k (any_read k.policies) in_order))

pub result_ascends : {E : Type 0} (k : StoreEntries Policy Entity) → updates (abstract_store k) ≡ abstract_updates k
    → (result : Result (Vec (Bor (List ℕ) × Bor Policy) Global) E) → IfOk result (λ ps. named ps.items ≡ policies_read k.policies)
    → IfOk result (λ ps. AreIdsAscending (map (λ p. p.id) (named ps.items)))
result_ascends k in_order (Ok ps) is = kept_ascend k (named ps.items) in_order is
result_ascends k in_order (Err e) is = tt
