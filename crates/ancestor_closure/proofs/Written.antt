-- New lists written over old ones.
use Rattle.std.proofs.Common.{◌≡◌, ◌∙◌, Bool, true, false, cond, List, [], ◌∷◌, ◌++◌, refl, ap, sym, subst, inl, inr, arith}
use Rattle.std.specs.Prelude.{Contains, ◌⊎◌, Vec}
use Rattle.std.specs.declared.alloc.Global.{Global}
use Rattle.std.specs.Ordering.{is_eq}
use Rattle.std.specs.BTreeMap.{BTreeMap}
use Rattle.std.proofs.lemmas.List.Elements.{Contains-append_left, Contains-push}
use Rattle.values.specs.declared.entity_uid.EntityUid.{EntityUid}
use Rattle.values.specs.Names.{uid_cmp}
use Rattle.ancestor_search.specs.Hierarchy.{Parents}
use Rattle.ancestor_search.specs.Decided.{is_same}
use Rattle.ancestor_search.specs.Deciding.{same_uid, Contains-here, Contains-there, Contains-cases, Contains-none}
use Rattle.ancestor_closure.specs.Lists.{IsListOf, ancestors_in, HasEntry, KeepEntries}
use Rattle.ancestor_closure.specs.declared.relatives.Relatives.{Relatives}
use Rattle.ancestor_closure.specs.inner.OneChange.{firsts, written}
use Rattle.ancestor_closure.proofs.Paths.{differ}

pub firsts-push : (xs : List (EntityUid × Vec EntityUid Global)) (x : EntityUid × Vec EntityUid Global) → firsts (xs ++ x ∷ []) ≡ firsts xs ++ x.0 ∷ []
firsts-push [] x = refl
firsts-push (y ∷ ys) x = ap (λ r. y.0 ∷ r) (firsts-push ys x)

written-push : (xs : List (EntityUid × Vec EntityUid Global)) (x : EntityUid × Vec EntityUid Global) (q : EntityUid) (old : List EntityUid) → written (xs ++ x ∷ []) q old ≡ written xs q (cond (is_eq (uid_cmp x.0 q)) x.1.items old)
written-push [] x q old = refl
written-push (y ∷ ys) x q old = ap (λ r. cond (is_eq (uid_cmp y.0 q)) y.1.items r) (written-push ys x q old)

pub firsts-at : (xs : List (EntityUid × Vec EntityUid Global)) (q : EntityUid) → Contains (firsts xs) q → (list : Vec EntityUid Global) × Contains xs (q, list)
firsts-at [] q h = Contains-none q h
firsts-at (x ∷ xs) q h = elim (Contains-cases x.0 (firsts xs) q h) [
  | inl e ↦ (x.1, (0, omega arith, ap (λ z. (z, x.1)) e))
  | inr t ↦ let (list, there) = firsts-at xs q t in (list, Contains-there x xs (q, list) there)
]

pub firsts-has : (xs : List (EntityUid × Vec EntityUid Global)) (q : EntityUid) (list : Vec EntityUid Global) → Contains xs (q, list) → Contains (firsts xs) q
firsts-has [] q list h = Contains-none (q, list) h
firsts-has (x ∷ xs) q list h = elim (Contains-cases x xs (q, list) h) [
  | inl e ↦ (0, omega arith, ap (λ z. z.0) e)
  | inr t ↦ Contains-there x.0 (firsts xs) q (firsts-has xs q list t)
]

-- an entity none of whose lists is written keeps its own
pub written-away : (xs : List (EntityUid × Vec EntityUid Global)) (q : EntityUid) (old : List EntityUid) → (Contains (firsts xs) q → ⊥) → written xs q old ≡ old
written-away [] q old not = refl
written-away (x ∷ xs) q old not = at (written-away xs q old (λ h. not (Contains-there x.0 (firsts xs) q h))) (is_same x.0 q) refl
  where
    at : written xs q old ≡ old → (b : Bool) → is_same x.0 q ≡ b → cond b x.1.items (written xs q old) ≡ old
    at rest true e = absurd (not (subst (λ z. Contains (x.0 ∷ firsts xs) z) (same_uid x.0 q e) (Contains-here x.0 (firsts xs))))
    at rest false e = rest

pub written-right : (p : Parents) (q : EntityUid) (old : List EntityUid) (fresh : List (EntityUid × Vec EntityUid Global)) → ((list : Vec EntityUid Global) → Contains fresh (q, list) → IsListOf p q list.items) → Contains (firsts fresh) q ⊎ IsListOf p q old → IsListOf p q (written fresh q old)
written-right p q old [] right (inl h) = Contains-none q h
written-right p q old [] right (inr h) = h
written-right p q old (x ∷ xs) right others = at (written-right p q old xs (λ list h. right list (Contains-there x xs (q, list) h))) (is_eq (uid_cmp x.0 q)) refl
  where
    at : (Contains (firsts xs) q ⊎ IsListOf p q old → IsListOf p q (written xs q old)) → (b : Bool) → is_eq (uid_cmp x.0 q) ≡ b → IsListOf p q (cond b x.1.items (written xs q old))
    at rest true e = right x.1 (0, omega arith, ap (λ z. (z, x.1)) (same_uid x.0 q e))
    at rest false e = rest (elim others [
      | inl h ↦ elim (Contains-cases x.0 (firsts xs) q h) [
        | inl same ↦ absurd (differ x.0 q e same)
        | inr t ↦ inl t
      ]
      | inr h ↦ inr h
    ])

-- what the loop of `write_all` keeps
pub record Writing (m : BTreeMap EntityUid Relatives) (lists : List (EntityUid × Vec EntityUid Global)) (wanted : EntityUid → List EntityUid) : Type 0 where
  pub known : (q : EntityUid) → Contains (firsts lists) q → HasEntry m q
  pub same : (q : EntityUid) → written lists q (ancestors_in m q) ≡ wanted q

pub Writing-step : (m n : BTreeMap EntityUid Relatives) (lists rest : List (EntityUid × Vec EntityUid Global)) (wanted : EntityUid → List EntityUid) (e : EntityUid) (list : Vec EntityUid Global)
    → Writing m lists wanted → lists ≡ rest ++ (e, list) ∷ [] → ((q : EntityUid) → ancestors_in n q ≡ cond (is_same e q) list.items (ancestors_in m q)) → KeepEntries m n → Writing n rest wanted
Writing-step m n lists rest wanted e list s is wrote stay = record {
  known = λ q h. stay q (s.known q (rw (is, firsts-push) (Contains-append_left (firsts rest) _ q h)));
  same = λ q. ap (written rest q) (wrote q) ∙ sym (written-push rest (e, list) q (ancestors_in m q)) ∙ ap (λ f. written f q (ancestors_in m q)) (sym is) ∙ s.same q;
}

pub Writing-last : (m : BTreeMap EntityUid Relatives) (lists rest : List (EntityUid × Vec EntityUid Global)) (wanted : EntityUid → List EntityUid) (e : EntityUid) (list : Vec EntityUid Global)
    → Writing m lists wanted → lists ≡ rest ++ (e, list) ∷ [] → HasEntry m e
Writing-last m lists rest wanted e list s is = s.known e (rw (is, firsts-push) (Contains-push (firsts rest) e))
