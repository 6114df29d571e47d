-- All that is kept of a graph.
use Rattle.std.proofs.Common.{◌≡◌, ◌∙◌, Bool, true, false, cond, List, [], ◌∷◌, ◌++◌, refl, ap, sym, subst, inl, inr}
use Rattle.std.proofs.Common.{Result, Ok, Err, OnErr}
use Rattle.std.specs.Prelude.{Contains, ◌⊎◌, ◌↔◌}
use Rattle.std.specs.Borrow.{Bor}
use Rattle.std.specs.BTreeSet.{insert_key}
use Rattle.std.specs.List.Sorted.{IsStrictlySortedBy}
use Rattle.std.proofs.lemmas.List.Elements.{Contains-append_left, Contains-push, Contains-push_cases}
use Rattle.values.specs.declared.entity_uid.EntityUid.{EntityUid}
use Rattle.values.specs.Names.{uid_cmp, uid_cmp-IsAntisymmetric}
use Rattle.ancestor_search.specs.Hierarchy.{Parents, IsAncestor, AreOnCycles, IsAscending, referenced}
use Rattle.ancestor_search.specs.Decided.{HaveAllParents, is_same}
use Rattle.ancestor_search.specs.Deciding.{same_uid, same_self, Contains-here, Contains-there}
use Rattle.ancestor_search.specs.Deciding.{Contains-cases, Contains-none}
use Rattle.ancestor_search.proofs.Members.{insert_key-kept, insert_key-from, insert_key-here}
use Rattle.ancestor_search.specs.inner.Backwards.{AreChildrenAmong}
use Rattle.ancestor_closure.specs.Lists.{IsListOf, IsCacheContent, AddsChild}
use Rattle.ancestor_closure.specs.inner.WholeGraph.{AreListsOf}

pub err_always : {T E : Type 0} {A : Type 0} (r : Result T E) → A → OnErr r A
err_always (Ok x) a = tt
err_always (Err x) a = a

pub adds_none : (ps : List EntityUid) (c : EntityUid) (f : EntityUid → List EntityUid) → AddsChild ps c f f
adds_none ps c f = record { kept = λ x y h. h; from = λ x y h. inl h }

pub member_more : (xs ys us : List EntityUid) (u : EntityUid) → ((x : EntityUid) → Contains xs x ↔ Contains us x) → ys ≡ insert_key uid_cmp xs u → (x : EntityUid) → Contains ys x ↔ Contains (us ++ u ∷ []) x
member_more xs ys us u s is x = (
  λ h. elim (insert_key-from uid_cmp xs u x (subst (λ l. Contains l x) is h)) [
    | inl t ↦ Contains-append_left us (u ∷ []) x ((s x).0 t)
    | inr same ↦ subst (λ z. Contains (us ++ u ∷ []) z) same (Contains-push us u)
  ],
  λ h. subst (λ l. Contains l x) (sym is) (elim (Contains-push_cases us u x h) [
    | inl t ↦ insert_key-kept uid_cmp xs u x ((s x).1 t)
    | inr same ↦ subst (λ z. Contains (insert_key uid_cmp xs u) z) same (insert_key-here uid_cmp uid_cmp-IsAntisymmetric xs u)
  ]),
)

-- a list with no member is empty
pub no_member : (xs : List EntityUid) → ((x : EntityUid) → Contains xs x → ⊥) → xs ≡ []
no_member [] h = refl
no_member (x ∷ xs) h = absurd (h x (Contains-here x xs))

pub none_ascends : (xs : List (Bor EntityUid)) → xs ≡ [] → IsAscending (referenced xs)
unfolding IsStrictlySortedBy
none_ascends [] e = tt
none_ascends (x ∷ xs) e = cc e

pub names_has : (xs : List (Bor EntityUid)) (x : Bor EntityUid) → Contains xs x → Contains (referenced xs) x.now
names_has [] x h = Contains-none x h
names_has (y ∷ ys) x h = elim (Contains-cases y ys x h) [
  | inl e ↦ subst (λ z. Contains (y.now ∷ referenced ys) z) (ap (λ z. z.now) e) (Contains-here y.now (referenced ys))
  | inr t ↦ Contains-there y.now (referenced ys) x.now (names_has ys x t)
]

-- the edges of one entity more
pub children_more : (p : Parents) (us : List EntityUid) (ch ch' : EntityUid → List EntityUid) (u : EntityUid) → AreChildrenAmong us p ch
    → ((x y : EntityUid) → Contains (ch' x) y ↔ (Contains (ch x) y ⊎ (Contains (p u) x × (u ≡ y)))) → AreChildrenAmong (us ++ u ∷ []) p ch'
children_more p us ch ch' u s adds x y = (
  λ h. elim ((adds x y).0 h) [
    | inl old ↦ let t = (s x y).0 old in (Contains-append_left us (u ∷ []) y t.0, t.1)
    | inr new ↦ subst (λ z. Contains (us ++ u ∷ []) z × Contains (p z) x) new.1 (Contains-push us u, new.0)
  ],
  λ h. (adds x y).1 (elim (Contains-push_cases us u y h.0) [
    | inl t ↦ inl ((s x y).1 (t, h.1))
    | inr same ↦ inr (subst (λ z. Contains (p z) x) (sym same) h.1, same)
  ]),
)

-- all of them are added
pub adds_all : (ps qs : List EntityUid) (u : EntityUid) (ch ch' : EntityUid → List EntityUid) → ((x : EntityUid) → Contains qs x ↔ Contains ps x) → AddsChild qs u ch ch'
    → ((x : EntityUid) → Contains qs x → Contains (ch' x) u) → (x y : EntityUid) → Contains (ch' x) y ↔ (Contains (ch x) y ⊎ (Contains ps x × (u ≡ y)))
adds_all ps qs u ch ch' same adds added x y = (
  λ h. elim (adds.from x y h) [ inl old ↦ inl old | inr new ↦ inr ((same x).0 new.0, new.1) ],
  λ h. elim h [
    | inl old ↦ adds.kept x y old
    | inr new ↦ subst (λ z. Contains (ch' x) z) new.1 (added x ((same x).1 new.0))
  ],
)

pub adds_before : (ps : List EntityUid) (u : EntityUid) (f ch ch' : EntityUid → List EntityUid) → ((q : EntityUid) → ch q ≡ f q)
    → ((x y : EntityUid) → Contains (ch' x) y ↔ (Contains (ch x) y ⊎ (Contains ps x × (u ≡ y)))) → (x y : EntityUid) → Contains (ch' x) y ↔ (Contains (f x) y ⊎ (Contains ps x × (u ≡ y)))
adds_before ps u f ch ch' same adds x y = subst (λ l. Contains (ch' x) y ↔ (Contains l y ⊎ (Contains ps x × (u ≡ y)))) (same x) (adds x y)

pub lists_more : (p : Parents) (us : List EntityUid) (anc anc' : EntityUid → List EntityUid) (x : EntityUid) (list : List EntityUid)
    → AreListsOf p us anc → IsListOf p x list → ((q : EntityUid) → anc' q ≡ cond (is_same x q) list (anc q)) → AreListsOf p (us ++ x ∷ []) anc'
lists_more p us anc anc' x list h is wrote b = at (is_same x b) refl (wrote b)
  where
    at : (t : Bool) → is_same x b ≡ t → anc' b ≡ cond t list (anc b) → (Contains (us ++ x ∷ []) b × IsListOf p b (anc' b)) ⊎ ((Contains (us ++ x ∷ []) b → ⊥) × (anc' b ≡ []))
    at true same e =
        let one : x ≡ b = same_uid x b same in
        inl (
          subst (λ z. Contains (us ++ x ∷ []) z) one (Contains-push us x),
          subst (λ l. IsListOf p b l) (sym e) (subst (λ z. IsListOf p z list) one is),
        )
    at false apart e = elim (h b) [
      | inl known ↦ inl (Contains-append_left us (x ∷ []) b known.0, subst (λ l. IsListOf p b l) (sym e) known.1)
      | inr none ↦ inr (
        (λ there. elim (Contains-push_cases us x b there) [
          | inl old ↦ none.0 old
          | inr same ↦ cc (subst (λ z. is_same x z ≡ true) same (same_self x), apart)
        ]),
        e ∙ none.1,
      )
    ]

nothing_above : (p : Parents) (us : List EntityUid) → HaveAllParents p us → (b : EntityUid) → (Contains us b → ⊥) → (a : EntityUid) → IsAncestor p a b → Contains [] a
nothing_above p us all b not a ([], h) = absurd (not (all b a h))
nothing_above p us all b not a ((c ∷ cs), h) = absurd (not (all b c h.0))

pub all_kept : (p : Parents) (us vs : List EntityUid) → us ≡ vs → HaveAllParents p vs → (anc ch : EntityUid → List EntityUid) (cyc found : List EntityUid) → AreListsOf p us anc
    → AreChildrenAmong us p ch → AreOnCycles p found → ((x : EntityUid) → Contains cyc x ↔ Contains found x) → IsCacheContent p anc ch cyc
unfolding IsStrictlySortedBy
all_kept p us vs is all anc ch cyc found lists children on same = record {
  above = λ b. elim (lists b) [
    | inl known ↦ known.1
    | inr none ↦ subst (λ l. IsListOf p b l) (sym none.1) ((λ a. ((λ t. Contains-none a t), nothing_above p us all' b none.0 a)), tt)
  ];
  below = λ a b. (λ h. ((children a b).0 h).1, λ h. (children a b).1 (all' b a h, h));
  on_cycles = λ a. (λ h. (on a).0 ((same a).0 h), λ up. (same a).1 ((on a).1 up));
}
  where
    all' : HaveAllParents p us
    all' = subst (λ l. HaveAllParents p l) (sym is) all
