-- One parent more, and one entity of the work done.
use Rattle.std.proofs.Common.{◌≡◌, ◌+◌, ◌<◌, ◌^◌, List, [], ◌∷◌, ◌++◌, length, refl, subst, inl, inr, arith, length-append}
use Rattle.std.specs.Prelude.{Contains, ◌⊎◌}
use Rattle.std.specs.BTreeSet.{insert_key}
use Rattle.std.proofs.lemmas.List.Elements.{Contains-append_left, Contains-push, Contains-push_cases}
use Rattle.values.specs.declared.entity_uid.EntityUid.{EntityUid}
use Rattle.values.specs.Names.{uid_cmp, uid_cmp-IsAntisymmetric}
use Rattle.ancestor_search.specs.Hierarchy.{Parents, Path, IsAncestor, AreAllAncestorsOf}
use Rattle.ancestor_search.specs.Search.{AddsUnseen}
use Rattle.ancestor_search.proofs.Members.{insert_key-kept, insert_key-from, insert_key-here}
use Rattle.ancestor_search.specs.Deciding.{Contains-none}

module _ (ps s w s1 w1 : List EntityUid) (a : AddsUnseen ps s w s1 w1) (p : EntityUid) where
  -- the parent was seen before
  pub AddsUnseen-seen : Contains s1 p → AddsUnseen (ps ++ p ∷ []) s w s1 w1
  AddsUnseen-seen there = record {
    kept = a.kept;
    all = λ x h. elim (Contains-push_cases ps p x h) [ inl t ↦ a.all x t | inr e ↦ subst (λ y. Contains s1 y) e there ];
    from = λ x h. elim (a.from x h) [ inl t ↦ inl t | inr t ↦ inr (Contains-append_left ps _ x t) ];
    work_kept = a.work_kept;
    work_from = λ x h. elim (a.work_from x h) [ inl t ↦ inl t | inr t ↦ inr (Contains-append_left ps _ x t) ];
    fresh = a.fresh;
    count = a.count;
  }

  -- the parent is new
  pub AddsUnseen-new : (s2 w2 : List EntityUid) → s2 ≡ insert_key uid_cmp s1 p → w2 ≡ w1 ++ p ∷ [] → length s2 ≡ length s1 + 1 → AddsUnseen (ps ++ p ∷ []) s w s2 w2
  AddsUnseen-new s2 w2 es ew longer = record {
    kept = λ x h. rw es (insert_key-kept uid_cmp s1 p x (a.kept x h));
    all = λ x h. rw es (elim (Contains-push_cases ps p x h) [ inl t ↦ insert_key-kept uid_cmp s1 p x (a.all x t) | inr e ↦ subst (λ y. Contains (insert_key uid_cmp s1 p) y) e (insert_key-here uid_cmp uid_cmp-IsAntisymmetric s1 p) ]);
    from = λ x h. elim (insert_key-from uid_cmp s1 p x (rw es at h)) [
      | inl t ↦ elim (a.from x t) [ inl u ↦ inl u | inr u ↦ inr (Contains-append_left ps _ x u) ]
      | inr e ↦ inr (subst (λ y. Contains (ps ++ p ∷ []) y) e (Contains-push ps p))
    ];
    work_kept = λ x h. rw ew (Contains-append_left w1 _ x (a.work_kept x h));
    work_from = λ x h. elim (Contains-push_cases w1 p x (rw ew at h)) [
      | inl t ↦ elim (a.work_from x t) [ inl u ↦ inl u | inr u ↦ inr (Contains-append_left ps _ x u) ]
      | inr e ↦ inr (subst (λ y. Contains (ps ++ p ∷ []) y) e (Contains-push ps p))
    ];
    fresh = λ x h. elim (insert_key-from uid_cmp s1 p x (rw es at h)) [
      | inl t ↦ elim (a.fresh x t) [ inl u ↦ inl u | inr u ↦ inr (rw ew (Contains-append_left w1 _ x u)) ]
      | inr e ↦ inr (rw ew (subst (λ y. Contains (w1 ++ p ∷ []) y) e (Contains-push w1 p)))
    ];
    count = let grown : length w2 ≡ length w1 + 1 = rw ew (rw length-append refl) in omega (arith, a.count);
  }

-- a path goes on
pub Path-more : (parents : Parents) (b : EntityUid) (cs : List EntityUid) (u x : EntityUid) → Path parents b cs u → Contains (parents u) x → Path parents b (cs ++ u ∷ []) x
Path-more parents b [] u x h e = (h, e)
Path-more parents b (c ∷ cs) u x h e = (h.0, Path-more parents c cs u x h.1 e)

pub IsAncestor-more : (parents : Parents) (b u x : EntityUid) → IsAncestor parents u b → Contains (parents u) x → IsAncestor parents x b
IsAncestor-more parents b u x h e = (h.0 ++ u ∷ [], Path-more parents b h.0 u x h.1 e)

-- where the search stands: what is seen lies above b, and all parents of what is seen and not in the work are seen
pub record Searching (parents : Parents) (b : EntityUid) (seen work : List EntityUid) : Type 0 where
  pub sound : (x : EntityUid) → Contains seen x → IsAncestor parents x b
  pub begun : (x : EntityUid) → Contains (parents b) x → Contains seen x
  pub closed : (x : EntityUid) → Contains seen x → Contains work x ⊎ ((y : EntityUid) → Contains (parents x) y → Contains seen y)
  pub work_seen : (x : EntityUid) → Contains work x → Contains seen x
  pub small : length seen < 2 ^ 63

module _ (parents : Parents) (b : EntityUid) where
  pub Searching-begin : (seen work : List EntityUid) → AddsUnseen (parents b) [] [] seen work → length seen < 2 ^ 63 → Searching parents b seen work
  Searching-begin seen work a small = record {
    sound = λ x h. elim (a.from x h) [ inl t ↦ Contains-none x t | inr t ↦ ([], t) ];
    begun = a.all;
    closed = λ x h. elim (a.fresh x h) [ inl t ↦ Contains-none x t | inr t ↦ inl t ];
    work_seen = λ x h. elim (a.work_from x h) [ inl t ↦ Contains-none x t | inr t ↦ a.all x t ];
    small = small;
  }

  pub Searching-step : (seen work rest seen' work' : List EntityUid) (u : EntityUid) → Searching parents b seen work → work ≡ rest ++ u ∷ [] → AddsUnseen (parents u) seen rest seen' work' → length seen' < 2 ^ 63 → Searching parents b seen' work'
  Searching-step seen work rest seen' work' u s e a small =
      let here : Contains work u = rw e (Contains-push rest u) in
      record {
        sound = λ x h. elim (a.from x h) [ inl t ↦ s.sound x t | inr t ↦ IsAncestor-more parents b u x (s.sound u (s.work_seen u here)) t ];
        begun = λ x h. a.kept x (s.begun x h);
        closed = λ x h. elim (a.fresh x h) [
          | inl t ↦ elim (s.closed x t) [
            | inl v ↦ elim (Contains-push_cases rest u x (rw e at v)) [
              | inl w ↦ inl (a.work_kept x w)
              | inr same ↦ inr (λ y p. a.all y (rw same p))
            ]
            | inr v ↦ inr (λ y p. a.kept y (v y p))
          ]
          | inr t ↦ inl t
        ];
        work_seen = λ x h. elim (a.work_from x h) [
          | inl t ↦ a.kept x (s.work_seen x (rw e (Contains-append_left rest (u ∷ []) x t)))
          | inr t ↦ a.all x t
        ];
        small = small;
      }

  -- with no work left, all that a path leads to is seen
  reached : (seen : List EntityUid) → ((x : EntityUid) → Contains seen x → (y : EntityUid) → Contains (parents x) y → Contains seen y) → (c : EntityUid) → Contains seen c → (cs : List EntityUid) (a : EntityUid) → Path parents c cs a → Contains seen a
  reached seen closed c there [] a h = closed c there a h
  reached seen closed c there (d ∷ ds) a h = reached seen closed d (closed c there d h.0) ds a h.1

  pub Searching-end : (seen : List EntityUid) → Searching parents b seen [] → AreAllAncestorsOf parents b seen
  Searching-end seen s a = (s.sound a, λ above. complete above.0 above.1)
    where
      closed : (x : EntityUid) → Contains seen x → (y : EntityUid) → Contains (parents x) y → Contains seen y
      closed x h = elim (s.closed x h) [ inl t ↦ Contains-none x t | inr t ↦ t ]

      complete : (cs : List EntityUid) → Path parents b cs a → Contains seen a
      complete [] h = s.begun a h
      complete (c ∷ cs) h = reached seen closed c (s.begun c h.0) cs a h.1

  -- what a path found so far leads to by one more edge
  pub Searching-hit : (seen work rest : List EntityUid) (u a : EntityUid) → Searching parents b seen work → work ≡ rest ++ u ∷ [] → Contains (parents u) a → IsAncestor parents a b
  Searching-hit seen work rest u a s e edge = IsAncestor-more parents b u a (s.sound u (s.work_seen u (rw e (Contains-push rest u)))) edge
