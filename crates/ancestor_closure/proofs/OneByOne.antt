-- One entity after another: children, those on cycles, and those that are picked.
use Rattle.std.proofs.Common.{◌≡◌, ◌∙◌, Bool, false, cond, List, [], ◌∷◌, ◌++◌, ap, sym, subst, inl, inr}
use Rattle.std.specs.Prelude.{Contains, IsTrue, ◌⊎◌, ◌↔◌, Vec}
use Rattle.std.specs.declared.alloc.Global.{Global}
use Rattle.std.specs.BTreeSet.{insert_key}
use Rattle.std.specs.List.{list_any}
use Rattle.std.proofs.lemmas.List.Elements.{Contains-append_left, Contains-push, Contains-push_cases}
use Rattle.values.specs.declared.entity_uid.EntityUid.{EntityUid}
use Rattle.ancestor_search.specs.Hierarchy.{IsAscending}
use Rattle.ancestor_search.specs.Decided.{is_same}
use Rattle.values.specs.Names.{uid_cmp, uid_cmp-IsAntisymmetric}
use Rattle.ancestor_search.specs.Deciding.{Contains-here, Contains-cases, Contains-none}
use Rattle.ancestor_search.proofs.Members.{insert_key-kept, insert_key-from, insert_key-here}
use Rattle.ancestor_search.proofs.Picking.{Picked, Picked-skip, Picked-push}
use Rattle.ancestor_closure.specs.Lists.{AddsChild}
use Rattle.ancestor_closure.specs.inner.OneChange.{TakesChild, IsInOwn, Enters, Leaves}
use Rattle.ancestor_closure.proofs.Updates.{member_kept, member_from, member_gone}

only : {A : Type 0} (k x : A) → Contains (k ∷ []) x → k ≡ x
only k x h = elim (Contains-cases k [] x h) [ inl e ↦ e | inr t ↦ Contains-none x t ]

-- ---- children
pub adds_none : (ps : List EntityUid) (c : EntityUid) (f : EntityUid → List EntityUid) → AddsChild ps c f f
adds_none ps c f = record { kept = λ x y h. h; from = λ x y h. inl h }

pub adds_more : (ps : List EntityUid) (c p : EntityUid) (f g h : EntityUid → List EntityUid) → Contains ps p → AddsChild ps c f g → AddsChild (p ∷ []) c g h → AddsChild ps c f h
adds_more ps c p f g h there s t = record {
  kept = λ x y k. t.kept x y (s.kept x y k);
  from = λ x y k. elim (t.from x y k) [
    | inl old ↦ s.from x y old
    | inr new ↦ inr (subst (λ z. Contains ps z) (only p x new.0) there, new.1)
  ];
}

-- the same children
pub adds_as : (ps : List EntityUid) (c : EntityUid) (f g : EntityUid → List EntityUid) → ((q : EntityUid) → g q ≡ f q) → AddsChild ps c f g
adds_as ps c f g same = record { kept = λ x y h. subst (λ l. Contains l y) (sym (same x)) h; from = λ x y h. inl (subst (λ l. Contains l y) (same x) h) }

pub adds_at : (p q c d : EntityUid) (f g : EntityUid → List EntityUid) → p ≡ q → c ≡ d → AddsChild (p ∷ []) c f g → AddsChild (q ∷ []) d f g
adds_at p q c d f g e i s = subst (λ z. AddsChild (q ∷ []) z f g) i (subst (λ z. AddsChild (z ∷ []) c f g) e s)

pub takes_none : (ps : List EntityUid) (c : EntityUid) (f : EntityUid → List EntityUid) → TakesChild [] ps c f f
takes_none ps c f = record { from = λ x y h. h; kept = λ x y h. inl h; taken = λ x none not h. Contains-none x none }

pub takes_more : (xs ps : List EntityUid) (c p : EntityUid) (f g h : EntityUid → List EntityUid) → TakesChild xs ps c f g → TakesChild (p ∷ []) ps c g h → TakesChild (xs ++ p ∷ []) ps c f h
takes_more xs ps c p f g h s t = record {
  from = λ x y k. s.from x y (t.from x y k);
  kept = λ x y k. elim (s.kept x y k) [
    | inl on ↦ elim (t.kept x y on) [
      | inl still ↦ inl still
      | inr gone ↦ inr (gone.0, subst (λ z. Contains (xs ++ p ∷ []) z) (only p x gone.1) (Contains-push xs p), gone.2)
    ]
    | inr gone ↦ inr (gone.0, Contains-append_left xs (p ∷ []) x gone.1, gone.2)
  ];
  taken = λ x there not k. elim (Contains-push_cases xs p x there) [
    | inl old ↦ s.taken x old not (t.from x c k)
    | inr same ↦ t.taken x (subst (λ z. Contains (p ∷ []) z) same (Contains-here p [])) not k
  ];
}

pub takes_not : (ps : List EntityUid) (c p : EntityUid) (f : EntityUid → List EntityUid) → Contains ps p → TakesChild (p ∷ []) ps c f f
takes_not ps c p f there = record {
  from = λ x y h. h;
  kept = λ x y h. inl h;
  taken = λ x one not h. not (subst (λ z. Contains ps z) (only p x one) there);
}

pub takes_unless : (ps : List EntityUid) (c p : EntityUid) (f g h : EntityUid → List EntityUid) → (Contains ps p → ⊥) → TakesChild (p ∷ []) [] c f g → ((q : EntityUid) → h q ≡ g q)
    → TakesChild (p ∷ []) ps c f h
takes_unless ps c p f g h not s same = record {
  from = λ x y k. s.from x y (subst (λ l. Contains l y) (same x) k);
  kept = λ x y k. elim (s.kept x y k) [
    | inl on ↦ inl (subst (λ l. Contains l y) (sym (same x)) on)
    | inr gone ↦ inr (gone.0, gone.1, λ there. not (subst (λ z. Contains ps z) (sym (only p x gone.1)) there))
  ];
  taken = λ x one off k. s.taken x one (λ none. Contains-none x none) (subst (λ l. Contains l c) (same x) k);
}

-- from the same children
pub takes_from : (xs ps : List EntityUid) (c : EntityUid) (f g h : EntityUid → List EntityUid) → ((q : EntityUid) → g q ≡ f q) → TakesChild xs ps c g h → TakesChild xs ps c f h
takes_from xs ps c f g h same s = record {
  from = λ x y k. subst (λ l. Contains l y) (same x) (s.from x y k);
  kept = λ x y k. s.kept x y (subst (λ l. Contains l y) (sym (same x)) k);
  taken = s.taken;
}

-- ---- those on cycles
pub enters_none : (lists : List (EntityUid × Vec EntityUid Global)) (xs : List EntityUid) → Enters lists xs xs
enters_none lists xs = record { kept = λ x h. h; from = λ x h. inl h }

pub enters_one : (e : EntityUid × Vec EntityUid Global) (xs ys : List EntityUid) → Contains e.1.items e.0 → ys ≡ insert_key uid_cmp xs e.0 → Enters (e ∷ []) xs ys
enters_one e xs ys own is = record {
  kept = λ x h. subst (λ l. Contains l x) (sym is) (insert_key-kept uid_cmp xs e.0 x h);
  from = λ x h. elim (insert_key-from uid_cmp xs e.0 x (subst (λ l. Contains l x) is h)) [
    | inl old ↦ inl old
    | inr same ↦ inr (e.1, subst (λ z. Contains (e ∷ []) (z, e.1)) same (Contains-here e []), subst (λ z. Contains e.1.items z) same own)
  ];
}

pub entered_one : (e : EntityUid × Vec EntityUid Global) (xs ys : List EntityUid) → ys ≡ insert_key uid_cmp xs e.0 → Contains ys e.0
entered_one e xs ys is = subst (λ l. Contains l e.0) (sym is) (insert_key-here uid_cmp uid_cmp-IsAntisymmetric xs e.0)

pub enters_more : (lists : List (EntityUid × Vec EntityUid Global)) (e : EntityUid × Vec EntityUid Global) (xs ys zs : List EntityUid) → Contains lists e → Enters lists xs ys → Enters (e ∷ []) ys zs → Enters lists xs zs
enters_more lists e xs ys zs there s t = record {
  kept = λ x h. t.kept x (s.kept x h);
  from = λ x h. elim (t.from x h) [
    | inl old ↦ s.from x old
    | inr new ↦ inr (new.0, subst (λ z. Contains lists z) (only e (x, new.0) new.1) there, new.2)
  ];
}

pub entered_more : (lists : List (EntityUid × Vec EntityUid Global)) (e : EntityUid × Vec EntityUid Global) (ys zs : List EntityUid) → ((x : EntityUid) → IsInOwn lists x → Contains ys x)
    → ((x : EntityUid) → Contains ys x → Contains zs x) → (Contains e.1.items e.0 → Contains zs e.0) → (x : EntityUid) → IsInOwn (lists ++ e ∷ []) x → Contains zs x
entered_more lists e ys zs old kept new x (list, there, own) = elim (Contains-push_cases lists e (x, list) there) [
  | inl t ↦ kept x (old x (list, t, own))
  | inr same ↦ subst (λ z. Contains z.1.items z.0 → Contains zs z.0) same new own
]

-- what a search in its own list says of an entity
pub is_own : (anc : EntityUid → List EntityUid) (e e1 e2 : EntityUid) (list : List EntityUid) (b : Bool) → e1 ≡ e → e2 ≡ e → list ≡ anc e1 → IsAscending (anc e)
    → (IsAscending list → IsTrue b ↔ Contains list e2) → IsTrue b ↔ Contains (anc e) e
is_own anc e e1 e2 list b is1 is2 at up found =
    let same : list ≡ anc e = at ∙ ap anc is1 in
    subst (λ z. IsTrue b ↔ Contains (anc e) z) is2 (subst (λ l. IsTrue b ↔ Contains l e2) same (found (subst (λ l. IsAscending l) (sym same) up)))

pub leaves_none : (anc : EntityUid → List EntityUid) (xs : List EntityUid) → Leaves [] anc xs xs
leaves_none anc xs = record { from = λ x h. h; kept = λ x h. inl h; taken = λ x none off h. Contains-none x none }

pub leaves_not : (anc : EntityUid → List EntityUid) (xs : List EntityUid) (e : EntityUid) → Contains (anc e) e → Leaves (e ∷ []) anc xs xs
leaves_not anc xs e own = record {
  from = λ x h. h;
  kept = λ x h. inl h;
  taken = λ x one off h. off (subst (λ z. Contains (anc z) z) (only e x one) own);
}

pub leaves_one : (anc : EntityUid → List EntityUid) (xs ys : List EntityUid) (e : EntityUid) → (Contains (anc e) e → ⊥)
    → ((q : EntityUid) → list_any (is_same q) ys ≡ cond (is_same e q) false (list_any (is_same q) xs)) → Leaves (e ∷ []) anc xs ys
leaves_one anc xs ys e off at = record {
  from = member_from xs ys e at;
  kept = λ x h. elim (member_kept xs ys e at x h) [
    | inl t ↦ inl t
    | inr same ↦ inr (subst (λ z. Contains (e ∷ []) z × (Contains (anc z) z → ⊥)) same (Contains-here e [], off))
  ];
  taken = λ x one not h. member_gone xs ys e at (subst (λ z. Contains ys z) (sym (only e x one)) h);
}

pub leaves_more : (es : List EntityUid) (anc : EntityUid → List EntityUid) (e : EntityUid) (xs ys zs : List EntityUid) → Leaves es anc xs ys → Leaves (e ∷ []) anc ys zs → Leaves (es ++ e ∷ []) anc xs zs
leaves_more es anc e xs ys zs s t = record {
  from = λ x h. s.from x (t.from x h);
  kept = λ x h. elim (s.kept x h) [
    | inl on ↦ elim (t.kept x on) [
      | inl still ↦ inl still
      | inr gone ↦ inr (subst (λ z. Contains (es ++ e ∷ []) z) (only e x gone.0) (Contains-push es e), gone.1)
    ]
    | inr gone ↦ inr (Contains-append_left es (e ∷ []) x gone.0, gone.1)
  ];
  taken = λ x there off h. elim (Contains-push_cases es e x there) [
    | inl old ↦ s.taken x old off (t.from x h)
    | inr same ↦ t.taken x (subst (λ z. Contains (e ∷ []) z) same (Contains-here e [])) off h
  ];
}

-- ---- those that are picked
pub picked_none : (P : EntityUid → Type 0) → Picked P [] []
picked_none P = record { same = λ a. (λ h. Contains-none a h, λ h. h.0); ascending = λ up. up }

pub picked_more : (P : EntityUid → Type 0) (xs found found' : List EntityUid) (k : EntityUid) → Picked P xs found → (P k × (found' ≡ found ++ k ∷ [])) ⊎ ((P k → ⊥) × (found' ≡ found)) → Picked P (xs ++ k ∷ []) found'
picked_more P xs found found' k s step = elim step [
  | inl on ↦ subst (λ l. Picked P (xs ++ k ∷ []) l) (sym on.1) (Picked-push P xs found s k on.0)
  | inr off ↦ subst (λ l. Picked P (xs ++ k ∷ []) l) (sym off.1) (Picked-skip P xs found s k off.0)
]

-- ---- sets
pub member_more : (xs ys us : List EntityUid) (u : EntityUid) → ((x : EntityUid) → Contains xs x ↔ Contains us x) → ys ≡ insert_key uid_cmp xs u → (x : EntityUid) → Contains ys x ↔ Contains (us ++ u ∷ []) x
member_more xs ys us u s is x = (
  λ h. elim (insert_key-from uid_cmp xs u x (subst (λ l. Contains l x) is h)) [
    | inl t ↦ Contains-append_left us (u ∷ []) x ((s x).0 t)
    | inr same ↦ subst (λ z. Contains (us ++ u ∷ []) z) same (Contains-push us u)
  ],
  λ h. subst (λ l. Contains l x) (sym is) (elim (Contains-push_cases us u x h) [
    | inl t ↦ insert_key-kept uid_cmp xs u x ((s x).1 t)
    | inr same ↦ subst (λ z. Contains (insert_key uid_cmp xs u) z) same (insert_key-here uid_cmp uid_cmp-IsAntisymmetric xs u)
  ]),
)
