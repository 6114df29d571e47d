-- The search that lists each place behind those that it leads to.
use Rattle.std.proofs.Common.{◌≡◌, ◌∙◌, ℕ, ◌+◌, ◌-◌, ◌<◌, ◌≤◌, zero, suc, List, [], ◌∷◌, ◌++◌, length, refl, ap, sym, subst, inl, inr, arith, Bool, true, false, not, Option, Some, None, Vec, Global, slice_set, replicate, drop, append_assoc, append-nil}
use Rattle.std.specs.Prelude.{◌⊎◌, Contains, slice_index_or, slice_index}
use Rattle.std.proofs.lemmas.List.{length-set, length-replicate}
use Rattle.schema_types.specs.declared.place_order.Step.{Step}
use Rattle.schema_types.specs.Orders.{Graph, graph_of, successors_of, Leads, edge, edges, one_if_same, times, ComesAfterItsSuccessors, ComeAfterSuccessors, IsSuccessorsFirst}
use Rattle.schema_types.specs.inner.Ordering.{is_new, one_if_seen, times_on, entered, AreFollowed, IsEdgeTo, IsPath, IsWalk, KeepsSeen, unseen_effort, path_effort, effort, WalksOn}

-- ---- numbers and lists

differ : (x y : ℕ) → (x ≡ y) ⊎ (x ≡ y → ⊥)
differ zero zero = inl refl
differ zero (suc y) = inr (λ e. omega (arith, e))
differ (suc x) zero = inr (λ e. omega (arith, e))
differ (suc x) (suc y) = elim (differ x y) [ inl e ↦ inl (ap suc e) | inr off ↦ inr (λ e. off (omega (arith, e))) ]

one_same : (a : ℕ) → one_if_same a a ≡ 1
one_same zero = refl
one_same (suc a) = one_same a

one_other : (a b : ℕ) → (a ≡ b → ⊥) → one_if_same a b ≡ 0
one_other zero zero off = absurd (off refl)
one_other zero (suc b) off = refl
one_other (suc a) zero off = refl
one_other (suc a) (suc b) off = one_other a b (λ e. off (ap suc e))

times_push : (a : ℕ) (xs : List ℕ) (b : ℕ) → times a (xs ++ b ∷ []) ≡ times a xs + one_if_same a b
times_push a [] b = omega arith
times_push a (x ∷ xs) b = let rest = times_push a xs b in omega (arith, rest)

contains_there : (x : ℕ) (xs : List ℕ) (a : ℕ) → Contains xs a → Contains (x ∷ xs) a
contains_there x xs a (k, lt, is) = (suc k, omega (arith, lt), is)

stands : (a : ℕ) (xs : List ℕ) → 0 < times a xs → Contains xs a
stands a [] h = absurd (omega (arith, h))
stands a (x ∷ xs) h = elim (differ a x) [
  | inl same ↦ (0, omega arith, sym same)
  | inr off ↦ let none = one_other a x off in contains_there x xs a (stands a xs (omega (arith, h, none)))
]

contains_front : (xs : List ℕ) (y a : ℕ) → Contains xs a → Contains (xs ++ y ∷ []) a
contains_front [] y a (k, lt, is) = absurd (omega (arith, lt))
contains_front (x ∷ xs) y a (zero, lt, is) = (0, omega arith, is)
contains_front (x ∷ xs) y a (suc k, lt, is) = contains_there x (xs ++ y ∷ []) a (contains_front xs y a (k, omega (arith, lt), is))

contains_last : (xs : List ℕ) (a : ℕ) → Contains (xs ++ a ∷ []) a
contains_last [] a = (0, omega arith, refl)
contains_last (x ∷ xs) a = contains_there x (xs ++ a ∷ []) a (contains_last xs a)

-- what stands at a place is one
same_at : (xs : List ℕ) (k a b : ℕ) → k < length xs → slice_index_or xs k a ≡ a → slice_index_or xs k b ≡ b → a ≡ b
same_at [] k a b lt p q = absurd (omega (arith, lt))
same_at (x ∷ xs) zero a b lt p q = sym p ∙ q
same_at (x ∷ xs) (suc k) a b lt p q = same_at xs k a b (omega (arith, lt)) p q

-- where edges in memory lead
pub ends_at : (es : List (Vec ℕ Global)) (a : ℕ) → a < length es → (d : Vec ℕ Global) → successors_of (graph_of es) a ≡ (slice_index_or es a d).items
ends_at [] a lt d = absurd (omega (arith, lt))
ends_at (v ∷ vs) zero lt d = refl
ends_at (v ∷ vs) (suc a) lt d = ends_at vs a (omega (arith, lt)) d

pub no_ends : (es : List (Vec ℕ Global)) (a : ℕ) → length es ≤ a → successors_of (graph_of es) a ≡ []
no_ends [] a h = refl
no_ends (v ∷ vs) zero h = absurd (omega (arith, h))
no_ends (v ∷ vs) (suc a) h = no_ends vs a (omega (arith, h))

pub graph_length : (es : List (Vec ℕ Global)) → length (graph_of es) ≡ length es
graph_length [] = refl
graph_length (v ∷ vs) = ap suc (graph_length vs)

pub number_at : (xs : List ℕ) (k : ℕ) → k < length xs → slice_index_or xs k (slice_index xs k) ≡ slice_index xs k
number_at [] k lt = absurd (omega (arith, lt))
number_at (x ∷ xs) zero lt = refl
number_at (x ∷ xs) (suc k) lt = number_at xs k (omega (arith, lt))

-- what nothing was taken from is empty
pub none_taken : {X : Type 0} (path rest : List X) → path ≡ rest → rest ≡ drop 1 path → path ≡ []
none_taken [] rest same taken = refl
none_taken (x ∷ path) rest same taken = let e : suc (length path) ≡ length path = ap length (same ∙ taken) in absurd (omega (arith, e))

-- ---- what was seen

seen_past : (seen : List Bool) (a : ℕ) → length seen ≤ a → one_if_seen seen a ≡ 0
seen_past [] a h = refl
seen_past (s ∷ ss) zero h = absurd (omega (arith, h))
seen_past (s ∷ ss) (suc a) h = seen_past ss a (omega (arith, h))

none_seen : (n a : ℕ) → one_if_seen (replicate n false) a ≡ 0
none_seen zero a = refl
none_seen (suc n) zero = refl
none_seen (suc n) (suc a) = none_seen n a

set_new : (seen : List Bool) (q : ℕ) → is_new seen q ≡ true → (a : ℕ) → one_if_seen (slice_set seen q true) a ≡ one_if_seen seen a + one_if_same a q
set_new [] q new a = absurd cc
set_new (true ∷ ss) zero new a = absurd cc
set_new (false ∷ ss) zero new zero = refl
set_new (false ∷ ss) zero new (suc a) = omega arith
set_new (s ∷ ss) (suc q) new zero = omega arith
set_new (s ∷ ss) (suc q) new (suc a) = set_new ss q new a

set_old : (seen : List Bool) (q : ℕ) → is_new seen q ≡ false → slice_set seen q true ≡ seen
set_old [] q old = refl
set_old (true ∷ ss) zero old = refl
set_old (false ∷ ss) zero old = absurd cc
set_old (s ∷ ss) (suc q) old = ap (λ (l : List Bool). s ∷ l) (set_old ss q old)

old_is_seen : (seen : List Bool) (q : ℕ) → is_new seen q ≡ false → q < length seen → one_if_seen seen q ≡ 1
old_is_seen [] q old lt = absurd (omega (arith, lt))
old_is_seen (true ∷ ss) zero old lt = refl
old_is_seen (false ∷ ss) zero old lt = absurd cc
old_is_seen (s ∷ ss) (suc q) old lt = old_is_seen ss q old (omega (arith, lt))

pub set_here : (seen : List Bool) (q : ℕ) → q < length seen → one_if_seen (slice_set seen q true) q ≡ 1
set_here [] q lt = absurd (omega (arith, lt))
set_here (s ∷ ss) zero lt = refl
set_here (s ∷ ss) (suc q) lt = set_here ss q (omega (arith, lt))

pub set_keeps : (seen : List Bool) (q : ℕ) → KeepsSeen seen (slice_set seen q true)
set_keeps [] q a h = h
set_keeps (s ∷ ss) zero zero h = refl
set_keeps (s ∷ ss) zero (suc a) h = h
set_keeps (s ∷ ss) (suc q) zero h = h
set_keeps (s ∷ ss) (suc q) (suc a) h = set_keeps ss q a h

pub not_new : (seen : List Bool) (a : ℕ) → length seen ≤ a → false ≡ is_new seen a
not_new [] a h = refl
not_new (s ∷ ss) zero h = absurd (omega (arith, h))
not_new (s ∷ ss) (suc a) h = not_new ss a (omega (arith, h))

pub new_at : (seen : List Bool) (a : ℕ) (s : Bool) → a < length seen → s ≡ slice_index_or seen a s → not s ≡ is_new seen a
new_at [] a s lt at = absurd (omega (arith, lt))
new_at (x ∷ ss) zero s lt at = ap (λ (b : Bool). not b) at
new_at (x ∷ ss) (suc a) s lt at = new_at ss a s (omega (arith, lt)) at

-- ---- paths

leads_then : (g : Graph) (a b c : ℕ) → Leads g a b → Contains (successors_of g b) c → Leads g a c
leads_then g _ _ c (edge a b at) last = edges a b c at (edge b c last)
leads_then g _ _ c (edges a m b at rest) last = edges a m c at (leads_then g m b c rest last)

-- what stands on a path leads to what comes next
on_leads : (g : Graph) (order : List ℕ) (path : List Step) (next : ℕ) → IsPath g order (Some next) path
    → (a : ℕ) → 0 < times_on a path → Leads g a next
on_leads g order [] next h a on = absurd (omega (arith, on))
on_leads g order (s ∷ path) next h a on = elim (differ a s.place) [
  | inl same ↦ subst (λ (p : ℕ). Leads g p next) (sym same) (edge s.place next h.1)
  | inr off ↦ let none = one_other a s.place off in
      leads_then g a s.place next (on_leads g order path s.place h.2 a (omega (arith, on, none))) h.1
]

path_longer : (g : Graph) (order : List ℕ) (p : ℕ) (next : Option ℕ) (path : List Step) → IsPath g order next path
    → IsPath g (order ++ p ∷ []) next path
path_longer g order p next [] h = tt
path_longer g order p next (s ∷ path) h = (
  λ k b lt len is bn. elim (h.0 k b lt len is bn) [
    | inl known ↦ elim known [ inl at ↦ inl (inl (contains_front order p b at)) | inr back ↦ inl (inr back) ]
    | inr on ↦ inr on
  ],
  h.1,
  path_longer g order p (Some s.place) path h.2,
)

-- the next of a path was listed
path_listed : (g : Graph) (order : List ℕ) (p : ℕ) (path : List Step) → IsPath g order (Some p) path
    → IsPath g (order ++ p ∷ []) None path
path_listed g order p [] h = tt
path_listed g order p (s ∷ path) h = (
  λ k b lt len is bn. elim (h.0 k b lt len is bn) [
    | inl known ↦ elim known [ inl at ↦ inl (inl (contains_front order p b at)) | inr back ↦ inl (inr back) ]
    | inr on ↦ let same : p ≡ b = cc in
        inl (inl (subst (λ (x : ℕ). Contains (order ++ p ∷ []) x) same (contains_last order p)))
  ],
  tt,
  path_longer g order p (Some s.place) path h.2,
)

behind_push : (g : Graph) (before order : List ℕ) (p : ℕ) → ComeAfterSuccessors g before order → ComesAfterItsSuccessors g (before ++ order) p
    → ComeAfterSuccessors g before (order ++ p ∷ [])
behind_push g before [] p h here = (subst (λ (xs : List ℕ). ComesAfterItsSuccessors g xs p) (append-nil before) here, tt)
behind_push g before (x ∷ order) p h here = (
  h.0,
  behind_push g (before ++ x ∷ []) order p h.1
      (subst (λ (xs : List ℕ). ComesAfterItsSuccessors g xs p) (sym (append_assoc before (x ∷ []) order)) here),
)

-- ---- steps

module _ (g : Graph) where
  finished : (s : Step) (path : List Step) (seen : List Bool) (order : List ℕ) → IsWalk g (s ∷ path) seen order
      → length (successors_of g s.place) ≤ s.followed → IsWalk g path seen (order ++ s.place ∷ [])
  finished s path seen order w all = record {
    len = w.len;
    counts = λ a. let more = times_push a order s.place in let old = w.counts a in omega (arith, more, old);
    chain = path_listed g order s.place path w.chain.2;
    behind = behind_push g [] order s.place w.behind
        (λ b at bn. elim (w.chain.0 at.0 b (omega (arith, all, at.1)) at.1 at.2 bn) [
          | inl known ↦ known
          | inr on ↦ absurd cc
        ]);
  }

  followed_new : (s : Step) (path : List Step) (seen : List Bool) (order : List ℕ) (q : ℕ) → IsWalk g (s ∷ path) seen order
      → s.followed < length (successors_of g s.place) → slice_index_or (successors_of g s.place) s.followed q ≡ q → is_new seen q ≡ true
      → IsWalk g (record { place = q; followed = 0 } ∷ record { place = s.place; followed = s.followed + 1 } ∷ path) (slice_set seen q true) order
  followed_new s path seen order q w lt is new = record {
    len = length-set seen q true ∙ w.len;
    counts = λ a. let old = w.counts a in let set = set_new seen q new a in omega (arith, old, set);
    chain = (
      λ k b low len at bn. absurd (omega (arith, low)),
      tt,
      (
        (λ k b low len at bn. elim (differ k s.followed) [
          | inl same ↦ inr (ap Some (same_at (successors_of g s.place) s.followed q b lt is (subst (λ (j : ℕ). slice_index_or (successors_of g s.place) j b ≡ b) same at)))
          | inr off ↦ elim (w.chain.0 k b (omega (arith, low, off)) len at bn) [ inl known ↦ inl known | inr on ↦ absurd cc ]
        ]),
        (s.followed, lt, is),
        w.chain.2,
      ),
    );
    behind = w.behind;
  }

  followed_old : (s : Step) (path : List Step) (seen : List Bool) (order : List ℕ) (q : ℕ) → IsWalk g (s ∷ path) seen order
      → s.followed < length (successors_of g s.place) → slice_index_or (successors_of g s.place) s.followed q ≡ q → is_new seen q ≡ false
      → IsWalk g (record { place = s.place; followed = s.followed + 1 } ∷ path) seen order
  followed_old s path seen order q w lt is old = record {
    len = w.len;
    counts = w.counts;
    chain = (
      (λ k b low len at bn. elim (differ k s.followed) [
        | inl same ↦
            let one : q ≡ b = same_at (successors_of g s.place) s.followed q b lt is (subst (λ (j : ℕ). slice_index_or (successors_of g s.place) j b ≡ b) same at) in
            inl (subst (λ (x : ℕ). Contains order x ⊎ Leads g x s.place) one (known (subst (λ (x : ℕ). x < length g) (sym one) bn)))
        | inr off ↦ elim (w.chain.0 k b (omega (arith, low, off)) len at bn) [ inl known ↦ inl known | inr on ↦ absurd cc ]
      ]),
      tt,
      w.chain.2,
    );
    behind = w.behind;
  } where
    step_leads : one_if_same q s.place ≡ 0 ⊎ (q ≡ s.place)
    step_leads = elim (differ q s.place) [ inl same ↦ inr same | inr off ↦ inl (one_other q s.place off) ]

    known : q < length g → Contains order q ⊎ Leads g q s.place
    known qn =
        let seen_one = old_is_seen seen q old (omega (arith, qn, w.len)) in
        let counted = w.counts q in
        elim (differ (times q order) 0) [
          | inl none ↦ elim step_leads [
            | inl other ↦ inr (on_leads g order path s.place w.chain.2 q (omega (arith, counted, seen_one, none, other)))
            | inr same ↦ inr (subst (λ (x : ℕ). Leads g x s.place) (sym same) (edge s.place s.place
                (subst (λ (x : ℕ). Contains (successors_of g s.place) x) same (s.followed, lt, is))))
          ]
          | inr some ↦ inl (stands q order (omega (arith, some)))
        ]

  -- ---- what is left to do

  seen_effort_set : (vs : Graph) (seen : List Bool) (q : ℕ) → length seen ≡ length vs → is_new seen q ≡ true
      → unseen_effort vs (slice_set seen q true) + suc (length (successors_of vs q)) ≡ unseen_effort vs seen
  seen_effort_set vs [] q len new = absurd cc
  seen_effort_set [] (s ∷ ss) q len new = absurd (omega (arith, len))
  seen_effort_set (v ∷ vs) (true ∷ ss) zero len new = absurd cc
  seen_effort_set (v ∷ vs) (false ∷ ss) zero len new = omega arith
  seen_effort_set (v ∷ vs) (s ∷ ss) (suc q) len new = let rest = seen_effort_set vs ss q (omega (arith, len)) new in omega (arith, rest)

  -- ---- steps of the code

  pub finish_on : (s : Step) (path : List Step) (seen : List Bool) (order : List ℕ) → length (successors_of g s.place) ≤ s.followed
      → WalksOn g (s ∷ path) path seen seen order (order ++ s.place ∷ [])
  finish_on s path seen order all = record {
    walks = λ w. finished s path seen order w all;
    keeps = λ a h. h;
    less = λ len. omega arith;
    len = refl;
  }

  pub follow_on : (s : Step) (path : List Step) (seen : List Bool) (order : List ℕ) (q : ℕ)
      → s.followed < length (successors_of g s.place) → slice_index_or (successors_of g s.place) s.followed q ≡ q
      → (new : Bool) → is_new seen q ≡ new
      → WalksOn g (s ∷ path) (entered seen q (record { place = s.place; followed = s.followed + 1 } ∷ path)) seen (slice_set seen q true) order order
  follow_on s path seen order q lt is true new = record {
    walks = λ w. rw new (followed_new s path seen order q w lt is new);
    keeps = set_keeps seen q;
    less = λ len. rw new (let left = seen_effort_set g seen q len new in omega (arith, left, lt));
    len = length-set seen q true;
  }
  follow_on s path seen order q lt is false old = record {
    walks = λ w. rw (old, set_old seen q old) (followed_old s path seen order q w lt is old);
    keeps = set_keeps seen q;
    less = λ len. rw (old, set_old seen q old) (omega (arith, lt));
    len = length-set seen q true;
  }

  -- ---- a walk begins and ends

  pub begins : (seen : List Bool) (order : List ℕ) (root : ℕ) → IsWalk g [] seen order → (new : Bool) → is_new seen root ≡ new
      → IsWalk g (entered seen root []) (slice_set seen root true) order
  begins seen order root w true new = rw new (record {
    len = length-set seen root true ∙ w.len;
    counts = λ a. let old = w.counts a in let set = set_new seen root new a in omega (arith, old, set);
    chain = ((λ k b low len at bn. absurd (omega (arith, low))), tt, tt);
    behind = w.behind;
  })
  begins seen order root w false old = rw (old, set_old seen root old) w

  pub nothing_walked : IsWalk g [] (replicate (length g) false) []
  nothing_walked = record { len = length-replicate (length g) false; counts = λ a. sym (none_seen (length g) a); chain = tt; behind = tt }

  pub nothing_from : (n : ℕ) (seen : List Bool) (order : List ℕ) → n ≡ length g → seen ≡ replicate n false → order ≡ [] → IsWalk g [] seen order
  nothing_from n seen order same marks empty = subst (λ (xs : List ℕ). IsWalk g [] seen xs) (sym empty)
      (subst (λ (ss : List Bool). IsWalk g [] ss []) (sym (marks ∙ ap (λ (k : ℕ). replicate k false) same)) nothing_walked)

  pub all_walked : (seen : List Bool) (order : List ℕ) → IsWalk g [] seen order → ((a : ℕ) → a < length g → one_if_seen seen a ≡ 1)
      → IsSuccessorsFirst g order
  all_walked seen order w all = record {
    once = λ a lt. let counted = w.counts a in let one = all a lt in omega (arith, counted, one);
    inside = λ a le. let counted = w.counts a in let none = seen_past seen a (omega (arith, le, w.len)) in omega (arith, counted, none);
    behind = w.behind;
  }

  pub finish_as : (s : Step) (path : List Step) (seen : List Bool) (order order' : List ℕ) (ends : List ℕ) → ends ≡ successors_of g s.place
      → length ends ≤ s.followed → order' ≡ order ++ s.place ∷ [] → WalksOn g (s ∷ path) path seen seen order order'
  finish_as s path seen order order' ends is all more =
      rw more (finish_on s path seen order (subst (λ (l : List ℕ). length l ≤ s.followed) is all))

  pub follow_as : (s : Step) (path : List Step) (seen : List Bool) (order : List ℕ) (q : ℕ) (ends : List ℕ) → ends ≡ successors_of g s.place
      → s.followed < length ends → slice_index_or ends s.followed q ≡ q → (on path' : List Step) (seen' : List Bool)
      → on ≡ record { place = s.place; followed = s.followed + 1 } ∷ path → path' ≡ entered seen q on → seen' ≡ slice_set seen q true
      → WalksOn g (s ∷ path) path' seen seen' order order
  follow_as s path seen order q ends is lt at on path' seen' here there marks =
      rw (there, marks, here) (follow_on s path seen order q (subst (λ (l : List ℕ). s.followed < length l) is lt)
      (subst (λ (l : List ℕ). slice_index_or l s.followed q ≡ q) is at) (is_new seen q) refl)

  pub record FromRoot (root : ℕ) (first : List Bool) (path : List Step) (seen : List Bool) (order : List ℕ) : Type 0 where
    pub walks : IsWalk g path seen order
    pub keeps : KeepsSeen first seen
    pub reached : one_if_seen seen root ≡ 1

  pub from_root : (root : ℕ) (seen seen' : List Bool) (order : List ℕ) (none path : List Step) → root < length g → IsWalk g [] seen order → none ≡ []
      → path ≡ entered seen root none → seen' ≡ slice_set seen root true → FromRoot root seen path seen' order
  from_root root seen seen' order none path lt w empty on marks = rw (on, marks, empty) (record {
    walks = begins seen order root w (is_new seen root) refl;
    keeps = set_keeps seen root;
    reached = set_here seen root (omega (arith, lt, w.len));
  })

  pub step_on : (root : ℕ) (first : List Bool) (path popped path' : List Step) (s : Step) (seen seen' : List Bool) (order order' : List ℕ) → path ≡ s ∷ popped
      → FromRoot root first path seen order → WalksOn g (s ∷ popped) path' seen seen' order order' → FromRoot root first path' seen' order'
  step_on root first path popped path' s seen seen' order order' is f on = record {
    walks = on.walks (subst (λ (l : List Step). IsWalk g l seen order) is f.walks);
    keeps = λ a h. on.keeps a (f.keeps a h);
    reached = on.keeps root f.reached;
  }

  pub step_less : (root : ℕ) (first : List Bool) (path popped path' : List Step) (s : Step) (seen seen' : List Bool) (order order' : List ℕ) → path ≡ s ∷ popped
      → FromRoot root first path seen order → WalksOn g (s ∷ popped) path' seen seen' order order' → effort g path' seen' < effort g path seen
  step_less root first path popped path' s seen seen' order order' is f on = rw is (on.less f.walks.len)

pub seen_next : (old new : List Bool) (root : ℕ) → KeepsSeen old new → one_if_seen new root ≡ 1 → ((a : ℕ) → a < root → one_if_seen old a ≡ 1)
    → (a : ℕ) → a < root + 1 → one_if_seen new a ≡ 1
seen_next old new root keeps here before a lt = elim (differ a root) [
  | inl same ↦ subst (λ (x : ℕ). one_if_seen new x ≡ 1) (sym same) here
  | inr off ↦ keeps a (before a (omega (arith, lt, off)))
]
