-- Steps of a search by groups of numbers, over plain lists.
use Rattle.std.proofs.Common.{◌≡◌, ℕ, ◌+◌, ◌-◌, ◌<◌, ◌≤◌, ◌^◌, Bool, false, List, [], ◌∷◌, ◌++◌, length, take, drop, refl, ap, sym, subst, inl, inr, ◌∙◌, arith, length-append, slice_set}
use Rattle.std.specs.Prelude.{Contains, ◌⊎◌, ◌↔◌, IsTrue, slice_index_or}
use Rattle.std.proofs.lemmas.List.{get_or_append_left, append_assoc, append-nil}
use Rattle.std.proofs.Math.Seq.{get_or-append_right, take-append_seam, drop-append_seam}
use Rattle.std.proofs.lemmas.List.Elements.{Contains-append_left, Contains-append_right, Contains-append_cases}
use Rattle.ancestor_search.specs.declared.walk.Bound.{Bound}
use Rattle.ancestor_search.specs.inner.Walking.{Edges, Way, LeadsTo, Group, members_of, pending_of, bounds_of, bound_at, bound_after, IsMember, IsGroup, IsPath, with_edge, mark_of, done_mark, IsDone, IsAccounted, IsFinished, IsWalk, IsWalking, HasRemovedEdge, IsWalkingWithRemovedEdge, JoinsDownTo, IsSeen, HasOpen, FindsOpen, Ends}
use Rattle.ancestor_search.specs.Deciding.{Contains-here, Contains-cases, Contains-none}
use Rattle.ancestor_search.proofs.Groups.{Unites, first_edge, IsPath-more, skipped, entered, merged}
use Rattle.ancestor_search.proofs.Marks.{below, last_same, last_of, not_empty, done-up, done-down, IsAccounted-enter}

pub member_in : (gs : List Group) (x : ℕ) → Contains (members_of gs) x → IsMember gs x
member_in [] x h = Contains-none x h
member_in (g ∷ gs) x h = elim (Contains-append_cases (members_of gs) g.members x h) [ inl t ↦ inr (member_in gs x t) | inr t ↦ inl t ]

pub in_members : (gs : List Group) (x : ℕ) → IsMember gs x → Contains (members_of gs) x
in_members [] x h = absurd h
in_members (g ∷ gs) x (inl t) = Contains-append_right (members_of gs) g.members x t
in_members (g ∷ gs) x (inr t) = Contains-append_left (members_of gs) g.members x (in_members gs x t)

-- a place among the members of the last group, or before
pub placed_left : (fs bs : List ℕ) (k x : ℕ) → k < length fs → slice_index_or (fs ++ bs) k x ≡ x → Contains fs x
placed_left fs bs k x lt e = (k, lt, sym (get_or_append_left fs bs x k lt) ∙ e)

pub placed_right : (fs bs : List ℕ) (k x : ℕ) → length fs ≤ k → k < length (fs ++ bs) → slice_index_or (fs ++ bs) k x ≡ x → Contains bs x
placed_right fs bs k x le lt e =
    let a : length (fs ++ bs) ≡ length fs + length bs = length-append fs bs in
    (k - length fs, omega (arith, a, le, lt), sym (get_or-append_right fs bs k x le) ∙ e)

none_left : (gs : List Group) → bounds_of gs ≡ [] → members_of gs ≡ []
none_left [] e = refl
none_left (g ∷ gs) e = absurd (not_empty (bounds_of gs) (bound_after gs) e)

-- two groups, the members and edges of the lower one first
abbrev both : Group → Group → Group
both h g = record { members = h.members ++ g.members; pending = h.pending ++ g.pending }

unites : (h g : Group) → Unites g h (both h g)
unites h g = record {
  members = λ x. (λ t. elim (Contains-append_cases h.members g.members x t) [ inl u ↦ inr u | inr u ↦ inl u ], λ t. elim t [ inl u ↦ Contains-append_right h.members g.members x u | inr u ↦ Contains-append_left h.members g.members x u ]);
  pending = λ x. (λ t. elim (Contains-append_cases h.pending g.pending x t) [ inl u ↦ inr u | inr u ↦ inl u ], λ t. elim t [ inl u ↦ Contains-append_right h.pending g.pending x u | inr u ↦ Contains-append_left h.pending g.pending x u ]);
}

module _ (e : Edges) (place : List ℕ) (y : ℕ) (ms ps : List ℕ) where
  -- one group of the last two
  join : (g : Group) (gs : List Group) (at : ℕ) (bs' : List Bound) (b : Bound) → bounds_of gs ≡ bs' ++ b ∷ [] → 0 < at → at ≤ length (members_of gs) → slice_index_or ms (at - 1) y ≡ y → ms ≡ members_of (g ∷ gs) → ps ≡ pending_of (g ∷ gs) → IsPath e (IsDone place) (with_edge g y ∷ gs) → HasRemovedEdge e place y ms ps bs' b
  join g [] at bs' b eb pos le here em ep path = absurd (not_empty bs' b (sym eb))
  join g (h ∷ hs) at bs' b eb pos le here em ep path =
      let two = last_same (bounds_of hs) bs' (bound_after hs) b eb in
      let back : IsMember (h ∷ hs) y = member_in (h ∷ hs) y (placed_left (members_of (h ∷ hs)) g.members (at - 1) y (omega (arith, pos, le)) (subst (λ l. slice_index_or l (at - 1) y ≡ y) em here)) in
      (both h g, hs, sym two.0, sym two.1, em ∙ (append_assoc (members_of hs) h.members g.members), ep ∙ (append_assoc (pending_of hs) h.pending g.pending), merged e (IsDone place) g y hs h (both h g) (unites h g) back path)

  pub held-join : (at : ℕ) (bs bs' : List Bound) (last b : Bound) → bs ≡ bs' ++ b ∷ [] → 0 < at → at ≤ last.members → slice_index_or ms (at - 1) y ≡ y → HasRemovedEdge e place y ms ps bs last → HasRemovedEdge e place y ms ps bs' b
  held-join at bs bs' last b eb pos le here (g, gs, ebs, el, em, ep, path) =
      let l : last.members ≡ length (members_of gs) = ap (λ z. z.members) el in
      join g gs at bs' b (sym ebs ∙ eb) pos (omega (arith, l, le)) here em ep path

  -- y is in the last group, and the edge to it was looked at
  pub held-found : (found : List Bool) (at : ℕ) (bs bs1 : List Bound) (last : Bound) → bs1 ≡ bs ++ last ∷ [] → (bs ≡ []) ⊎ (last.members < at) → 0 < at → at ≤ length ms → slice_index_or ms (at - 1) y ≡ y → ((x : ℕ) → IsAccounted place ms x) → IsFinished e place found → HasRemovedEdge e place y ms ps bs last → IsWalking e place found ms ps bs1
  held-found found at bs bs1 last eb1 down pos le here stands finished (g, gs, ebs, el, em, ep, path) =
      let first : length (members_of gs) < at = elim down [
        | inl none ↦ let nil : length (members_of gs) ≡ 0 = ap length (none_left gs (sym ebs ∙ none)) in omega (arith, nil, pos)
        | inr lt ↦ let l : last.members ≡ length (members_of gs) = ap (λ z. z.members) el in omega (arith, l, lt)
      ] in
      let inside : Contains g.members y = placed_right (members_of gs) g.members (at - 1) y (omega (arith, first, pos)) (let l : length ms ≡ length (members_of gs ++ g.members) = ap length em in omega (arith, l, le, pos)) (subst (λ l. slice_index_or l (at - 1) y ≡ y) em here) in
      (g ∷ gs, eb1 ∙ ap (λ z. z ++ last ∷ []) ebs ∙ ap (λ z. bounds_of gs ++ z ∷ []) el, ep, record { groups = skipped e (IsDone place) g y gs (inr inside) path; stands = stands; same = em; finished = finished })

  -- an edge to what is done
  pub held-done : (found : List Bool) (bs bs1 : List Bound) (last : Bound) → bs1 ≡ bs ++ last ∷ [] → IsDone place y → ((x : ℕ) → IsAccounted place ms x) → IsFinished e place found → HasRemovedEdge e place y ms ps bs last → IsWalking e place found ms ps bs1
  held-done found bs bs1 last eb1 d stands finished (g, gs, ebs, el, em, ep, path) =
      (g ∷ gs, eb1 ∙ ap (λ z. z ++ last ∷ []) ebs ∙ ap (λ z. bounds_of gs ++ z ∷ []) el, ep, record { groups = skipped e (IsDone place) g y gs (inl d) path; stands = stands; same = em; finished = finished })

-- one number more is seen
module _ (e : Edges) (place : List ℕ) (found : List Bool) (ms : List ℕ) (y : ℕ) (new : mark_of place y ≡ 0) (small : length ms < 2 ^ 63) where
  abbrev pub place' : List ℕ
  place' = slice_set place y (length ms + 1)

  not-done : IsDone place' y → ⊥
  not-done d = let z : mark_of place y ≡ done_mark = done-down place ms y new small y d in omega (arith, z, new)

  no-member : ((x : ℕ) → IsAccounted place ms x) → Contains ms y → ⊥
  no-member stands h = elim (stands y) [
    | inl d ↦ omega (arith, d, new)
    | inr t ↦ elim t [ inl u ↦ u.1 h | inr u ↦ omega (arith, u.1, new) ]
  ]

  finished' : IsFinished e place found → IsFinished e place' found
  finished' f = record {
    closed = λ x z d edge. done-up place ms y new small z (f.closed x z (done-down place ms y new small x d) edge);
    empty = f.empty;
    right = λ x. (λ t. let h = (f.right x).0 t in (done-up place ms y new small x h.0, h.1), λ h. (f.right x).1 (done-down place ms y new small x h.0, h.1));
  }

  abbrev pub one : Group
  one = record { members = y ∷ []; pending = e y }

  pub enter-first : ms ≡ [] → ((x : ℕ) → IsAccounted place ms x) → IsFinished e place found → (ps : List ℕ) → ps ≡ [] → IsWalking e place' found (ms ++ y ∷ []) (ps ++ e y) (bound_at ms ps ∷ [])
  enter-first em stands f ps ep = (
    one ∷ [],
    ap (λ z. bound_at z ps ∷ []) em ∙ ap (λ z. bound_at [] z ∷ []) ep,
    ap (λ z. z ++ e y) ep,
    record {
      groups = (
        record {
          settled = λ x z there edge. inr (subst (λ w. Contains (e w) z) (sym (only x there)) edge);
          edges = λ z wait. (y, Contains-here y [], wait);
          joined = λ x z there there'. inl (sym (only x there) ∙ only z there');
          leads = λ x z before there. absurd before;
          apart = λ x there d. not-done (subst (λ w. IsDone place' w) (sym (only x there)) d);
        },
        tt,
      );
      stands = λ x. IsAccounted-enter place ms y new small x (stands x);
      same = ap (λ z. z ++ y ∷ []) em;
      finished = finished' f;
    },
  )
    where
      only : (x : ℕ) → Contains (y ∷ []) x → y ≡ x
      only x there = elim (Contains-cases y [] x there) [ inl same ↦ same | inr t ↦ Contains-none x t ]

  pub enter-next : (ps : List ℕ) (bs bs1 : List Bound) (last : Bound) → bs1 ≡ bs ++ last ∷ [] → ((x : ℕ) → IsAccounted place ms x) → IsFinished e place found → HasRemovedEdge e place y ms ps bs last → IsWalking e place' found (ms ++ y ∷ []) (ps ++ e y) (bs1 ++ bound_at ms ps ∷ [])
  enter-next ps bs bs1 last eb1 stands f (g, gs, ebs, el, em, ep, path) =
      let eb : bs1 ≡ bounds_of (g ∷ gs) = eb1 ∙ ap (λ z. z ++ last ∷ []) ebs ∙ ap (λ z. bounds_of gs ++ z ∷ []) el in
      let more : IsPath e (IsDone place') (with_edge g y ∷ gs) = IsPath-more e (IsDone place) (IsDone place') (with_edge g y ∷ gs) (λ x d. done-up place ms y new small x d) (λ x m d. done-down place ms y new small x d) path in (
        one ∷ g ∷ gs,
        ap (λ z. z ++ bound_at ms ps ∷ []) eb ∙ ap (λ z. bounds_of (g ∷ gs) ++ bound_at z ps ∷ []) em ∙ ap (λ z. bounds_of (g ∷ gs) ++ bound_at (members_of (g ∷ gs)) z ∷ []) ep,
        ap (λ z. z ++ e y) ep,
        record {
          groups = entered e (IsDone place') g y gs not-done (λ m. no-member stands (subst (λ z. Contains z y) (sym em) (in_members (g ∷ gs) y m))) one refl refl more;
          stands = λ x. IsAccounted-enter place ms y new small x (stands x);
          same = ap (λ z. z ++ y ∷ []) em;
          finished = finished' f;
        },
      )

-- the last edge of the last group is taken
pub taken : (e : Edges) (place : List ℕ) (found : List Bool) (ms ps ps' : List ℕ) (bs bs' : List Bound) (last : Bound) (y : ℕ) → bs ≡ bs' ++ last ∷ [] → ps ≡ ps' ++ y ∷ [] → last.pending ≤ length ps' → IsWalking e place found ms ps bs → IsWalkingWithRemovedEdge e place found ms ps' bs' last y
taken e place found ms ps ps' bs bs' last y eb ep le w = from w.0 (sym eb ∙ w.1) (sym ep ∙ w.2) w.3
  where
    from : (path : List Group) → bs' ++ last ∷ [] ≡ bounds_of path → ps' ++ y ∷ [] ≡ pending_of path → IsWalk e place found ms path → IsWalkingWithRemovedEdge e place found ms ps' bs' last y
    from [] hb hp wk = absurd (not_empty bs' last hb)
    from (g ∷ gs) hb hp wk =
        let two = last_same bs' (bounds_of gs) last (bound_after gs) hb in
        let l : last.pending ≡ length (pending_of gs) = ap (λ z. z.pending) two.1 in
        let parts = last_of ps' (pending_of gs) g.pending y hp (omega (arith, l, le)) in
        let g0 : Group = record { members = g.members; pending = drop (length (pending_of gs)) ps' } in
        record {
          held = (g0, gs, two.0, two.1, wk.same, parts.0, subst (λ z. IsPath e (IsDone place) (record { members = g.members; pending = z } ∷ gs)) parts.1 wk.groups);
          stands = wk.stands;
          finished = wk.finished;
        }

-- a last group with no edge left is done
module _ (e : Edges) (place place1 : List ℕ) (found found' : List Bool) (g : Group) (gs : List Group) (none : g.pending ≡ []) (f : FindsOpen e place g.members found found') (n : Ends g.members place place1) where
  up : (x : ℕ) → IsDone place x → IsDone place1 x
  up x d = elim (n.each x) [ inl h ↦ h.1 | inr h ↦ h.1 ∙ d ]

  ended : (x : ℕ) → Contains g.members x → IsDone place1 x
  ended x m = elim (n.each x) [ inl h ↦ h.1 | inr h ↦ absurd (h.0 m) ]

  down : (x : ℕ) → IsDone place1 x → IsDone place x ⊎ Contains g.members x
  down x d = elim (n.each x) [ inl h ↦ inr h.0 | inr h ↦ inl (sym h.1 ∙ d) ]

  leads_in : IsGroup e (IsDone place) g gs → (x y : ℕ) → Contains g.members x → Contains (e x) y → IsDone place y ⊎ Contains g.members y
  leads_in h x y there edge = elim (h.settled x y there edge) [ inl near ↦ near | inr wait ↦ Contains-none y (subst (λ w. Contains w y) none wait) ]

  stays : IsFinished e place found → (x : ℕ) → IsDone place x → (cs : List ℕ) (a : ℕ) → Way e x cs a → IsDone place a
  stays s x d [] a h = s.closed x a d h
  stays s x d (c ∷ cs) a h = stays s c (s.closed x c d h.0) cs a h.1

  has : IsFinished e place found → IsGroup e (IsDone place) g gs → (x : ℕ) → Contains g.members x → (cs : List ℕ) → Way e x cs x → HasOpen (e x) place
  has s h x there [] way = (x, way, λ d. h.apart x there d)
  has s h x there (c ∷ cs) way = (c, way.0, λ d. h.apart x there (stays s c d cs x way.1))

  inside : IsFinished e place found → (x y : ℕ) → Contains (e x) y → x < length found
  inside s x y edge = elim (below x (length found)) [ inl lt ↦ lt | inr le ↦ Contains-none y (subst (λ w. Contains w y) (s.empty x le) edge) ]

  closed_finished : IsFinished e place found → IsGroup e (IsDone place) g gs → IsFinished e place1 found'
  closed_finished s h = record {
    closed = λ x y d edge. elim (down x d) [
      | inl old ↦ up y (s.closed x y old edge)
      | inr m ↦ elim (leads_in h x y m edge) [ inl old ↦ up y old | inr t ↦ ended y t ]
    ];
    empty = λ x le. s.empty x (subst (λ k. k ≤ x) f.len le);
    right = λ x. (
      λ t. elim ((f.same x).0 t) [
        | inl old ↦ let both = (s.right x).0 old in (up x both.0, both.1)
        | inr new ↦
            let (lt, m, some) = new in
            let (y, edge, open_y) = some in
            (ended x m, elim (leads_in h x y m edge) [ inl d ↦ absurd (open_y d) | inr t ↦ first_edge e x y x edge (h.joined y x t m) ])
      ],
      λ both. (f.same x).1 (elim (down x both.0) [
        | inl d ↦ inl ((s.right x).1 (d, both.1))
        | inr m ↦ let one_of = has s h x m both.1.0 both.1.1 in inr (inside s x one_of.0 one_of.1, m, one_of)
      ]),
    );
  }

  closed_stands : (x : ℕ) → IsAccounted place (members_of gs ++ g.members) x → IsAccounted place1 (members_of gs) x
  closed_stands x s = elim (n.each x) [
    | inl h ↦ inl h.1
    | inr h ↦ elim s [
      | inl d ↦ inl (h.1 ∙ d)
      | inr t ↦ elim t [
        | inl u ↦ inr (inl (h.1 ∙ u.0, λ m. u.1 (Contains-append_left (members_of gs) g.members x m)))
        | inr u ↦ elim (below u.0 (length (members_of gs))) [
          | inl lt ↦ inr (inr (u.0, h.1 ∙ u.1, lt, sym (get_or_append_left (members_of gs) g.members x u.0 lt) ∙ u.3))
          | inr le ↦ absurd (h.0 (placed_right (members_of gs) g.members u.0 x le u.2 u.3))
        ]
      ]
    ]
  ]

  closed_walk : IsWalk e place found (members_of gs ++ g.members) (g ∷ gs) → IsWalk e place1 found' (members_of gs) gs
  closed_walk w = record {
    groups = IsPath-more e (λ x. IsDone place x ⊎ Contains g.members x) (IsDone place1) gs (λ x t. elim t [ inl d ↦ up x d | inr m ↦ ended x m ]) (λ x m d. down x d) w.groups.1;
    stands = λ x. closed_stands x (w.stands x);
    same = refl;
    finished = closed_finished w.finished w.groups.0;
  }

no_length : (xs : List ℕ) → length xs ≤ 0 → xs ≡ []
no_length [] h = refl
no_length (x ∷ xs) h = absurd (omega (arith, h))

pub closed : (e : Edges) (place place1 : List ℕ) (found found' : List Bool) (ms ps : List ℕ) (bs bs' : List Bound) (last : Bound) → bs ≡ bs' ++ last ∷ [] → length ps ≤ last.pending → IsWalking e place found ms ps bs → FindsOpen e place (drop last.members ms) found found' → Ends (drop last.members ms) place place1 → IsWalking e place1 found' (take last.members ms) ps bs'
closed e place place1 found found' ms ps bs bs' last eb le w f n = from w.0 (sym eb ∙ w.1) w.2 w.3
  where
    from : (path : List Group) → bs' ++ last ∷ [] ≡ bounds_of path → ps ≡ pending_of path → IsWalk e place found ms path → IsWalking e place1 found' (take last.members ms) ps bs'
    from [] hb hp wk = absurd (not_empty bs' last hb)
    from (g ∷ gs) hb hp wk =
        let two = last_same bs' (bounds_of gs) last (bound_after gs) hb in
        let lp : last.pending ≡ length (pending_of gs) = ap (λ z. z.pending) two.1 in
        let lm : last.members ≡ length (members_of gs) = ap (λ z. z.members) two.1 in
        let a : length (pending_of gs ++ g.pending) ≡ length (pending_of gs) + length g.pending = length-append (pending_of gs) g.pending in
        let b : length ps ≡ length (pending_of gs ++ g.pending) = ap length hp in
        let none : g.pending ≡ [] = no_length g.pending (omega (arith, a, b, lp, le)) in
        let front : take last.members ms ≡ members_of gs = ap (λ k. take k ms) lm ∙ ap (λ l. take (length (members_of gs)) l) wk.same ∙ take-append_seam (members_of gs) g.members in
        let back : drop last.members ms ≡ g.members = ap (λ k. drop k ms) lm ∙ ap (λ l. drop (length (members_of gs)) l) wk.same ∙ drop-append_seam (members_of gs) g.members in
        let done = closed_walk e place place1 found found' g gs none (subst (λ l. FindsOpen e place l found found') back f) (subst (λ l. Ends l place place1) back n) (subst (λ l. IsWalk e place found l (g ∷ gs)) wk.same wk) in
        (gs, two.0, hp ∙ ap (λ z. pending_of gs ++ z) none ∙ append-nil (pending_of gs), subst (λ l. IsWalk e place1 found' l gs) (sym front) done)

-- ---- a search with no group left
no_path : (path : List Group) → bounds_of path ≡ [] → path ≡ []
no_path [] h = refl
no_path (g ∷ gs) h = absurd (not_empty (bounds_of gs) (bound_after gs) h)

pub at-rest : (e : Edges) (place : List ℕ) (found : List Bool) (ms ps : List ℕ) (bs : List Bound) → bs ≡ [] → IsWalking e place found ms ps bs → (ms ≡ []) × (ps ≡ []) × ((x : ℕ) → IsAccounted place ms x) × IsFinished e place found
at-rest e place found ms ps bs none w =
    let nil = no_path w.0 (sym w.1 ∙ none) in (w.3.same ∙ ap members_of nil, w.2 ∙ ap pending_of nil, w.3.stands, w.3.finished)

pub all-done : (e : Edges) (place : List ℕ) (found : List Bool) (ms ps : List ℕ) (bs : List Bound) → bs ≡ [] → IsWalking e place found ms ps bs → ((x : ℕ) → IsSeen place x) → (x : ℕ) → IsTrue (slice_index_or found x false) ↔ LeadsTo e x x
all-done e place found ms ps bs none w seen x =
    let rest = at-rest e place found ms ps bs none w in
    let done : IsDone place x = elim (rest.2 x) [
      | inl d ↦ d
      | inr t ↦ elim t [ inl u ↦ absurd (seen x u.0) | inr u ↦ let z : length ms ≡ 0 = ap length rest.0 in absurd (omega (arith, z, u.2)) ]
    ] in
    let right = rest.3.right x in
    (λ t. (right.0 t).1, λ h. right.1 (done, h))

pub bound_fits : (e : Edges) (place : List ℕ) (found : List Bool) (ms ps : List ℕ) (bs bs' : List Bound) (last : Bound) → bs ≡ bs' ++ last ∷ [] → IsWalking e place found ms ps bs → last.members ≤ length ms
bound_fits e place found ms ps bs bs' last eb w = from w.0 (sym eb ∙ w.1) w.3
  where
    from : (path : List Group) → bs' ++ last ∷ [] ≡ bounds_of path → IsWalk e place found ms path → last.members ≤ length ms
    from [] hb wk = absurd (not_empty bs' last hb)
    from (g ∷ gs) hb wk =
        let two = last_same bs' (bounds_of gs) last (bound_after gs) hb in
        let lm : last.members ≡ length (members_of gs) = ap (λ z. z.members) two.1 in
        let a : length (members_of gs ++ g.members) ≡ length (members_of gs) + length g.members = length-append (members_of gs) g.members in
        let b : length ms ≡ length (members_of gs ++ g.members) = ap length wk.same in
        omega (arith, a, b, lm)

-- an edge to a member of some group
pub held-placed : (e : Edges) (place : List ℕ) (y at : ℕ) (ms ps : List ℕ) (found : List Bool) (bs bs' bs1 : List Bound) (last last' : Bound) → bs1 ≡ bs' ++ last' ∷ [] → JoinsDownTo at bs last bs' last' → (bs' ≡ []) ⊎ (last'.members < at) → at ≡ mark_of place y → (at ≡ 0 → ⊥) → (at ≡ done_mark → ⊥) → IsWalkingWithRemovedEdge e place found ms ps bs last y → IsWalking e place found ms ps bs1
held-placed e place y at ms ps found bs bs' bs1 last last' eb1 joins down is off0 off1 a = elim (a.stands y) [
  | inl d ↦ absurd (off1 (is ∙ d))
  | inr t ↦ elim t [
    | inl u ↦ absurd (off0 (is ∙ u.0))
    | inr u ↦
        let next : at ≡ u.0 + 1 = is ∙ u.1 in
        let k : u.0 ≡ at - 1 = omega (arith, next) in
        let here : slice_index_or ms (at - 1) y ≡ y = subst (λ z. slice_index_or ms z y ≡ y) k u.3 in
        let le : at ≤ length ms = omega (arith, next, u.2) in
        held-found e place y ms ps found at bs' bs1 last' eb1 down (omega (arith, next)) le here a.stands a.finished (joins e place y ms ps le here a.held)
  ]
]

pub seen_ended : (ms place place1 : List ℕ) → Ends ms place place1 → (x : ℕ) → IsSeen place x → IsSeen place1 x
seen_ended ms place place1 n x seen z = elim (n.each x) [ inl h ↦ omega (arith, h.1, z) | inr h ↦ seen (sym h.1 ∙ z) ]
