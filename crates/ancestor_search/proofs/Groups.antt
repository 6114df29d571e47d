-- Steps of a search by groups of numbers.
use Rattle.std.proofs.Common.{◌≡◌, ℕ, List, [], ◌∷◌, ◌++◌, sym, subst, inl, inr, ◌∙◌}
use Rattle.std.specs.Prelude.{Contains, ◌⊎◌, ◌↔◌}
use Rattle.std.proofs.lemmas.List.Elements.{Contains-append_left, Contains-push, Contains-push_cases}
use Rattle.ancestor_search.specs.inner.Walking.{Edges, Way, LeadsTo, Group, IsMember, IsGroup, IsPath, with_edge}
use Rattle.ancestor_search.specs.Deciding.{Contains-here, Contains-cases, Contains-none}

-- a way goes on
pub Way-more : (e : Edges) (b : ℕ) (cs : List ℕ) (u x : ℕ) → Way e b cs u → Contains (e u) x → Way e b (cs ++ u ∷ []) x
Way-more e b [] u x h edge = (h, edge)
Way-more e b (c ∷ cs) u x h edge = (h.0, Way-more e c cs u x h.1 edge)

pub LeadsTo-more : (e : Edges) (b u x : ℕ) → LeadsTo e u b → Contains (e u) x → LeadsTo e x b
LeadsTo-more e b u x h edge = (h.0 ++ u ∷ [], Way-more e b h.0 u x h.1 edge)

pub record Unites (upper lower all : Group) : Type 0 where
  pub members : (x : ℕ) → Contains all.members x ↔ (Contains upper.members x ⊎ Contains lower.members x)
  pub pending : (x : ℕ) → Contains all.pending x ↔ (Contains upper.pending x ⊎ Contains lower.pending x)

-- x comes after an edge from b
pub first_edge : (p : Edges) (b c x : ℕ) → Contains (p b) c → (c ≡ x) ⊎ LeadsTo p x c → LeadsTo p x b
first_edge p b c x edge (inl e) = ([], subst (λ z. Contains (p b) z) e edge)
first_edge p b c x edge (inr above) = (c ∷ above.0, (edge, above.1))

-- x leads over u to y
last_edge : (p : Edges) (x u y : ℕ) → (x ≡ u) ⊎ LeadsTo p u x → Contains (p u) y → LeadsTo p y x
last_edge p x u y (inl e) edge = ([], subst (λ z. Contains (p z) y) (sym e) edge)
last_edge p x u y (inr above) edge = LeadsTo-more p x u y above edge

then_leads : (p : Edges) (x y z : ℕ) → LeadsTo p y x → (y ≡ z) ⊎ LeadsTo p z y → LeadsTo p z x
then_leads p x y z above (inl e) = subst (λ w. LeadsTo p w x) e above
then_leads p x y z above (inr more) = onto x above.0 above.1
  where
    onto : (b : ℕ) (cs : List ℕ) → Way p b cs y → LeadsTo p z b
    onto b [] h = (y ∷ more.0, (h, more.1))
    onto b (c ∷ cs) h = let rest = onto c cs h.1 in (c ∷ rest.0, (h.0, rest.1))

module _ (p : Edges) where
  -- more may be beyond, where it is in no group
  pub IsPath-more : (A B : ℕ → Type 0) (gs : List Group) → ((x : ℕ) → A x → B x) → ((x : ℕ) → IsMember gs x → B x → A x) → IsPath p A gs → IsPath p B gs
  IsPath-more A B [] up down h = h
  IsPath-more A B (g ∷ gs) up down h = (
    record {
      settled = λ x y there edge. elim (h.0.settled x y there edge) [
        | inl near ↦ elim near [ inl a ↦ inl (inl (up y a)) | inr m ↦ inl (inr m) ]
        | inr wait ↦ inr wait
      ];
      edges = h.0.edges;
      joined = h.0.joined;
      leads = h.0.leads;
      apart = λ x there b. h.0.apart x there (down x (inl there) b);
    },
    IsPath-more (λ x. A x ⊎ Contains g.members x) (λ x. B x ⊎ Contains g.members x) gs
        (λ x a. elim a [ inl t ↦ inl (up x t) | inr m ↦ inr m ])
        (λ x there b. elim b [ inl t ↦ inl (down x (inr there) t) | inr m ↦ inr m ])
        h.1,
  )

  module _ (A : ℕ → Type 0) (g : Group) (y : ℕ) (gs : List Group) where
    -- all of the path leads to where an edge of the last group leads
    pub leads_on : IsGroup p A (with_edge g y) gs → (x : ℕ) → IsMember (g ∷ gs) x → LeadsTo p y x
    leads_on h x (inl there) =
        let from = h.edges y (Contains-push g.pending y) in
        last_edge p x from.0 y (h.joined x from.0 there from.1) from.2
    leads_on h x (inr before) =
        let from = h.edges y (Contains-push g.pending y) in
        last_edge p x from.0 y (inr (h.leads x from.0 before from.1)) from.2

    -- an edge that was looked at, and leads to what is beyond or in the group
    pub looked_at : (B : ℕ → Type 0) → ((x : ℕ) → A x → B x) → ((x : ℕ) → Contains g.members x → B x → A x) → B y ⊎ Contains g.members y → IsGroup p A (with_edge g y) gs → IsGroup p B g gs
    looked_at B up down here h = record {
      settled = λ x z there edge. elim (h.settled x z there edge) [
        | inl near ↦ elim near [ inl a ↦ inl (inl (up z a)) | inr m ↦ inl (inr m) ]
        | inr wait ↦ elim (Contains-push_cases g.pending y z wait) [
          | inl w ↦ inr w
          | inr same ↦ inl (subst (λ w. B w ⊎ Contains g.members w) same here)
        ]
      ];
      edges = λ z wait. h.edges z (Contains-append_left g.pending (y ∷ []) z wait);
      joined = h.joined;
      leads = h.leads;
      apart = λ x there b. h.apart x there (down x there b);
    }

    pub skipped : A y ⊎ Contains g.members y → IsPath p A (with_edge g y ∷ gs) → IsPath p A (g ∷ gs)
    skipped here h = (looked_at A (λ x a. a) (λ x there a. a) here h.0, h.1)

    -- an edge to what was not seen yet begins a new group
    pub entered : (A y → ⊥) → (IsMember (g ∷ gs) y → ⊥) → (c : Group) → c.members ≡ y ∷ [] → c.pending ≡ p y → IsPath p A (with_edge g y ∷ gs) → IsPath p A (c ∷ g ∷ gs)
    entered not_beyond not_member c alone all h = (
      record {
        settled = λ x z there edge. inr (subst (λ w. Contains w z) (sym all) (subst (λ w. Contains (p w) z) (only x there) edge));
        edges = λ z wait. (y, rw alone (Contains-here y []), subst (λ w. Contains w z) all wait);
        joined = λ x z there there'. inl (sym (only_back x there) ∙ only_back z there');
        leads = λ x z before there. subst (λ w. LeadsTo p w x) (only_back z there) (leads_on h.0 x before);
        apart = λ x there a. not_beyond (subst A (only x there) a);
      },
      (
        looked_at B (λ x a. inl a) (λ x there b. from_b x (inl there) b) (inl (inr (rw alone (Contains-here y [])))) h.0,
        IsPath-more (λ x. A x ⊎ Contains g.members x) (λ x. B x ⊎ Contains g.members x) gs
            (λ x a. elim a [ inl t ↦ inl (inl t) | inr m ↦ inr m ])
            (λ x there b. elim b [ inl t ↦ inl (from_b x (inr there) t) | inr m ↦ inr m ])
            h.1,
      ),
    )
      where
        B : ℕ → Type 0
        B x = A x ⊎ Contains c.members x

        only_back : (x : ℕ) → Contains c.members x → y ≡ x
        only_back x there = elim (Contains-cases y [] x (subst (λ w. Contains w x) alone there)) [ inl same ↦ same | inr t ↦ Contains-none x t ]

        only : (x : ℕ) → Contains c.members x → x ≡ y
        only x there = sym (only_back x there)

        from_b : (x : ℕ) → IsMember (g ∷ gs) x → B x → A x
        from_b x there (inl a) = a
        from_b x there (inr m) = absurd (not_member (subst (λ w. IsMember (g ∷ gs) w) (only x m) there))

    -- an edge back to an earlier group makes one group of the last two
    pub merged : (h2 : Group) (all : Group) → Unites g h2 all → IsMember (h2 ∷ gs) y → IsPath p A (with_edge g y ∷ h2 ∷ gs) → IsPath p A (with_edge all y ∷ gs)
    merged h2 all u back h = (
      record {
        settled = settled;
        edges = edges;
        joined = joined;
        leads = leads;
        apart = λ x there a. elim ((u.members x).0 there) [ inl m ↦ h.0.apart x m a | inr m ↦ h.1.0.apart x m (inl a) ];
      },
      IsPath-more (λ x. (A x ⊎ Contains g.members x) ⊎ Contains h2.members x) (λ x. A x ⊎ Contains all.members x) gs
          (λ x b. elim b [ inl t ↦ elim t [ inl a ↦ inl a | inr m ↦ inr ((u.members x).1 (inl m)) ] | inr m ↦ inr ((u.members x).1 (inr m)) ])
          (λ x there b. elim b [ inl a ↦ inl (inl a) | inr m ↦ elim ((u.members x).0 m) [ inl t ↦ inl (inr t) | inr t ↦ inr t ] ])
          h.1.1,
    )
      where
        over : (x : ℕ) → Contains g.members x → LeadsTo p y x
        over x m =
            let from = h.0.edges y (Contains-push g.pending y) in
            last_edge p x from.0 y (h.0.joined x from.0 m from.1) from.2

        from_y : (z : ℕ) → Contains h2.members z → IsMember (h2 ∷ gs) y → (y ≡ z) ⊎ LeadsTo p z y
        from_y z m (inl t) = h.1.0.joined y z t m
        from_y z m (inr t) = inr (h.1.0.leads y z t m)

        settled : (x z : ℕ) → Contains all.members x → Contains (p x) z → (A z ⊎ Contains all.members z) ⊎ Contains (all.pending ++ y ∷ []) z
        settled x z there edge = elim ((u.members x).0 there) [
          | inl m ↦ elim (h.0.settled x z m edge) [
            | inl near ↦ elim near [ inl a ↦ inl (inl a) | inr t ↦ inl (inr ((u.members z).1 (inl t))) ]
            | inr wait ↦ elim (Contains-push_cases g.pending y z wait) [
              | inl w ↦ inr (Contains-append_left all.pending (y ∷ []) z ((u.pending z).1 (inl w)))
              | inr same ↦ inr (subst (λ w. Contains (all.pending ++ y ∷ []) w) same (Contains-push all.pending y))
            ]
          ]
          | inr m ↦ elim (h.1.0.settled x z m edge) [
            | inl near ↦ elim near [
              | inl b ↦ elim b [ inl a ↦ inl (inl a) | inr t ↦ inl (inr ((u.members z).1 (inl t))) ]
              | inr t ↦ inl (inr ((u.members z).1 (inr t)))
            ]
            | inr w ↦ inr (Contains-append_left all.pending (y ∷ []) z ((u.pending z).1 (inr w)))
          ]
        ]

        edges : (z : ℕ) → Contains (all.pending ++ y ∷ []) z → (x : ℕ) × Contains all.members x × Contains (p x) z
        edges z wait = elim (Contains-push_cases all.pending y z wait) [
          | inl w ↦ elim ((u.pending z).0 w) [
            | inl t ↦ let from = h.0.edges z (Contains-append_left g.pending (y ∷ []) z t) in (from.0, (u.members from.0).1 (inl from.1), from.2)
            | inr t ↦ let from = h.1.0.edges z t in (from.0, (u.members from.0).1 (inr from.1), from.2)
          ]
          | inr same ↦ let from = h.0.edges y (Contains-push g.pending y) in (from.0, (u.members from.0).1 (inl from.1), subst (λ w. Contains (p from.0) w) same from.2)
        ]

        joined : (x z : ℕ) → Contains all.members x → Contains all.members z → (x ≡ z) ⊎ LeadsTo p z x
        joined x z there there' = elim ((u.members x).0 there) [
          | inl m ↦ elim ((u.members z).0 there') [
            | inl n ↦ h.0.joined x z m n
            | inr n ↦ inr (then_leads p x y z (over x m) (from_y z n back))
          ]
          | inr m ↦ elim ((u.members z).0 there') [
            | inl n ↦ inr (h.0.leads x z (inl m) n)
            | inr n ↦ h.1.0.joined x z m n
          ]
        ]

        leads : (x z : ℕ) → IsMember gs x → Contains all.members z → LeadsTo p z x
        leads x z before there = elim ((u.members z).0 there) [ inl n ↦ h.0.leads x z (inr before) n | inr n ↦ h.1.0.leads x z before n ]
