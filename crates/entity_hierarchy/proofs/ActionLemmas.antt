-- Edges by `memberOf` lead as far as edges to all that is above an action, and no cycle goes through an action.
use Rattle.std.proofs.Common.{◌≡◌, List, [], ◌∷◌, Option, Some, None, Bool, true, false, refl, ap, subst, inl, inr}
use Rattle.std.specs.Prelude.{Contains, IsSome, ◌⊎◌, ◌↔◌, option_map, if◌then◌else◌}
use Rattle.std.specs.Ordering.{is_eq}
use Rattle.values.specs.declared.entity_uid.EntityUid.{EntityUid}
use Rattle.values.specs.Names.{uid_cmp}
use Rattle.authoriser.specs.ancestor_search.Hierarchy.{Parents, Path, IsAncestor, IsOnCycle, no_parents, with_parents}
use Rattle.authoriser.specs.ancestor_search.Deciding.{Contains-here, Contains-there, Contains-none, same_uid}
use Rattle.authoriser.specs.ancestor_search.Deciding.{IsAncestor-joined}
use Rattle.entities.specs.schema_reading.Qualifying.{ResolvedAction, ResolvedSchema}
use Rattle.entities.specs.schema.Schemas.{StatedSchema, MatchesDeclarations, IsAction, action_parents}
use Rattle.entities.specs.schema.Schemas.{with_actions as with_action_parents}
use Rattle.entities.specs.schema.WellFormed.{IsWellFormed}
use Rattle.authoriser.specs.evaluator.Operators.{entities_with}
use Rattle.entities.specs.entity_data.Entities.{EntityMap, kept_parents, attributes_of, action_or, with_actions}
use Rattle.entities.specs.entity_data.Entities.{entity_data_in}
use Rattle.entity_hierarchy.specs.Laws.{by_member_of, stated_world, closed_world}
use Rattle.entity_hierarchy.specs.Alike.{LeadAlike, HaveSameCycles}
use Rattle.entity_hierarchy.proofs.PutLemmas.{cycles_alike}

-- ---- what has a parent by `memberOf` is a declared action

abbrev IsDeclaredAmong : List ResolvedAction → EntityUid → Type 0
IsDeclaredAmong us b = (x : ResolvedAction) × Contains us x × (x.uid ≡ b)

first_or : (x : ResolvedAction) (us : List ResolvedAction) (before : List EntityUid) (b a : EntityUid) (own : Bool) → is_eq (uid_cmp x.uid b) ≡ own
    → Contains (if own then x.parents else before) a → IsDeclaredAmong (x ∷ us) b ⊎ Contains before a
first_or x us before b a true e h = inl (x, Contains-here x us, same_uid x.uid b e)
first_or x us before b a false e h = inr h

declared_or : (parents : Parents) (us : List ResolvedAction) (b a : EntityUid) → Contains (with_action_parents parents us b) a → IsDeclaredAmong us b ⊎ Contains (parents b) a
declared_or parents [] b a h = inr h
declared_or parents (x ∷ us) b a h = elim (declared_or (with_parents parents x.uid x.parents) us b a h) [
  | inl there ↦ inl (there.0, Contains-there x us there.0 there.1, there.2)
  | inr before ↦ first_or x us (parents b) b a (is_eq (uid_cmp x.uid b)) refl before
]

pub is_declared : (s : ResolvedSchema) (b a : EntityUid) → Contains (action_parents s b) a → IsAction s b
is_declared s b a h = elim (declared_or no_parents s.actions b a h) [ inl there ↦ there | inr none ↦ Contains-none a none ]

-- ---- the two hierarchies

module _ (s : ResolvedSchema) (v : StatedSchema) (answers : MatchesDeclarations s v) (entities : EntityMap) where
  abbrev P : Parents
  P = (stated_world s v entities).parents

  abbrev Q : Parents
  Q = (closed_world v entities).parents

  -- an edge by `memberOf` is an edge to what is above
  edge_at : (b c : EntityUid) (o : Option (List EntityUid)) → v.ancestors b ≡ o
      → Contains (kept_parents (action_or (option_map (λ above. action_parents s b) o) (entities b))) c → Contains (kept_parents (action_or o (entities b))) c
  edge_at b c None e h = h
  edge_at b c (Some us) e h = ((answers.ancestors b us e).2 c).1 ([], h)

  edge : (b c : EntityUid) → Contains (P b) c → Contains (Q b) c
  edge b c h = edge_at b c (v.ancestors b) refl h

  path : (b : EntityUid) (cs : List EntityUid) (a : EntityUid) → Path P b cs a → Path Q b cs a
  path b [] a h = edge b a h
  path b (c ∷ cs) a h = (edge b c h.0, path c cs a h.1)

  -- and an edge to what is above is a path by `memberOf`
  stays_at : (b c : EntityUid) (o : Option (List EntityUid)) → IsSome o → Contains (action_parents s b) c
      → Contains (kept_parents (action_or (option_map (λ above. action_parents s b) o) (entities b))) c
  stays_at b c None some h = cc some
  stays_at b c (Some us) some h = h

  stays : (b c : EntityUid) → Contains (action_parents s b) c → Contains (P b) c
  stays b c h = stays_at b c (v.ancestors b) (answers.all_ancestors b (is_declared s b c h)) h

  climbs : (b : EntityUid) (cs : List EntityUid) (a : EntityUid) → Path (action_parents s) b cs a → Path P b cs a
  climbs b [] a h = stays b a h
  climbs b (c ∷ cs) a h = (stays b c h.0, climbs c cs a h.1)

  jump_at : (b c : EntityUid) (o : Option (List EntityUid)) → v.ancestors b ≡ o → Contains (kept_parents (action_or o (entities b))) c
      → (o ≡ None → Contains (kept_parents (entities b)) c → Contains (P b) c) → IsAncestor P c b
  jump_at b c None e h same = ([], same refl h)
  jump_at b c (Some us) e h same = let above = ((answers.ancestors b us e).2 c).0 h in (above.0, climbs b above.0 c above.1)

  kept_at : (b c : EntityUid) (o : Option (List EntityUid)) → o ≡ None → Contains (kept_parents (entities b)) c
      → Contains (kept_parents (action_or (option_map (λ above. action_parents s b) o) (entities b))) c
  kept_at b c None e h = h
  kept_at b c (Some us) e h = absurd (cc)

  jump : (b c : EntityUid) → Contains (Q b) c → IsAncestor P c b
  jump b c h = jump_at b c (v.ancestors b) refl h (kept_at b c (v.ancestors b))

  jumps : (b : EntityUid) (cs : List EntityUid) (a : EntityUid) → Path Q b cs a → IsAncestor P a b
  jumps b [] a h = jump b a h
  jumps b (c ∷ cs) a h = IsAncestor-joined P b c a (jump b c h.0) (jumps c cs a h.1)

  pub lead_alike : LeadAlike P Q
  lead_alike a b = ((λ above. (above.0, path b above.0 a above.1)), (λ above. jumps b above.0 a above.1))

  -- ---- once the edges from u are these, it is on a cycle in both or in neither

  pub puts_alike : (u : EntityUid) (ps : List EntityUid) → IsOnCycle (with_parents P u ps) u ↔ IsOnCycle (with_parents Q u ps) u
  puts_alike = cycles_alike P Q edge jump

  -- ---- the same cycles are in both, since none goes through an action

  module _ (well : IsWellFormed v) where
    some_of : (o : Option (List EntityUid)) → IsSome o → (us : List EntityUid) × (o ≡ Some us)
    some_of None some = cc some
    some_of (Some us) some = (us, refl)

    its_own : (b c : EntityUid) (us : List EntityUid) → v.ancestors b ≡ Some us → Contains (Q b) c → Contains us c
    its_own b c us e h = subst (λ (o : Option (List EntityUid)). Contains (kept_parents (action_or o (entities b))) c) e h

    -- what is above an action is among its ancestors
    within : (b : EntityUid) (us : List EntityUid) → v.ancestors b ≡ Some us → (cs : List EntityUid) (a : EntityUid) → Path Q b cs a → Contains us a
    within b us e [] a h = its_own b a us e h
    within b us e (c ∷ cs) a h =
        let here = its_own b c us e h.0 in
        let next = some_of (v.ancestors c) ((well.actions c).0 (well.ancestors_declared b c us e here)) in
        well.ancestors_join b c a us next.0 e here next.1 (within c next.0 next.1 cs a h.1)

    no_action : (b : EntityUid) → IsOnCycle Q b → v.ancestors b ≡ None
    no_action b on = at (v.ancestors b) refl
      where
        at : (o : Option (List EntityUid)) → v.ancestors b ≡ o → v.ancestors b ≡ None
        at None e = e
        at (Some us) e = absurd (well.no_cycle b us e (within b us e on.0 b on.1))

    -- the edges of a cycle are those of entities that are kept
    kept_edge : (b c : EntityUid) → IsOnCycle Q b → Contains (Q b) c → Contains (P b) c
    kept_edge b c on h =
        kept_at b c (v.ancestors b) (no_action b on) (subst (λ (o : Option (List EntityUid)). Contains (kept_parents (action_or o (entities b))) c) (no_action b on) h)

    on_walk : (b : EntityUid) (cs : List EntityUid) (a : EntityUid) → IsAncestor Q b a → Path Q b cs a → Path P b cs a
    on_walk b [] a round h = kept_edge b a (IsAncestor-joined Q b a b ([], h) round) h
    on_walk b (c ∷ cs) a round h =
        (kept_edge b c (IsAncestor-joined Q b a b (c ∷ cs, h) round) h.0, on_walk c cs a (IsAncestor-joined Q a b c round ([], h.0)) h.1)

    pub same_cycles : HaveSameCycles P Q
    same_cycles [] = ((λ h. h), (λ h. h))
    same_cycles (c ∷ cs) = ((λ h. path c cs c h), (λ h. on_walk c cs c (cs, h) h))

  -- ---- the same entities stand in both, with the same attributes
  attributes_at : (u : EntityUid) (o : Option (List EntityUid))
      → attributes_of (action_or (option_map (λ above. action_parents s u) o) (entities u)) ≡ attributes_of (action_or o (entities u))
  attributes_at u None = refl
  attributes_at u (Some us) = refl

  pub same_stored : (stated_world s v entities).stored ≡ (closed_world v entities).stored
  same_stored = λ i u. attributes_at u (v.ancestors u) i

  -- ---- what is kept are the parents that are stated
  none_here : {A G : Type 0} (o : Option A) → o ≡ None → IsSome o → G
  none_here None e h = absurd cc
  none_here (Some x) e h = absurd cc

  member_at : (u : EntityUid) (o p : Option (List EntityUid)) → v.member_of u ≡ o → v.ancestors u ≡ p → o ≡ option_map (λ above. action_parents s u) p
  member_at u None None e f = refl
  member_at u (Some ps) (Some us) e f = ap (λ (xs : List EntityUid). Some xs) (answers.member_of u ps e).1
  member_at u None (Some us) e f = none_here (v.member_of u) e (answers.all_member_of u (answers.ancestors u us f).0)
  member_at u (Some ps) None e f = none_here (v.ancestors u) f (answers.all_ancestors u (answers.member_of u ps e).0)

  member_is : (u : EntityUid) → v.member_of u ≡ by_member_of s v u
  member_is u = member_at u (v.member_of u) (v.ancestors u) refl refl

  pub members_kept : entity_data_in (with_actions v.member_of entities) ≡ stated_world s v entities
  members_kept = λ i. entities_with (λ u. attributes_of (action_or (member_is u i) (entities u))) (λ u. kept_parents (action_or (member_is u i) (entities u)))
