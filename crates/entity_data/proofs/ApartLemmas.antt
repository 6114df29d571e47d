-- Where the actions stand apart, no cycle goes through one: the edges that lead from no action have the same cycles as
-- all edges.
use Rattle.std.proofs.Common.{◌≡◌, List, [], ◌∷◌, Option, Some, None, refl, sym, subst}
use Rattle.std.specs.Prelude.{Contains, IsSome, MatchOption}
use Rattle.values.specs.declared.entity_uid.EntityUid.{EntityUid}
use Rattle.evaluator.specs.ancestor_search.Hierarchy.{Parents, Path, IsAncestor, IsOnCycle, AreOnCycles}
use Rattle.evaluator.specs.ancestor_search.Deciding.{Contains-none, IsAncestor-joined}
use Rattle.evaluator.specs.ancestor_search.LeastCycle.{IsClosedWalk, HasNoCycle, IsLeastCycle}
use Rattle.entity_data.specs.declared.data.EntityData.{EntityData}
use Rattle.entity_data.specs.ActionHierarchy.{IsActionHierarchy, edges_of, stated_parents}
use Rattle.entity_data.specs.Entities.{EntityMap, Actions, no_actions, kept_parents, action_or, with_actions}
use Rattle.entity_data.specs.inner.EntityEdges.{entity_edges, parents_unless}

-- ---- where nothing is declared

no_path : (b : EntityUid) (cs : List EntityUid) (a : EntityUid) → Path (edges_of no_actions) b cs a → ⊥
no_path b [] a h = Contains-none a h
no_path b (c ∷ cs) a h = Contains-none c h.0

pub none_are_apart : IsActionHierarchy no_actions
none_are_apart = record {
  among = λ u parent h. Contains-none parent h;
  acyclic = λ u on. no_path u on.0 u on.1;
}

-- ---- one edge

module _ {G : Type 0} where
  some_none : (o : Option (List EntityUid)) → IsSome o → o ≡ None → G
  some_none None some none = absurd cc
  some_none (Some us) some none = absurd cc

of_entity : (o : Option (List EntityUid)) (e : Option EntityData) (c : EntityUid) → Contains (parents_unless o e) c
    → Contains (kept_parents (action_or o e)) c
of_entity None e c h = h
of_entity (Some us) e c h = Contains-none c h

of_action : (o : Option (List EntityUid)) (e : Option EntityData) (c : EntityUid) → IsSome o
    → Contains (kept_parents (action_or o e)) c → Contains (stated_parents o) c
of_action None e c some h = cc some
of_action (Some us) e c some h = h

of_no_action : (o : Option (List EntityUid)) (e : Option EntityData) (c : EntityUid) → o ≡ None
    → Contains (kept_parents (action_or o e)) c → Contains (parents_unless o e) c
of_no_action None e c none h = h
of_no_action (Some us) e c none h = some_none (Some us) refl none

-- ---- the same cycles

abbrev pub all_edges : Actions → EntityMap → Parents
all_edges actions entities u = kept_parents (with_actions actions entities u)

module _ (actions : Actions) (apart : IsActionHierarchy actions) (entities : EntityMap) where
  -- all edges
  abbrev P : Parents
  P = all_edges actions entities

  -- those that lead from no action
  abbrev E : Parents
  E = entity_edges actions entities

  into : (b : EntityUid) (cs : List EntityUid) (a : EntityUid) → Path E b cs a → Path P b cs a
  into b [] a h = of_entity (actions b) (entities b) a h
  into b (c ∷ cs) a h = (of_entity (actions b) (entities b) c h.0, into c cs a h.1)

  -- a path from an action stays among actions
  stays : (b : EntityUid) (cs : List EntityUid) (a : EntityUid) → IsSome (actions b) → Path P b cs a
      → Path (edges_of actions) b cs a
  stays b [] a some h = of_action (actions b) (entities b) a some h
  stays b (c ∷ cs) a some h =
      let edge = of_action (actions b) (entities b) c some h.0 in
      (edge, stays c cs a (apart.among b c edge) h.1)

  off_cycles : (b : EntityUid) → IsOnCycle P b → actions b ≡ None
  off_cycles b on = at (actions b) refl
    where
      at : (o : Option (List EntityUid)) → actions b ≡ o → actions b ≡ None
      at None e = e
      at (Some us) e = absurd (apart.acyclic b (on.0, stays b on.0 b (subst (λ o. IsSome o) (sym e) refl) on.1))

  edge_of_cycle : (b c : EntityUid) → IsOnCycle P b → Contains (P b) c → Contains (E b) c
  edge_of_cycle b c on h = of_no_action (actions b) (entities b) c (off_cycles b on) h

  -- each edge of a walk that comes back leads from no action
  on_walk : (b : EntityUid) (cs : List EntityUid) (a : EntityUid) → IsAncestor P b a → Path P b cs a → Path E b cs a
  on_walk b [] a round h = edge_of_cycle b a (IsAncestor-joined P b a b ([], h) round) h
  on_walk b (c ∷ cs) a round h = (
    edge_of_cycle b c (IsAncestor-joined P b a b (c ∷ cs, h) round) h.0,
    on_walk c cs a (IsAncestor-joined P a b c round ([], h.0)) h.1,
  )

  outof : (c : EntityUid) (cs : List EntityUid) → IsClosedWalk P (c ∷ cs) → IsClosedWalk E (c ∷ cs)
  outof c cs h = on_walk c cs c (cs, h) h

  on_cycle : (x : EntityUid) → IsOnCycle P x → IsOnCycle E x
  on_cycle x on = (on.0, outof x on.0 on.1)

  pub cycles_are_whole : (xs : List EntityUid) → AreOnCycles E xs → AreOnCycles P xs
  cycles_are_whole xs are a =
      ((λ h. let on = (are a).0 h in (on.0, into a on.0 a on.1)), (λ on. (are a).1 (on_cycle a on)))

  none_is_whole : HasNoCycle E → HasNoCycle P
  none_is_whole none x on = none x (on_cycle x on)

  least_is_whole : (walk : List EntityUid) → IsLeastCycle E walk → IsLeastCycle P walk
  least_is_whole [] least = least
  least_is_whole (c ∷ cs) least = record {
    closed = into c cs c least.closed;
    first = λ x on. least.first x (on_cycle x on);
    shortest = λ ds walk. least.shortest ds (outof c ds walk);
    least = λ ds walk. least.least ds (outof c ds walk);
  }

  pub least_or_none : {F : Type 0} (walk_of : F → List EntityUid) (o : Option F)
      → MatchOption o (HasNoCycle E) (λ f. IsLeastCycle E (walk_of f)) → MatchOption o (HasNoCycle P) (λ f. IsLeastCycle P (walk_of f))
  least_or_none walk_of None none = none_is_whole none
  least_or_none walk_of (Some f) least = least_is_whole (walk_of f) least
