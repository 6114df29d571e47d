-- The actions of a schema that bytes state are apart: their parents are actions, and none is above itself.
use Rattle.std.proofs.Common.{List, [], ◌∷◌, Option, Some, None, ◌≡◌, refl, subst}
use Rattle.std.specs.Prelude.{ℕ, Contains, IsSome}
use Rattle.values.specs.declared.entity_uid.EntityUid.{EntityUid}
use Rattle.authoriser.specs.ancestor_search.Hierarchy.{Path}
use Rattle.authoriser.specs.ancestor_search.Deciding.{Contains-none}
use Rattle.entities.specs.schema.Schemas.{StatedSchema, IsSchemaOf, action_parents}
use Rattle.entities.specs.schema.WellFormed.{IsWellFormed}
use Rattle.entities.specs.entity_data.ActionHierarchy.{IsActionHierarchy, edges_of, stated_parents}
use Rattle.entity_hierarchy.proofs.ActionLemmas.{is_declared}

module _ (bytes : List ℕ) (v : StatedSchema) (stated : IsSchemaOf bytes v) where
  edge_at : (b c : EntityUid) (o : Option (List EntityUid)) → v.member_of b ≡ o → Contains (stated_parents o) c
      → Contains (action_parents stated.named b) c
  edge_at b c None e h = Contains-none c h
  edge_at b c (Some us) e h = subst (λ (ws : List EntityUid). Contains ws c) (stated.answers.member_of b us e).1 h

  edge : (b c : EntityUid) → Contains (edges_of v.member_of b) c → Contains (action_parents stated.named b) c
  edge b c h = edge_at b c (v.member_of b) refl h

  path : (b : EntityUid) (cs : List EntityUid) (a : EntityUid) → Path (edges_of v.member_of) b cs a
      → Path (action_parents stated.named) b cs a
  path b [] a h = edge b a h
  path b (c ∷ cs) a h = (edge b c h.0, path c cs a h.1)

  -- a parent is above, and what is above an action is an action
  action_at : (well : IsWellFormed v) (b c : EntityUid) (o : Option (List EntityUid)) → v.ancestors b ≡ o → IsSome o
      → Contains (action_parents stated.named b) c → Contains v.actions c
  action_at well b c None e some h = absurd cc
  action_at well b c (Some us) e some h =
      well.ancestors_declared b c us e (((stated.answers.ancestors b us e).2 c).1 ([], h))

  among : (well : IsWellFormed v) (b c : EntityUid) → Contains (edges_of v.member_of b) c → IsSome (v.member_of c)
  among well b c h =
      let stands = edge b c h in
      let declared = stated.answers.all_ancestors b (is_declared stated.named b c stands) in
      (well.actions_stated c).0 (action_at well b c (v.ancestors b) refl declared stands)

  pub are_a_hierarchy : IsWellFormed v → IsActionHierarchy v.member_of
  are_a_hierarchy well = record {
    among = among well;
    acyclic = λ u on. stated.sound.no_cycle (u, (on.0, path u on.0 u on.1));
  }
