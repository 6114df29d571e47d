-- Validation is sound over entities that were read.
use Rattle.std.proofs.Common.{◌≡◌, List, [], ◌∷◌, ◌++◌, map, Option, Some, None, refl, sym, ap, subst, inl, inr}
use Rattle.std.specs.Prelude.{Contains, IsSome}
use Rattle.values.specs.declared.entity_uid.EntityUid.{EntityUid}
use Rattle.site_meaning.specs.ancestor_search.Decided.{HaveAllParents, PathsAreDecided, reaches}
use Rattle.site_meaning.specs.ancestor_search.Deciding.{Contains-here, Contains-there, Contains-none, Contains-cases}
use Rattle.site_store.specs.schema.Schemas.{StatedSchema}
use Rattle.site_store.specs.schema.WellFormed.{IsWellFormed, StatedSchemasAreWellFormed}
use Rattle.site_store.specs.entity_data.declared.data.EntityData.{EntityData}
use Rattle.site_store.specs.entity_data.Entities.{EntityMap, AreListed, kept_parents, action_or}
use Rattle.site_meaning.specs.entity_hierarchy.Laws.{closed_world}
use Rattle.site_store.specs.entity_data.Listing.{in_first, in_second}
use Rattle.sync_messages.specs.type_checker.FromSchemas.{typing_environment_of}
use Rattle.sync_messages.specs.validator.Outcomes.{PassingPoliciesAreSound}
use Rattle.site.specs.SoundWorlds.{ParsedDataConforms, ValidationIsSound}

-- each entity with parents is stored, or an action
module _ (s : StatedSchema) (wf : IsWellFormed s) (entities : EntityMap) (us : List EntityUid) (listed : AreListed entities us) where
  listed_at : (b a : EntityUid) (above : Option (List EntityUid)) (o : Option EntityData) → s.ancestors b ≡ above → entities b ≡ o
      → Contains (kept_parents (action_or above o)) a → Contains (s.actions ++ us) b
  listed_at b a (Some ps) o e f h = in_first s.actions us b ((wf.actions b).1 (subst (λ (x : Option (List EntityUid)). IsSome x) (sym e) refl))
  listed_at b a None (Some kept) e f h = in_second s.actions us b ((listed b).1 (subst (λ (x : Option EntityData). IsSome x) (sym f) refl))
  listed_at b a None None e f h = Contains-none a h

  all_listed : HaveAllParents (closed_world s entities).parents (s.actions ++ us)
  all_listed b a h = listed_at b a (s.ancestors b) (entities b) refl refl h

pub mapped : {A B : Type 0} (f : A → B) (xs : List A) (x : A) → Contains xs x → Contains (map f xs) (f x)
mapped f [] x h = Contains-none x h
mapped {B = B} f (w ∷ xs) x h = elim (Contains-cases w xs x h) [
  | inl e ↦ subst (λ (z : B). Contains (f w ∷ map f xs) z) (ap f e) (Contains-here (f w) (map f xs))
  | inr t ↦ Contains-there (f w) (map f xs) (f x) (mapped f xs x t)
]

pub validation_is_sound : StatedSchemasAreWellFormed → ParsedDataConforms → PathsAreDecided → PassingPoliciesAreSound → ValidationIsSound
validation_is_sound well conforms decided right bytes s stated entities are_read us listed d q states policy passes r gives =
    let at = conforms bytes s stated entities are_read d q states in
    let W = closed_world s entities in
    right s policy passes W (reaches W.parents (s.actions ++ us)) (decided W.parents (s.actions ++ us) (all_listed s (well bytes s stated) entities us listed))
    (typing_environment_of s at.0) (mapped (typing_environment_of s) s.environments at.0 at.1) q at.2 r gives
