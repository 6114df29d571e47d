-- The search through the parents of an entity.
use Rattle.std.proofs.Common.{◌≡◌, ◌∙◌, ℕ, ◌+◌, ◌<◌, ◌≤◌, drop, get_or, length, Bool, true, false, Option, Some, None, List, ◌∷◌, sym, ap}
use Rattle.std.specs.Prelude.{is_some, if◌then◌else◌}
use Rattle.std.proofs.lemmas.List.{drop_all}
use Rattle.serde_json.specs.View.{view, items_view}
use Rattle.serde_json.specs.declared.value.Value.{Value}
use Rattle.values.specs.declared.entity_uid.EntityUid.{EntityUid}
use Rattle.entities.specs.entity_uids.Uids.{uid_in}
use Rattle.entities.specs.Typing.{with_or}
use Rattle.schema_decisions.specs.schema.Schemas.{StatedSchema}
use Rattle.explanations.specs.Steps.{Step}
use Rattle.explanations.specs.EntityPaths.{to_parent, first_unmet, parent_demands}
use Rattle.explanations.specs.inner.FoundParts.{fits, unfit_path}
use Rattle.explanations.proofs.Going.{search_goes, search_stops}

-- ---- parents that are not uids

abbrev nameless : ℕ → List Value → Option (List Step)
nameless i vs = first_unmet (parent_demands i (items_view vs))

nameless_first : (i : ℕ) (v : Value) (vs : List Value) (b : Bool) → b ≡ is_some (uid_in (view v)) → nameless i (v ∷ vs) ≡ (if b then nameless (i + 1) vs else Some (to_parent i))
nameless_first i v vs b e = ap (λ (c : Bool). if c then nameless (i + 1) vs else Some (to_parent i)) (sym e)

pub nameless_goes : (vs : List Value) (i : ℕ) (v : Value) (total : Option (List Step)) → i < length vs → v ≡ get_or vs i v → true ≡ is_some (uid_in (view v))
    → total ≡ first_unmet (parent_demands i (items_view (drop i vs))) → total ≡ first_unmet (parent_demands (i + 1) (items_view (drop (i + 1) vs)))
nameless_goes vs i v total lt at e so_far = search_goes nameless vs i v total lt at (nameless_first i v (drop (i + 1) vs) true e) so_far

pub nameless_stops : (vs : List Value) (i : ℕ) (v : Value) (total : Option (List Step)) → i < length vs → v ≡ get_or vs i v → false ≡ is_some (uid_in (view v))
    → total ≡ first_unmet (parent_demands i (items_view (drop i vs))) → Some (to_parent i) ≡ total
nameless_stops vs i v total lt at e so_far = search_stops nameless vs i v (Some (to_parent i)) total lt at (nameless_first i v (drop (i + 1) vs) false e) so_far

pub nameless_done : (vs : List Value) (n : ℕ) (total : Option (List Step)) → length vs ≤ n → total ≡ first_unmet (parent_demands n (items_view (drop n vs))) → None ≡ total
nameless_done vs n total le so_far = sym (so_far ∙ ap (nameless n) (drop_all n vs le))

-- ---- parents that do not fit

module _ (s : StatedSchema) (uid : EntityUid) where
  abbrev unfit : ℕ → List Value → Option (List Step)
  unfit i vs = unfit_path s uid i (items_view vs)

  unfit_first : (i : ℕ) (v : Value) (vs : List Value) (o : Option EntityUid) → o ≡ uid_in (view v)
      → unfit i (v ∷ vs) ≡ with_or o (λ parent. if fits s uid parent then unfit (i + 1) vs else Some (to_parent i)) None
  unfolding unfit_path
  unfit_first i v vs o e = ap (λ (p : Option EntityUid). with_or p (λ parent. if fits s uid parent then unfit (i + 1) vs else Some (to_parent i)) None) (sym e)

  unfit_by : (i : ℕ) (v : Value) (vs : List Value) (u : EntityUid) (b : Bool) → Some u ≡ uid_in (view v) → b ≡ fits s uid u → unfit i (v ∷ vs) ≡ (if b then unfit (i + 1) vs else Some (to_parent i))
  unfit_by i v vs u b e f = unfit_first i v vs (Some u) e ∙ ap (λ (c : Bool). if c then unfit (i + 1) vs else Some (to_parent i)) (sym f)

  pub unfit_goes : (vs : List Value) (i : ℕ) (v : Value) (u : EntityUid) (total : Option (List Step)) → i < length vs → v ≡ get_or vs i v → Some u ≡ uid_in (view v) → true ≡ fits s uid u
      → total ≡ unfit_path s uid i (items_view (drop i vs)) → total ≡ unfit_path s uid (i + 1) (items_view (drop (i + 1) vs))
  unfit_goes vs i v u total lt at e f so_far = search_goes unfit vs i v total lt at (unfit_by i v (drop (i + 1) vs) u true e f) so_far

  pub unfit_stops : (vs : List Value) (i : ℕ) (v : Value) (u : EntityUid) (total : Option (List Step)) → i < length vs → v ≡ get_or vs i v → Some u ≡ uid_in (view v) → false ≡ fits s uid u
      → total ≡ unfit_path s uid i (items_view (drop i vs)) → Some (to_parent i) ≡ total
  unfit_stops vs i v u total lt at e f so_far = search_stops unfit vs i v (Some (to_parent i)) total lt at (unfit_by i v (drop (i + 1) vs) u false e f) so_far

  pub unfit_nameless : (vs : List Value) (i : ℕ) (v : Value) (total : Option (List Step)) → i < length vs → v ≡ get_or vs i v → None ≡ uid_in (view v)
      → total ≡ unfit_path s uid i (items_view (drop i vs)) → None ≡ total
  unfit_nameless vs i v total lt at e so_far = search_stops unfit vs i v None total lt at (unfit_first i v (drop (i + 1) vs) None e) so_far

  pub unfit_done : (vs : List Value) (n : ℕ) (total : Option (List Step)) → length vs ≤ n → total ≡ unfit_path s uid n (items_view (drop n vs)) → None ≡ total
  unfolding unfit_path
  unfit_done vs n total le so_far = sym (so_far ∙ ap (unfit n) (drop_all n vs le))
