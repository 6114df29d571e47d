use Rattle.std.proofs.Common.{◌≡◌, ◌∙◌, ◌⊎◌, inl, inr, List, Option, Result, IfOk, option_map, codes, sym, ap, subst}
use Rattle.serde_json.specs.View.{view}
use Rattle.schema_types.specs.Cedar.{Cedar}
use Rattle.schema_types.specs.CedarViews.{cedar_view}
use Rattle.schema_decisions.specs.schema.Views.{schema_view}
use Rattle.schema_decisions.specs.schema.Schemas.{StatedSchema}
use Rattle.entities.specs.declared.fault.EntityFault.{EntityFault}
use Rattle.entities.specs.declared.fault.EntityFault.TheVariants.{BadShape, UnknownType, ActionEntity, TagsLeftOut, BadParent, SelfParent}
use Rattle.serde_json.specs.Data.{Data}
use Rattle.explanations.specs.Steps.{Step}
use Rattle.explanations.specs.EntityPaths.{shape_at}
use Rattle.explanations.specs.inner.FoundPaths.{path_under}
use Rattle.explanations.specs.inner.FoundParts.{attributes_path, path_of}
use Rattle.explanations.proofs.Going.{if_ok}
use Rattle.explanations.proofs.EntityParts.{path-other}
use Rattle.explanations.proofs.entity_paths.find_part.Goals as goal

-- the path of an error that is known
of_known : {E : Type 0} (s : StatedSchema) (d : Data) (f g : EntityFault) (r : Result (Option (List Step)) E) → f ≡ g → IfOk r (λ o. o ≡ path_of s d g) → IfOk r (λ o. o ≡ path_of s d f)
of_known s d f g r e h = subst (λ (k : EntityFault). IfOk r (λ o. o ≡ path_of s d k)) (sym e) h

of_either : {E : Type 0} (s : StatedSchema) (d : Data) (f g h : EntityFault) (r : Result (Option (List Step)) E) → (f ≡ g) ⊎ (f ≡ h) → IfOk r (λ o. o ≡ path_of s d g)
    → IfOk r (λ o. o ≡ path_of s d h) → IfOk r (λ o. o ≡ path_of s d f)
of_either s d f g h r (inl e) k l = of_known s d f g r e k
of_either s d f g h r (inr e) k l = of_known s d f h r e l

pub returns-in-BadShape : goal.returns-in-BadShape
returns-in-BadShape c = of_known (schema_view c.args.schema.now) (view c.args.value.now) c.args.fault BadShape c.find_in_form.result c.in-BadShape.is c.find_in_form.ensures

pub returns-in-UnknownType : goal.returns-in-UnknownType
returns-in-UnknownType c =
    of_either (schema_view c.args.schema.now) (view c.args.value.now) c.args.fault UnknownType ActionEntity c.at_key.result c.in-UnknownType.is c.at_key.ensures c.at_key.ensures

pub returns-in-TagsLeftOut : goal.returns-in-TagsLeftOut
returns-in-TagsLeftOut c = of_known (schema_view c.args.schema.now) (view c.args.value.now) c.args.fault TagsLeftOut c.at_key-in-TagsLeftOut.result c.in-TagsLeftOut.is c.at_key-in-TagsLeftOut.ensures

pub returns-in-BadParent : goal.returns-in-BadParent
returns-in-BadParent c =
    of_either (schema_view c.args.schema.now) (view c.args.value.now) c.args.fault BadParent SelfParent c.find_bad_parent.result c.in-BadParent.is c.find_bad_parent.ensures c.find_bad_parent.ensures

pub returns-in-Ok : goal.returns-in-Ok
unfolding attributes_path
returns-in-Ok c =
    let s = schema_view c.args.schema.now in
    let d = view c.args.value.now in
    let type : Option Cedar = option_map (λ t. cedar_view t.now) c.in-Ok.shape in
    let other : attributes_path s d ≡ path_of s d c.args.fault =
    path-other s d c.args.fault c.in_default.not-BadShape c.in_default.not-UnknownType c.in_default.not-ActionEntity c.in_default.not-TagsLeftOut c.in_default.not-BadParent c.in_default.not-SelfParent in
    if_ok c.find_under.result (λ (o : Option (List Step)). o ≡ path_under (codes "attrs") type d) (λ (o : Option (List Step)). o ≡ path_of s d c.args.fault)
    (λ o e. e ∙ ap (λ (x : Option Cedar). path_under (codes "attrs") x d) (c.in-Ok.ensures ∙ ap (shape_at s) c.get.ensures) ∙ other) c.find_under.ensures

pub returns-in-Err : goal.returns-in-Err
returns-in-Err c = tt
