use Rattle.std.proofs.Common.{◌≡◌, ◌∙◌, ap, sym, subst}
use Rattle.typing.specs.Types as types
use Rattle.typing.specs.Types.{record_type}
use Rattle.typing.specs.Rows.{access_type, field_type_of}
use Rattle.type_checker.specs.Views.{static_view, static_step, typing_environment, Answers}
use Rattle.type_checker.specs.inner.Parts.{built_view}
use Rattle.type_checker.specs.declared.static_type.StaticType.TheViews as shown
use Rattle.type_checker.specs.declared.static_type.StaticType.TheOpen.{StaticType-F}
use Rattle.type_checker.specs.declared.static_type.StaticType.TheFolds.{fold-roll-StaticType}
use Rattle.type_checker.proofs.fields.field_type.Goals as goal

pub returns-in-Record-clause-row : goal.returns-in-Record-clause-row
returns-in-Record-clause-row c =
    let fs = c.in-Record.fields in
    let folded : static_view (shown.Record fs) ≡ record_type (built_view fs) =
    ap static_view (sym (shown.rolls-Record fs)) ∙ fold-roll-StaticType types.StaticType static_step (StaticType-F.Record fs) in
    let whole : static_view c.args.whole.now ≡ record_type (built_view c.as_slice.result.now) =
    ap static_view c.in-Record.is ∙ (folded ∙ sym (ap (λ gs. record_type (built_view gs)) (c.as_slice.ensures ∙ c.deref.ensures))) in
    subst (λ t. Answers c.access-in-Record.result (field_type_of (typing_environment c.args.env) c.args.is_known c.args.key.now t))
    (sym whole)
    (subst (λ d. Answers c.access-in-Record.result (access_type c.args.is_known d)) c.found_built.ensures.declared
    c.access-in-Record.ensures.row)
