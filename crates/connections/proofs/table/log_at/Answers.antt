use Rattle.std.proofs.Common.{◌≡◌, inr, refl, sym, subst, ◌∙◌}
use Rattle.std.proofs.lemmas.List.{set-get_or}
use Rattle.std.proofs.lemmas.Option.{slice_get-get_or}
use Rattle.connections.specs.Connections.{Connection}
use Rattle.connections.specs.declared.slot.Stage.TheVariants as Stages
use Rattle.connections.proofs.TableLemmas.{some_is}
use Rattle.connections.proofs.table.log_at.Goals as goal

pub returns-else-is_committed : goal.returns-else-is_committed
returns-else-is_committed g c =
    let table = c.args.slots.now in
    let at = c.args.at in
    let d = c.index-slots-at.result in
    let here = slice_get-get_or table at d c.requires in
    inr (
      set-get_or table at d,
      refl,
      λ a found is. let committed = c.is_committed.ensures.1 (subst (λ (t : Connection). t.stage ≡ Stages.Committed) (some_is (sym found ∙ here)) is) in cc,
    )
