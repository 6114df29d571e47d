use Rattle.std.proofs.Common.{ap, ◌∙◌, take, length}
use Rattle.fault_places.specs.Forms.{kept}
use Rattle.fault_places.proofs.forms.pieces.Goals as goal

pub returns : goal.returns
returns g c =
    c.front.ensures ∙ ap (λ n. take n c.as_slice.result.now) (c.kept.ensures ∙ ap (kept c.args.part) c.len.ensures)
    ∙ ap (take (kept c.args.part (length c.args.items.now))) c.as_slice.ensures
