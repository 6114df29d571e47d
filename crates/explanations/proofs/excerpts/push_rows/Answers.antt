use Rattle.std.proofs.Common.{◌∙◌, ℕ, List, ◌++◌, ap, string_bytes}
use Rattle.explanations.proofs.Columns.{all_characters}
use Rattle.explanations.proofs.Appending.{on_ok}
use Rattle.explanations.proofs.Rows.{rows_of}
use Rattle.explanations.proofs.excerpts.push_rows.Goals as goal

pub returns : goal.returns
returns c =
    let cut = c.args.cut.now in
    let place = c.args.place in
    on_ok c.push_all.result c.push_all.ensures
    (λ is. is ∙ ap (λ (l : List ℕ). string_bytes c.args.out.now ++ l)
    (rows_of c.args.file.now c.args.line.now place.line place.column cut.before cut.end cut.place c.args.digits c.args.carets
    c.saturating_sub.result c.saturating_sub-2.result cut.len c.mark_if.result.now c.mark_if-2.result.now c.mark_if-3.result.now
    (all_characters c.args.file.now c.utf8.file) c.mark_if.ensures c.saturating_sub.ensures c.requires c.mark_if-2.ensures c.mark_if-3.ensures
    c.saturating_sub-2.ensures))
