use Rattle.std.proofs.Common.{refl}
use Rattle.explanations.proofs.Appending.{on_ok}
use Rattle.explanations.proofs.unread.push_read_fault.Goals as goal

pub returns : goal.returns
returns c =
    let end = c.end_of_token-end.ensures in
    on_ok c.push_source.result c.push_source.ensures (λ e. (
      e.0,
      record {
        finding = _;
        code_is = c.from.ensures;
        start_is = refl;
        end_is = end;
        cause_holds = rw end at c.cause_at-cause.ensures;
        detail_is = refl;
        note_is = refl;
        is_text = e.1;
      },
      e.2,
    ))
