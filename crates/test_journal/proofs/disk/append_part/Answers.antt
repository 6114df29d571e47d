use Rattle.std.proofs.Common.{[], take, drop, refl, sym, ◌∙◌, take-append-drop}
use Rattle.std.proofs.lemmas.List.{append-nil}
use Rattle.test_journal.proofs.disk.append_part.Goals as goal

pub returns-in-Ok : goal.returns-in-Ok
returns-in-Ok c = (
  take c.min-part.result c.args.bytes.now,
  drop c.min-part.result c.args.bytes.now,
  sym (take-append-drop c.min-part.result c.args.bytes.now),
  c.in-Ok.ensures.items,
)

pub returns-in-Err : goal.returns-in-Err
returns-in-Err c = ([], c.args.bytes.now, refl, c.in-Err.ensures.items ∙ sym (append-nil c.args.file.now.items))
