use Rattle.std.proofs.Common.{◌≡◌, [], ◌++◌, refl, sym, ◌∙◌, ap, arith}
use Rattle.std.proofs.lemmas.List.{append-nil}
use Rattle.journal.specs.Moments.{IsLeftBy, appended, replied}
use Rattle.journal.specs.Lines.{whole_lines}
use Rattle.journal.specs.Records.{Holds}
use Rattle.journal.specs.Steps.{updates_of}
use Rattle.journal.proofs.WholeLines.{whole_written}
use Rattle.journal.proofs.Survivors.{Holds-unique, one_is_sent, cancel_first}
use Rattle.journal.proofs.laws.replies_wait_for_the_sync.Goals as goal

pub returns : goal.returns
returns g c = λ x first d entry m rest some safe.
    let states = g.R.Replica.states x in
    let checked = g.R.Replica.checked in
    let left : IsLeftBy checked (replied d.reply (appended entry m)) m.file = record {
      cut = m.file;
      lost = entry;
      others = [];
      part = refl;
      kept = omega (arith, rest.durable);
      lines = sym (append-nil (whole_lines m.file));
      unchecked = tt;
    } in
    let lines : whole_lines m.file ≡ rest.records ++ [] =
    ap whole_lines (rest.whole ∙ sym (append-nil _)) ∙ whole_written rest.records [] rest.lines in
    let holds : Holds states checked m.file first = record { records = rest.records; others = []; lines = lines; stated = rest.stated; unchecked = tt } in
    let was = safe m.file left in
    let all : updates_of (was.sent ++ was.kept) ≡ d.applied = one_is_sent d was.sent was.kept was.lost m.replies was.split was.replies in
    let same : first ≡ first ++ updates_of (was.sent ++ was.kept) =
    Holds-unique states checked (g.met.R.Replica.one_meaning x) (g.met.R.Replica.records_are_checked x) m.file first
    (first ++ updates_of (was.sent ++ was.kept)) holds was.holds in
    some (sym all ∙ cancel_first first (updates_of (was.sent ++ was.kept)) same)
