use Rattle.std.proofs.Common.{sym, ◌∙◌}
use Rattle.program.specs.Serving.{own_stamps_line}
use Rattle.program.proofs.EventLemmas.{warned_of, not_warned_of}
use Rattle.program.proofs.serving.warn_of_own_stamps.Goals as goal

pub returns-then-not-has_stamps_of : goal.returns-then-not-has_stamps_of
returns-then-not-has_stamps_of g c =
    not_warned_of g.H.Host.does _ _ (own_stamps_line c.args.name) (sym c.has_stamps_of.ensures ∙ c.if-not-has_stamps_of.true)

pub returns : goal.returns
returns g c =
    warned_of g.H.Host.does _ _ _ _ (own_stamps_line c.args.name) (sym c.has_stamps_of.ensures ∙ c.if-not-has_stamps_of.false)
    (rw c.as_bytes.ensures.bytes at c.write_line.ensures)
