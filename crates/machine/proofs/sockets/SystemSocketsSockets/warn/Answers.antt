use Rattle.std.proofs.Common.{refl}
use Rattle.std.specs.Prelude.{string_bytes}
use Rattle.machine.specs.Changes.{failing_line}
use Rattle.machine.proofs.StreamLemmas.{warned}
use Rattle.machine.proofs.sockets.SystemSocketsSockets.warn.Goals as goal

pub returns : goal.returns
returns g c = (
  refl,
  warned g.E.Write.contents (failing_line (string_bytes c.args.self.now.address)) c.args.self.now.faults c.write_line.new.out
      c.write_line.result c.is_ok.result c.is_ok.ensures.value (rw c.as_str.ensures.value at c.write_line.ensures),
  refl,
)
