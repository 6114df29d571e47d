use Rattle.std.specs.Prelude.{FitsSigned}
use Rattle.std.specs.Int.{w64}
use Rattle.extensions.proofs.CanonicalDecimals.{reads_back}
use Rattle.extensions.proofs.decimal.Decimal.write_to.Goals as goal

pub returns-in_err-reserve-clause-reads_back : goal.returns-in_err-reserve-clause-reads_back
returns-in_err-reserve-clause-reads_back c =
    let known : FitsSigned w64 c.args.self.now = rw (← c.self.view_is) c.self.invariant in reads_back c.args.self.now known

pub returns-clause-reads_back : goal.returns-clause-reads_back
returns-clause-reads_back c =
    let known : FitsSigned w64 c.args.self.now = rw (← c.self.view_is) c.self.invariant in reads_back c.args.self.now known
