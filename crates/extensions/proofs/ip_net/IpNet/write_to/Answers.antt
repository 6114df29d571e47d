use Rattle.extensions.specs.Network.{IsNetwork}
use Rattle.extensions.proofs.CanonicalNetworks.{network_reads_back}
use Rattle.extensions.proofs.ip_net.IpNet.write_to.Goals as goal

pub returns-in_err-reserve-clause-reads_back : goal.returns-in_err-reserve-clause-reads_back
returns-in_err-reserve-clause-reads_back c =
    let known : IsNetwork c.args.self.now = rw (← c.self.view_is) c.self.invariant in network_reads_back c.args.self.now known

pub returns-clause-reads_back : goal.returns-clause-reads_back
returns-clause-reads_back c =
    let known : IsNetwork c.args.self.now = rw (← c.self.view_is) c.self.invariant in network_reads_back c.args.self.now known
