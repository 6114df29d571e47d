use Rattle.std.proofs.Common.{rules}
use Rattle.extensions.proofs.ip_net.IpNet.is_ipv4.Goals as goal

pub returns : goal.returns
returns c = search rules
