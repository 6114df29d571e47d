use Rattle.std.proofs.Common.{rules}
use Rattle.extensions.proofs.ip_net.IpNetOrd.cmp.Goals as goal

pub returns : goal.returns
returns c = search rules
