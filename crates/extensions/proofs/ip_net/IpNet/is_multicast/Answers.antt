use Rattle.std.proofs.Common.{rules}
use Rattle.extensions.proofs.ip_net.IpNet.is_multicast.Goals as goal

pub returns-else-is_in_range : goal.returns-else-is_in_range
returns-else-is_in_range c = search rules

pub returns-then-is_in_range : goal.returns-then-is_in_range
returns-then-is_in_range c = search rules
