use Rattle.extensions.proofs.CanonicalNetworks.{one_network}
use Rattle.extensions.proofs.ip_net.network_is_unique.Goals as goal

pub returns : goal.returns
returns c = one_network
