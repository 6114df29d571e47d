use Rattle.extensions.specs.NetworkText.{IsNetworkText}
use Rattle.extensions.specs.TextsDecided.{network_text_decided, within_decided}
use Rattle.extensions.proofs.CanonicalNetworks.{one_network}
use Rattle.extensions.proofs.Found.{found_iff, told_iff}
use Rattle.extensions.proofs.ip_net.network_texts_are_decided.Goals as goal

pub returns-clause-texts : goal.returns-clause-texts
returns-clause-texts c = λ text n. found_iff (IsNetworkText text) (one_network text) (network_text_decided text) n

pub returns-clause-ranges : goal.returns-clause-ranges
returns-clause-ranges c = λ a b. told_iff (within_decided a b)
