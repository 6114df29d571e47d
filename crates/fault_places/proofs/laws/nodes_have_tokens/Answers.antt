use Rattle.fault_places.proofs.PolicyNodes.{laid, stands_in}
use Rattle.fault_places.proofs.laws.nodes_have_tokens.Goals as goal

pub returns : goal.returns
returns c text ts tree whole path e lexed derives core_is h =
    stands_in text tree whole core_is ts (laid ts tree derives) e path lexed h
