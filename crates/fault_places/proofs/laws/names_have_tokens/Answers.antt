use Rattle.fault_places.proofs.PolicyNodes.{laid}
use Rattle.fault_places.proofs.NamePlaces.{name_stands_in}
use Rattle.fault_places.proofs.laws.names_have_tokens.Goals as goal

pub returns : goal.returns
returns c text ts tree whole path e n lexed derives core_is h named =
    name_stands_in text tree whole core_is ts (laid ts tree derives) e n named path lexed h
