use Rattle.std.proofs.Common.{◌∙◌}
use Rattle.validator.proofs.KnownLemmas.{has_parents}
use Rattle.validator.proofs.known.is_declared_action.Goals as goal

pub returns : goal.returns
returns c =
    let stated = c.is_stated.ensures in
    c.is_action.ensures ∙ has_parents _ (c.stated_schemas_are_well_formed.ensures stated.0 _ stated.1) c.args.uid.now
