use Rattle.std.proofs.Common.{◌∙◌, ap, sym}
use Rattle.json_words.specs.ReadsAs.{or_fault}
use Rattle.entity_uids.proofs.ListLemmas.{array_names}
use Rattle.entities.specs.declared.fault.EntityFault.TheVariants.{BadShape}
use Rattle.entities.specs.EntityForms.{uids_of}
use Rattle.entities.proofs.stated.parent_uids.Goals as goal

pub returns-in-Some : goal.returns-in-Some
unfolding uids_of
returns-in-Some c = array_names BadShape c.args.values.now ∙ ap (or_fault BadShape) (sym c.in_ok-uids.ensures ∙ c.in-Some.is)

pub returns-in-None : goal.returns-in-None
unfolding uids_of
returns-in-None c = λ other. array_names BadShape c.args.values.now ∙ ap (or_fault BadShape) (sym c.in_ok-uids.ensures ∙ c.in-None.is)
