use Rattle.schema.proofs.environments.add_action.Given as goal

abbrev pub ghost-add_use : goal.ghost-add_use
ghost-add_use g a = g.commons
