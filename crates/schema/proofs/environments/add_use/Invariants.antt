use Rattle.schema.proofs.environments.add_use.Given as goal

abbrev pub ghost-make_record : goal.ghost-make_record
ghost-make_record g a = g.commons
