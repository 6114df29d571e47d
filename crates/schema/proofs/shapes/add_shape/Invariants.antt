use Rattle.schema.proofs.shapes.add_shape.Given as goal

abbrev pub ghost-make_record : goal.ghost-make_record
ghost-make_record g a = g.commons
