use Rattle.schema.proofs.reading.make_types.Given as goal

abbrev pub ghost-make_shapes : goal.ghost-make_shapes
ghost-make_shapes g a = g.commons

abbrev pub ghost-make_places : goal.ghost-make_places
ghost-make_places g a = g.commons
