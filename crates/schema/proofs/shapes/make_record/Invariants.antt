use Rattle.schema.proofs.shapes.make_record.Given as goal

abbrev pub ghost-write_whole : goal.ghost-write_whole
ghost-write_whole g a = g.commons
