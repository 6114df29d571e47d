use Rattle.entity_uids.proofs.names.read_text.Goals as goal

pub returns-in_ok-refused-in-Err : goal.returns-in_ok-refused-in-Err
returns-in_ok-refused-in-Err c = λ uid is.
    c.texts_have_one_reading.ensures.uid.not_both c.args.text.now uid c.in-Err.fault is
    (c.in-Err.ensures.refused c.in_ok-refused-in-Err.ensures)
