use Rattle.weirbowl.proofs.opening.site_name_of.Goals as goal

pub returns-in-Err : goal.returns-in-Err
returns-in-Err c = λ named. c.in-Err.ensures.cases.0 (c.site_names_are_recognized.ensures.texts c.args.bytes.now named)
