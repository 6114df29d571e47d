use Rattle.schema_types.proofs.NameLemmas.{is_named, is_unnamed}
use Rattle.schema_types.proofs.types.read_type_name.Goals as goal

pub returns-in-Some : goal.returns-in-Some
returns-in-Some c =
    let named = rw c.in-Some.is at c.in_ok-name.ensures in
    is_named c.path_tests_are_exact.ensures.paths c.args.word.now c.in-Some.name named.0 named.1

pub returns-in-None : goal.returns-in-None
returns-in-None c other =
    let none = rw c.in-None.is at c.in_ok-name.ensures in
    is_unnamed c.path_tests_are_exact.ensures.paths c.args.word.now none
