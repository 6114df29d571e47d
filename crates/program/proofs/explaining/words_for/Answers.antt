use Rattle.program.proofs.CodeLemmas.{no_numeral, words_found}
use Rattle.program.proofs.explaining.words_for.Goals as goal

pub returns-in-Ok : goal.returns-in-Ok
returns-in-Ok c =
    words_found c.args.word.now c.in-Ok.code c.words_of.result c.in-Ok.ensures.value.0 c.words_of.ensures.found c.words_of.ensures.known

pub returns-in-Err : goal.returns-in-Err
returns-in-Err c = no_numeral c.args.word.now c.in-Err.ensures.value.0
