use Rattle.std.proofs.Common.{None, Some, refl}
use Rattle.explanations.specs.CodeText.{texts_of}
use Rattle.explanations.proofs.FoundCodes.{words_so}
use Rattle.explanations.proofs.source.says_and_advice.Goals as goal

pub returns-in-Some-clause-words : goal.returns-in-Some-clause-words
returns-in-Some-clause-words c =
    let words = c.in-Some.words.now in
    words_so c.args.code (Some (texts_of words)) words.says.now words.advice.now c.in-Some.ensures.found (refl, refl)

pub returns-in-None-clause-words : goal.returns-in-None-clause-words
returns-in-None-clause-words c = words_so c.args.code None _ _ c.in-None.ensures.found (refl, refl)
