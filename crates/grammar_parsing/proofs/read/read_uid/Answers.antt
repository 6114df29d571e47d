use Rattle.std.proofs.Common.{subst, sym}
use Rattle.grammar_syntax.specs.ParseResults.{Reads}
use Rattle.grammar_parsing.specs.Grammar as grammar
use Rattle.grammar_syntax.proofs.NamesExact.{uid_answered}
use Rattle.grammar_parsing.proofs.WellFormedLemmas.{uid_answer_stands}
use Rattle.grammar_parsing.proofs.read.read_uid.Goals as goal

pub returns-clause-reads : goal.returns-clause-reads
returns-clause-reads c =
    subst (Reads grammar.uid c.args.tokens.now) (sym c.read_to_end.ensures)
    (uid_answered c.args.tokens.now c.uid-read.new.tokens.rest.now c.uid-read.result c.uid-read.ensures.steps)

pub returns-clause-is_well_formed : goal.returns-clause-is_well_formed
returns-clause-is_well_formed c =
    uid_answer_stands c.args.tokens.now c.read_to_end.result
    (subst (Reads grammar.uid c.args.tokens.now) (sym c.read_to_end.ensures)
    (uid_answered c.args.tokens.now c.uid-read.new.tokens.rest.now c.uid-read.result c.uid-read.ensures.steps))
