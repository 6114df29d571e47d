use Rattle.grammar_parsing.proofs.primary.Reader.+signed.Given as goal

abbrev pub decreases-signed : goal.decreases-signed
decreases-signed g l = l.most
