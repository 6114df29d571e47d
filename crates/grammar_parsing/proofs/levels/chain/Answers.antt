use Rattle.std.proofs.Common.{sym}
use Rattle.grammar_parsing.proofs.Unfollowed.{unfollowed}
use Rattle.grammar_parsing.proofs.levels.chain.Goals as goal

pub returns-then-not-sees_one_of : goal.returns-then-not-sees_one_of
returns-then-not-sees_one_of g c =
    unfollowed (g.S.KindSet.included c.args.set) (g.L.Level.pieces c.args.level.now) g.L.Level.joins c.args.first
    c.args.tokens.now.rest.now (sym c.if-not-sees_one_of.ensures)
