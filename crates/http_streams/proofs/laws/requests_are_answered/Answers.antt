use Rattle.std.proofs.Common.{subst}
use Rattle.connections.specs.Stories.{IsOneStream, story_at}
use Rattle.http_streams.proofs.TurnLemmas.{exchanged_all, pieces, turns_are_replied}
use Rattle.http_streams.proofs.laws.requests_are_answered.Goals as goal

pub returns-clause-turns : goal.returns-clause-turns
returns-clause-turns g c =
    turns_are_replied g.S.Answers.answers g.S.Service.lines g.S.Service.refusal_line g.S.Service.commits g.S.Service.commit_fails

pub returns-clause-quiet : goal.returns-clause-quiet
returns-clause-quiet g c entries table new old last free changes chain quiet at place found may =
    let whole = c.quiet_are_answered.ensures entries table new old last free changes chain quiet at place found may in
    let fits = c.stories_fit.ensures entries table new free changes at place found in
    let turns = (story_at at entries).turns in
    let replied = turns_are_replied g.S.Answers.answers g.S.Service.lines g.S.Service.refusal_line g.S.Service.commits g.S.Service.commit_fails entries old last at chain in
    record {
      exchanges = exchanged_all g.S.Answers.answers turns (subst (IsOneStream turns) may.lasts fits.one_stream) replied;
      came = fits.came;
      unfinished = whole.cut.unfinished;
      took = whole.took;
      goes_on = whole.goes_on;
    }

pub returns-clause-pieces : goal.returns-clause-pieces
returns-clause-pieces g c = pieces g.S.Answers.answers c.one_cut.ensures
