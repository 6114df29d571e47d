use Rattle.evaluator.proofs.Agreeing as lemmas
use Rattle.evaluator.proofs.laws.meaning_is_outcome.Goals as goal

pub returns : goal.returns
returns c = lemmas.meaning_is_outcome (record {
  decimals = c.decimal_is_unique.ensures;
  networks = c.network_is_unique.ensures;
  made = c.sets_hold_their_members.ensures.made;
  one = c.sets_hold_their_members.ensures.one;
  told = c.sets_hold_their_members.ensures.told;
})
