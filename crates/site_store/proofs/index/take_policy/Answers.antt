use Rattle.std.proofs.Common.{◌⊎◌, ◌≡◌, None, List, subst}
use Rattle.std.specs.Prelude.{ℕ}
use Rattle.stamped_store.specs.JoinMaps.{value_at_text}
use Rattle.site_store.specs.Winning.{StoredWins}
use Rattle.site_store.proofs.Unchanged.{index_stays}
use Rattle.site_store.proofs.index.take_policy.Goals as goal

pub returns-then-needs_nothing-clause-indexed : goal.returns-then-needs_nothing-clause-indexed
returns-then-needs_nothing-clause-indexed g c =
    index_stays c.take_policy.result c.take_policy.new.self c.args.store.now c.args.id c.args.entry
    c.take_policy.ensures.kept c.take_policy.ensures.err c.args.index.now
    (subst (λ (b : List ℕ). (c.args.index.now ≡ None) ⊎ StoredWins (value_at_text c.args.store.now.policies b) c.args.entry)
    c.as_str.ensures.value (c.needs_nothing.ensures c.if-needs_nothing.true)) c.requires
