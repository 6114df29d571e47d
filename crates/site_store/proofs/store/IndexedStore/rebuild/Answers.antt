use Rattle.site_store.proofs.Standing.{as_lent, as_held}
use Rattle.site_store.proofs.store.IndexedStore.rebuild.Goals as goal

pub rebuild_absent-requires : goal.rebuild_absent-requires
rebuild_absent-requires c = as_lent c.self.inside.schema c.deref.result.now c.deref.ensures c.self.inside.store c.self.inside.index
    c.self.inside.ancestors c.self.invariant

pub invariant_of-self : goal.invariant_of-self
invariant_of-self c = as_held c.self.inside.schema c.deref.result.now c.deref.ensures c.self.inside.store c.rebuild_absent.new.index
    c.rebuild_absent.new.ancestors c.rebuild_absent.ensures
