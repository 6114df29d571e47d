use Rattle.std.proofs.Common.{drop}
use Rattle.schema.specs.inner.Making.{Places, AddsPrincipals}
use Rattle.schema.proofs.environments.add_principals.Given as goal

-- where those that are left are added too, all are
abbrev pub invariant-loop-principal : goal.invariant-loop-principal
invariant-loop-principal l = (last : Places) → AddsPrincipals l.action l.context l.resources (drop l.principal-index l.principals) l.places last → AddsPrincipals l.action l.context l.resources l.principals l.fn.places last
