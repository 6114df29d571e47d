use Rattle.std.proofs.Common.{take}
use Rattle.entity_hierarchy.specs.schema.Views.{schema_view}
use Rattle.schema_decisions.specs.Checks.{AreReportsOf}
use Rattle.schema_decisions.specs.inner.Named.{named_in}
use Rattle.schema_decisions.proofs.checking.check_each.Given as goal

-- the lines so far
abbrev pub invariant-loop-place : goal.invariant-loop-place
invariant-loop-place l = AreReportsOf (schema_view l.schema) (named_in (take l.place l.policies)) l.text.items l.some_refused
