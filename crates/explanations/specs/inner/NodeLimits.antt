-- Defines the number of nodes of a field's value.
use Rattle.grammar_core.specs.declared.expr.Expr.{Expr}
use Rattle.grammar_core.specs.declared.expr.Named.{Named}
use Rattle.grammar_core.specs.Size.{node_count}
use Rattle.std.specs.Prelude.{ℕ}

-- `named_count f` has the key of the record field `f`, and the number of nodes of the field's value.
abbrev pub named_count : Named Expr → Named ℕ
named_count f = record { name = f.name; value = node_count f.value }
