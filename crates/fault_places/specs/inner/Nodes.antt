-- Defines short names for the core nodes of a written form.
-- Source: Forms.antt.
use Rattle.std.specs.Prelude.{ℕ}
use Rattle.fault_places.specs.declared.forms.FormNode.{FormNode}
use Rattle.fault_places.specs.declared.forms.FormNode.TheVariants as part

-- `Node` is the type of nodes of a written form.
abbrev pub Node : Type 0
Node = FormNode

-- `Whole` is the node of the whole form; `First n` is that of a chain's first operand with `n` further pieces; `Test`
-- is `e is T` of `e is T in f`; `Inner` is `e in f` of that form, or what `!` negates in `!=`, `>` and `>=`.
abbrev pub Whole : Node
Whole = part.Whole

abbrev pub First : ℕ → Node
First n = part.First n

abbrev pub Test : Node
Test = part.Test

abbrev pub Inner : Node
Inner = part.Inner
