-- Defines the contract of a closure that parses expressions of at most a given number of levels of nesting.
use Rattle.std.specs.Prelude.{ℕ, Result}
use Rattle.std.specs.declared.alloc.Global.{Global}
use denote.Ref.{MutBor}
use Rattle.grammar_syntax.specs.declared.cursor.Cursor.{Cursor}
use Rattle.grammar_syntax.specs.declared.tree.ExprTree.{ExprTree}
use Rattle.grammar_syntax.specs.declared.fault.StopCause.{StopCause}
use Rattle.grammar_syntax.specs.ParsesTo.{ParsesTo}
use Rattle.grammar_parsing.specs.inner.Reading.{expr}

-- `Nests levels pre post` holds if a closure with the precondition `pre` and the postcondition `post` may always be
-- called with `levels`, and then parses as `expr levels`, or returns `NoMemory`.
pub record Nests (levels : ℕ) (pre : Global → MutBor Cursor → ℕ → Type 0)
    (post : Global → MutBor Cursor → ℕ → Result ExprTree StopCause → MutBor Cursor → Type 0) : Type 0 where
  pub callable : (alloc : Global) (old : MutBor Cursor) → pre alloc old levels
  pub reads : (alloc : Global) (old new : MutBor Cursor) (r : Result ExprTree StopCause) → post alloc old levels r new
      → ParsesTo (expr levels old.now.rest.now) r new.now.rest.now
