-- Defines the value that an `Ownership` of the code contains, borrowed or owned.
use Rattle.values.specs.Values.{PlainValue}
use Rattle.evaluator.specs.declared.borrowed_or_owned.Ownership.{Ownership}
use Rattle.evaluator.specs.declared.borrowed_or_owned.Ownership.TheVariants.{Borrowed, Owned}

-- `of_ownership v` is the value that `v` contains.
abbrev pub of_ownership : Ownership → PlainValue
of_ownership (Borrowed v) = v
of_ownership (Owned v) = v
