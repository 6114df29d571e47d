-- Defines the literal that a borrowed literal represents.
use Rattle.grammar_core.specs.declared.leaf.Literal.{Literal}
use Rattle.grammar_core.specs.declared.leaf.Literal.TheVariants as literal
use Rattle.type_checker.specs.declared.literals.LiteralRef.{LiteralRef}
use Rattle.type_checker.specs.declared.literals.LiteralRef.TheVariants.{Boolean, Long, Text, Entity}

-- `literal_of l` is the literal that the borrowed literal `l` of the code represents.
abbrev pub literal_of : LiteralRef → Literal
literal_of (Boolean b) = literal.Boolean b
literal_of (Long z) = literal.Long z
literal_of (Text t) = literal.Text t.now
literal_of (Entity u) = literal.Entity u.now
