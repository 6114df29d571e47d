use Rattle.std.proofs.Common.{List, ℕ, arith, ap, subst, sym, ◌∙◌}
use Rattle.std.specs.Char.{IsScalar}
use Rattle.grammar_syntax.specs.Lexing.{hex_after}
use Rattle.grammar_syntax.proofs.EscapeTells.{no_long_at, long_at}
use Rattle.grammar_syntax.proofs.quoted.long_escape.Goals as goal

pub returns-then-len-eq0 : goal.returns-then-len-eq0
returns-then-len-eq0 c = no_long_at _ _ _ _ c.in_ok-brace.ensures.cases.0 c.hex_len-len.ensures.is
    (λ digits more q a z s. omega (arith, q.count, a, c.if-len-eq0.true))

pub returns-then-len-gt6 : goal.returns-then-len-gt6
returns-then-len-gt6 c = no_long_at _ _ _ _ c.in_ok-brace.ensures.cases.0 c.hex_len-len.ensures.is
    (λ digits more q a z s. omega (arith, q.count, z, c.if-len-gt6.true))

pub returns-then-len-rest : goal.returns-then-len-rest
returns-then-len-rest c = no_long_at _ _ _ _ c.in_ok-brace.ensures.cases.0 c.hex_len-len.ensures.is
    (λ digits more q a z s. omega (arith, q.inside))

pub returns-then-rest-len-ne125 : goal.returns-then-rest-len-ne125
returns-then-rest-len-ne125 c = no_long_at _ _ _ _ c.in_ok-brace.ensures.cases.0 c.hex_len-len.ensures.is
    (λ digits more q a z s. c.if-rest-len-ne125.true (q.brace 0))

pub returns-in_default : goal.returns-in_default
returns-in_default c = no_long_at _ _ _ _ c.in_ok-brace.ensures.cases.0 c.hex_len-len.ensures.is
    (λ digits more q a z s. c.in_default.ensures.value
    (subst IsScalar (sym (c.hex_number.ensures ∙ ap (λ (x : List ℕ). hex_after 0 x) q.digits_are)) s))

pub returns : goal.returns
returns c =
    let scalar = c.in-Some.ensures.value in
    let none = c.if-len-eq0.false in
    long_at _ _ _ _ _ c.in_ok-brace.ensures.cases.0 c.if-brace-ne123.false c.hex_len-len.ensures.is (omega arith) c.if-rest-len-ne125.false (omega arith) (omega arith)
    (scalar.1 ∙ c.hex_number.ensures) (subst IsScalar (sym scalar.1) scalar.0)
