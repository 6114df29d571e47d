use Rattle.std.proofs.Common.{◌≡◌, ap, rules, arith}
use Rattle.std.proofs.lemmas.Grind.{common_steps}
use Rattle.grammar_parsing.specs.Expressions.{is_positive}
use Rattle.grammar_parsing.specs.inner.Reading as spec
use Rattle.grammar_parsing.specs.inner.Prefixes.{kind_of, under}
use Rattle.grammar_syntax.proofs.Gathered.{deeper, instead}
use Rattle.grammar_parsing.proofs.primary.Reader.+signed.Goals as goal

pub returns-then-most-eq0 : goal.returns-then-most-eq0
unfolding spec.signed
returns-then-most-eq0 g t c =
    let none : c.args.most ≡ 0 = omega arith in
    instead _ _ _ _ (ap (λ n. spec.signed (is_positive c.args.self.now.levels) (spec.expr c.args.self.now.levels) (kind_of c.args.sign) (under c.args.sign) n c.args.tokens.now.rest.now) none) c.member.ensures

pub returns-then-not-sees : goal.returns-then-not-sees
unfolding spec.signed
returns-then-not-sees g t c =
    let e = deeper (λ n. spec.signed (is_positive c.args.self.now.levels) (spec.expr c.args.self.now.levels) (kind_of c.args.sign) (under c.args.sign) n c.args.tokens.now.rest.now) c.args.most (omega arith) in
    first_of (search rules, grind (arith, common_steps))

pub returns-in_err-take : goal.returns-in_err-take
unfolding spec.signed
returns-in_err-take g t c =
    let e = deeper (λ n. spec.signed (is_positive c.args.self.now.levels) (spec.expr c.args.self.now.levels) (kind_of c.args.sign) (under c.args.sign) n c.args.tokens.now.rest.now) c.args.most (omega arith) in
    first_of (search rules, grind (arith, common_steps))

pub returns-in_err-x : goal.returns-in_err-x
unfolding spec.signed
returns-in_err-x g t c =
    let e = deeper (λ n. spec.signed (is_positive c.args.self.now.levels) (spec.expr c.args.self.now.levels) (kind_of c.args.sign) (under c.args.sign) n c.args.tokens.now.rest.now) c.args.most (omega arith) in
    first_of (search rules, grind (arith, common_steps))

pub returns : goal.returns
unfolding spec.signed
returns g t c =
    let e = deeper (λ n. spec.signed (is_positive c.args.self.now.levels) (spec.expr c.args.self.now.levels) (kind_of c.args.sign) (under c.args.sign) n c.args.tokens.now.rest.now) c.args.most (omega arith) in
    first_of (search rules, grind (arith, common_steps))
