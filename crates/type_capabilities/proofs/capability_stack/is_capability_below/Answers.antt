use Rattle.std.proofs.Common.{nat_lt, sym, ap, ◌∙◌, arith}
use Rattle.std.specs.Option.{option_copied}
use Rattle.std.proofs.lemmas.Bool.Decides.{nat_tests}
use Rattle.type_capabilities.specs.CapabilityList.{capability_of, capabilities}
use Rattle.type_capabilities.specs.Stacks.{place_of}
use Rattle.type_capabilities.proofs.Stacked.{below_iff, below_none}
use Rattle.type_capabilities.proofs.capability_stack.is_capability_below.Goals as goal

pub returns-then-at-height : goal.returns-then-at-height
returns-then-at-height c = λ f.
    below_iff c.args.height (capabilities c.args.stack.now) (λ p. place_of c.args.places.now p) (capability_of c.args.capability.now) c.in-Some.at.now
    c.is_capability_at.result (sym c.get.ensures.value ∙ ap option_copied c.in-Some.is)
    (λ t. (omega (arith, c.if-at-height.true), c.is_capability_at.ensures.0 t), λ g. c.is_capability_at.ensures.1 g.1) f

pub returns-else-at-height : goal.returns-else-at-height
returns-else-at-height c = λ f.
    below_iff c.args.height (capabilities c.args.stack.now) (λ p. place_of c.args.places.now p) (capability_of c.args.capability.now) c.in-Some.at.now
    (nat_lt c.in-Some.at.now c.args.height) (sym c.get.ensures.value ∙ ap option_copied c.in-Some.is)
    (λ t. absurd (grind (arith, nat_tests, t, c.if-at-height.false)), λ g. absurd (omega (arith, g.0, c.if-at-height.false))) f

pub returns-in-None : goal.returns-in-None
returns-in-None c = λ f.
    below_none c.args.height (capabilities c.args.stack.now) (λ p. place_of c.args.places.now p) (capability_of c.args.capability.now)
    (sym c.get.ensures.value ∙ ap option_copied c.in-None.is) f
