use Rattle.std.proofs.Common.{inl, inr, refl, ◌∙◌, ap}
use Rattle.std.specs.Option.{option_and_then}
use Rattle.fault_places.specs.Spans.{covering}
use Rattle.fault_places.proofs.spans.span_in.Goals as goal

pub returns-in-Ok : goal.returns-in-Ok
returns-in-Ok c =
    inl (record {
      tree = c.in-Ok.tree;
      derives = c.in-Ok.ensures.derives;
      tokens = c.args.tokens.now;
      lexed = c.requires;
      covers = c.covering-span.ensures ∙ ap (option_and_then covering) c.chosen.ensures;
    })

pub returns-in_default : goal.returns-in_default
returns-in_default c = inr ((c.in-Err.fault, c.in-Err.ensures.err c.in_default.not-NoMemory), refl)
