use Rattle.std.proofs.Common.{List, Option, ◌∙◌, refl, sym, ap}
use Rattle.std.specs.Prelude.{option_map}
use Rattle.std.specs.Borrow.{Bor}
use Rattle.schema.specs.declared.spans.NumberSpan.{NumberSpan}
use Rattle.schema.proofs.NumberLemmas.{has_spans}
use Rattle.schema.proofs.numbering.add_reached.Goals as goal

pub returns : goal.returns
returns c = λ known. has_spans c.args.reached.now c.args.number c.args.spans.now.items c.push_single.new.spans.items c.extend_from_slice.new.self.items c.in-Some.further.now c.in-Some.further.now
    (sym c.reached_at.ensures ∙ ap (λ (o : Option (Bor (List NumberSpan))). option_map (λ s. s.now) o) c.in-Some.is) refl c.in_ok-push_single.ensures c.in_ok-extend_from_slice.ensures.items
