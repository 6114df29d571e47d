use Rattle.std.proofs.Common.{◌≡◌, ℕ, ◌-◌, List, [], Option, Some, None, Bor, refl, ap, ◌∙◌}
use Rattle.std.specs.Option.{unwrap_or, option_map}
use Rattle.std.specs.Str.Lines.{lines}
use Rattle.std.proofs.lemmas.Option.{unwrap_or-slice_get}
use Rattle.std.proofs.lemmas.Iterator.Splits.{YieldsList-from_lines}
use Rattle.std.proofs.lemmas.Iterator.Consumers.{nth_from_yields_List}
use Rattle.explanations.proofs.places.line_at.Goals as goal

now-unwrap_or : (o : Option (Bor (List ℕ))) (other : Bor (List ℕ))
    → (unwrap_or o other).now ≡ unwrap_or (option_map (λ x. x.now) o) other.now
now-unwrap_or None other = refl
now-unwrap_or (Some x) other = refl

pub returns : goal.returns
returns c =
    let found = nth_from_yields_List c.nth.result _ _ c.nth.ensures.ran (YieldsList-from_lines c.args.text.now c.lines.ensures.rest) in
    ap (λ x. x.now) c.unwrap_or.ensures ∙ now-unwrap_or c.nth.result _ ∙ ap (λ o. unwrap_or o []) found
    ∙ rw c.saturating_sub.ensures (unwrap_or-slice_get (lines c.args.text.now) (c.args.line - 1) [])
