use Rattle.std.proofs.Common.{◌∙◌, ◌||◌, List, ap, sym}
use Rattle.std.proofs.lemmas.List.Sorted.{list_any-IsPermutation}
use Rattle.schema.specs.Spans.{in_span, has_number}
use Rattle.schema.specs.declared.spans.NumberSpan.{NumberSpan}
use Rattle.schema.proofs.spans.joined.Goals as goal

pub loop-span-init : goal.loop-span-init
loop-span-init c = λ n.
    let left = c.deref-span-items.result.now in
    ap (λ (ss : List NumberSpan). has_number ss n || has_number left n) c.new-found.ensures.items
    ∙ ap (λ (ss : List NumberSpan). has_number ss n) c.deref-span-items.ensures.value
    ∙ sym (list_any-IsPermutation (λ s. in_span n s) _ _ c.sort_unstable.ensures.permutation)
