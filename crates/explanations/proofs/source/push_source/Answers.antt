use Rattle.std.proofs.Common.{◌≡◌, ℕ, List, ◌++◌, append_assoc, ap, refl, string_bytes}
use Rattle.explanations.specs.ExplanationText.{says_line, place_text, rest_text, source_text}
use Rattle.explanations.proofs.Appending.{on_ok}
use Rattle.explanations.proofs.source.push_source.Goals as goal

in_one : (a b c d o p q : List ℕ) → o ≡ a ++ b → p ≡ o ++ c → q ≡ p ++ d → q ≡ a ++ ((b ++ c) ++ d)
in_one a b c d o p q first second third = rw third rw second rw first (simp append_assoc refl)

pub returns : goal.returns
returns c =
    let finding = c.args.finding.now in
    let place = c.place_of-place.result in
    let end = c.place_of-end.result in
    let span = c.span_to-span.result in
    let says = c.says_and_advice.result.0.now in
    let advice = c.says_and_advice.result.1.now in
    on_ok c.push_rest.result c.push_rest.ensures (λ last. (
      source_text c.args.file.now c.args.text.now finding says advice place span,
      record {
        says = says;
        advice = advice;
        words = c.says_and_advice.ensures.words;
        clean = c.says_and_advice.ensures.clean;
        place = place;
        end = end;
        begins = c.place_of-place.ensures;
        ends = c.place_of-end.ensures;
        is = ap (source_text c.args.file.now c.args.text.now finding says advice place) c.span_to-span.ensures;
      },
      in_one (string_bytes c.args.out.now) (says_line finding.code says finding.cause.now) (place_text c.args.file.now c.args.text.now place span)
          (rest_text finding advice) (string_bytes c.push_says.new.out) (string_bytes c.push_excerpt.new.out) (string_bytes c.push_rest.new.out)
          c.in_ok-push_says.ensures c.in_ok-push_excerpt.ensures last,
    ))
