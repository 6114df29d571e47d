use Rattle.std.proofs.Common.{rules, ◌≡◌, ◌∙◌, ◌++◌, ◌∷◌, [], ℕ, List, string_bytes, sym, ap, append_assoc}
use Rattle.std.specs.Prelude.{encode_utf8_all}
use Rattle.std.specs.List.{flat_map}
use Rattle.std.proofs.lemmas.List.{map-id, append-nil}
use Rattle.std.proofs.lemmas.Grind.{flat_map-append}
use Rattle.std.proofs.lemmas.Str.{encodes-append}
use Rattle.std.proofs.lemmas.Iterator.{YieldsList-from_chars}
use Rattle.std.proofs.lemmas.Iterator.Consumers.{YieldsList-end}
use Rattle.explanations.specs.Pointers.{escaped_char}
use Rattle.explanations.proofs.pointers.push_key.Goals as goal

-- what stands for one character more
more : (cs : List ℕ) (c : ℕ) → encode_utf8_all (flat_map escaped_char (cs ++ c ∷ [])) ≡ encode_utf8_all (flat_map escaped_char cs) ++ encode_utf8_all (escaped_char c)
more cs c =
    ap encode_utf8_all (flat_map-append escaped_char cs (c ∷ []) ∙ ap (λ (l : List ℕ). flat_map escaped_char cs ++ l) (append-nil (escaped_char c)))
    ∙ encodes-append (flat_map escaped_char cs) (escaped_char c)

pub loop-c-preserved : goal.loop-c-preserved
loop-c-preserved c =
    c.in-Ok.ensures
    ∙ ap (λ (l : List ℕ). l ++ encode_utf8_all (escaped_char c.in-Some.c)) c.loop-c.invariant
    ∙ append_assoc (string_bytes c.args.out.now) _ _
    ∙ ap (λ (l : List ℕ). string_bytes c.args.out.now ++ l) (sym (more c.loop-c.yielded c.in-Some.c))

pub returns : goal.returns
returns c =
    let road = YieldsList-from_chars {s = c.into_iter-c-iterator.result} c.args.key.now (search rules) cc in
    let end = YieldsList-end road c.loop-c.yielded c.loop-c.c-iterator c.loop-c.yielded_by c.next.result c.next.new.self c.in-None.is c.next.ensures.steps in
    c.loop-c.invariant ∙ ap (λ (cs : List ℕ). string_bytes c.args.out.now ++ encode_utf8_all (flat_map escaped_char cs)) (sym (map-id c.loop-c.yielded) ∙ end.0)
