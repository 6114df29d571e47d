use Rattle.std.proofs.Common.{◌++◌, ◌∙◌, ℕ, List, map, sym, ap, append-nil, string_bytes, encode_utf8_all}
use Rattle.std.proofs.lemmas.List.{map-id}
use Rattle.std.proofs.lemmas.Iterator.{YieldsList-from_chars, YieldsList-from_take}
use Rattle.std.proofs.lemmas.Iterator.Consumers.{YieldsList-at, YieldsList-end}
use Rattle.std.proofs.lemmas.Iterator.Adapters.{YieldsList-from_skip}
use Rattle.explanations.specs.inner.Segments.{drawn_char}
use Rattle.explanations.proofs.Joined.{mapped_more}
use Rattle.explanations.proofs.segments.push_chars.Goals as goal

pub loop-c-init : goal.loop-c-init
loop-c-init c = sym (append-nil (string_bytes c.args.out.now))

pub loop-c-preserved : goal.loop-c-preserved
loop-c-preserved c =
    mapped_more (drawn_char c.args.are_blank) c.loop-c.yielded c.in-Some.c c.drawn_for.result (string_bytes c.args.out.now) (string_bytes c.loop-c.out)
    (string_bytes c.push.new.self) c.loop-c.invariant c.drawn_for.ensures c.in_ok-push.ensures.bytes

pub returns : goal.returns
returns c =
    let all = YieldsList-from_chars c.args.text.now c.utf8.text c.chars.ensures.rest in
    let behind = YieldsList-from_skip c.args.skipped (YieldsList-at c.skip.ensures.source all) c.skip.ensures.count in
    let part = YieldsList-from_take c.args.count (YieldsList-at c.take-c-items.ensures.source behind) c.take-c-items.ensures.count in
    let items = YieldsList-at c.into_iter-c-iterator.ensures.into_iter_gives part in
    let end = YieldsList-end items c.loop-c.yielded c.loop-c.c-iterator c.loop-c.yielded_by c.next.result c.next.new.self c.in-None.is c.next.ensures.steps in
    c.loop-c.invariant
    ∙ ap (λ (l : List ℕ). string_bytes c.args.out.now ++ encode_utf8_all (map (drawn_char c.args.are_blank) l)) (sym (map-id c.loop-c.yielded) ∙ end.0)
