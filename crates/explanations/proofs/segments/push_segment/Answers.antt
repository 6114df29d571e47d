use Rattle.std.proofs.Common.{◌≡◌, string_bytes}
use Rattle.std.proofs.lemmas.Iterator.Adapters.{YieldsList-from_repeat_n, items_from_extend}
use Rattle.explanations.proofs.Joined.{on_pushed}
use Rattle.explanations.proofs.segments.push_segment.Goals as goal

pub returns-in-Text : goal.returns-in-Text
returns-in-Text c =
    rw c.in-Text.is (
    on_pushed c.push_str.result (string_bytes c.args.out.now) c.in-Text.text.now (string_bytes c.push_str.new.self) c.push_str.ensures.bytes (λ is. is))

pub returns-in-Shown : goal.returns-in-Shown
returns-in-Shown c = rw c.in-Shown.is c.push_chars.ensures

pub returns-in-Blanks : goal.returns-in-Blanks
returns-in-Blanks c = rw c.in-Blanks.is c.push_chars-in-Blanks.ensures

pub returns-in-Repeated : goal.returns-in-Repeated
returns-in-Repeated c =
    rw c.in-Repeated.is (
    items_from_extend c.extend.result c.extend.ensures.ran
    (YieldsList-from_repeat_n (λ x y. y ≡ x) c.in-Repeated.count c.in-Repeated.c c.repeat_n.ensures.count c.repeat_n.ensures.item (λ y e. e)))

pub returns-in-Index : goal.returns-in-Index
returns-in-Index c = rw c.in-Index.is c.push_index.ensures

pub returns-in-Framed : goal.returns-in-Framed
returns-in-Framed c = rw c.in-Framed.is c.push_framed.ensures
