use Rattle.stamped_store.proofs.SiteWords.{first_tells, second_tells, third_tells, fourth_tells}
use Rattle.stamped_store.proofs.site_name.SiteNameOrd.cmp.Goals as goal

pub returns-then-is_ne : goal.returns-then-is_ne
returns-then-is_ne c = first_tells c.word_cmp-first.ensures.named c.word_cmp-first.ensures.ordered c.if-is_ne.ensures

pub returns-then-is_ne-2 : goal.returns-then-is_ne-2
returns-then-is_ne-2 c = second_tells c.word_cmp-first.ensures.named c.word_cmp-first.ensures.ordered c.if-is_ne.ensures
    c.word_cmp-second.ensures.ordered c.if-is_ne-2.ensures

pub returns-then-is_ne-3 : goal.returns-then-is_ne-3
returns-then-is_ne-3 c = third_tells c.word_cmp-first.ensures.named c.word_cmp-first.ensures.ordered c.if-is_ne.ensures
    c.word_cmp-second.ensures.ordered c.if-is_ne-2.ensures c.word_cmp-third.ensures.ordered c.if-is_ne-3.ensures

pub returns : goal.returns
returns c = fourth_tells c.word_cmp-first.ensures.named c.word_cmp-first.ensures.ordered c.if-is_ne.ensures
    c.word_cmp-second.ensures.ordered c.if-is_ne-2.ensures c.word_cmp-third.ensures.ordered c.if-is_ne-3.ensures
    c.word_cmp.ensures.ordered
