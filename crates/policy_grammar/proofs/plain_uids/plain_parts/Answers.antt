use Rattle.std.proofs.Common.{◌≡◌, arith, length, Some, false, lit<}
use Rattle.std.proofs.lemmas.Bool.Decides.{nat_tests}
use Rattle.std.proofs.lemmas.Str.Pattern.{split_parts, strip_suffix_char, contains_char}
use Rattle.policy_grammar.proofs.Plainly.{all_plain, parts}
use Rattle.policy_grammar.proofs.plain_uids.plain_parts.Goals as goal

pub returns : goal.returns
returns c =
    let front = split_parts 34 c.args.text.now (Some (c.in_ok-front.front, c.in_ok-front.behind)) c.in_ok-front.ensures.cases (lit< tt) in
    let one = strip_suffix_char 58 c.in_ok-front.front.now (Some c.in_ok-strip_suffix.field-0) c.in_ok-strip_suffix.ensures.cases (lit< tt) in
    let name = strip_suffix_char 58 c.in_ok-strip_suffix.field-0.now (Some c.in_ok-name.name) c.in_ok-name.ensures.cases (lit< tt) in
    let id = split_parts 34 c.in_ok-front.behind.now (Some (c.in_ok-id.id, c.in_ok-id.rest)) c.in_ok-id.ensures.cases (lit< tt) in
    let slashes = contains_char 92 c.in_ok-id.id.now false c.if-contains.ensures.cases (lit< tt) in
    let none : length c.in_ok-id.rest.now ≡ 0 = grind (arith, nat_tests, c.is_empty.ensures, c.if-not-is_empty.ensures, c.if-not-is_empty.false) in
    parts c.args.text.now c.in_ok-front.front.now c.in_ok-front.behind.now c.in_ok-strip_suffix.field-0.now c.in_ok-name.name.now c.in_ok-id.id.now c.in_ok-id.rest.now front.0 one name id.0 none
    (all_plain c.in_ok-id.id.now id.1 (λ i below is. absurd (let never = slashes.1 i below is in cc)))
