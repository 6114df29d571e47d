use Rattle.std.proofs.Common.{string_bytes, ◌∙◌, ◌++◌, ap}
use Rattle.fault_places.proofs.Appending.{appended_last}
use Rattle.fault_places.proofs.NameLists.{one_named, comma_behind, none_named, named_to_end}
use Rattle.fault_places.proofs.wording.push_list.Goals as goal

pub returns-then-is_empty : goal.returns-then-is_empty
returns-then-is_empty g c =
    let old = string_bytes c.args.out.now in
    appended_last c.push_str.result old c.args.empty.now (string_bytes c.push_str.new.self) c.push_str.ensures.bytes
    (λ e. e ∙ ap (λ l. old ++ l)
    (none_named g.T.Listed.words c.args.empty.now c.args.before.now c.args.items.now c.is_empty.result c.is_empty.ensures c.if-is_empty.true))

pub loop-item-preserved : goal.loop-item-preserved
loop-item-preserved g c = (
  one_named g.T.Listed.words c.args.before.now c.args.items.now c.loop-item.item-index c.item-item.result (string_bytes c.args.out.now)
      (string_bytes c.loop-item.out) (string_bytes c.push_str-in-loop-item.new.self) (string_bytes c.push_to.new.out) _ c.loop-item-test.true
      c.item-item.is c.loop-item.invariant.0 c.loop-item.invariant.1 c.in_ok-push_str.ensures.bytes c.in_ok-push_to.ensures,
  comma_behind g.T.Listed.words c.args.before.now c.args.items.now c.loop-item.item-index c.item-item.result c.loop-item-test.true c.item-item.is,
)

pub returns : goal.returns
returns g c =
    named_to_end g.T.Listed.words c.args.empty.now c.args.before.now c.args.items.now c.loop-item.item-index c.is_empty.result
    (string_bytes c.args.out.now) (string_bytes c.loop-item.out) c.is_empty.ensures c.if-is_empty.false c.loop-item-test.false
    c.loop-item.invariant.0
