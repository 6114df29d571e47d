use Rattle.std.proofs.Common.{◌≡◌, ◌∙◌, sym, ap, subst, Some, None}
use Rattle.std.specs.Prelude.{cond, is_some}
use Rattle.std.specs.Option.{option_copied_mut}
use Rattle.std.specs.BTreeMap.{get}
use Rattle.std.specs.Str.{bytes_eq}
use Rattle.std.proofs.lemmas.Map.Text.{btree_map_updates_text}
use Rattle.values.specs.Names.{text_cmp}
use Rattle.scope_index.specs.Buckets.{policy_in_bucket, IsSetAtId}
use Rattle.scope_index.proofs.Filing.{turned, nothing_there}
use Rattle.scope_index.proofs.buckets.remove_from_bucket.Goals as goal

pub returns-in-Some-clause-turns : goal.returns-in-Some-clause-turns
returns-in-Some-clause-turns c =
    let m = c.args.named.now in
    let w = c.remove.new.self in
    let held : get text_cmp m c.args.entity.now ≡ Some c.in-Some.bucket.now =
    sym c.get_mut.ensures.value ∙ ap option_copied_mut c.in-Some.is in
    turned c.args.entity.now c.args.id.now None m (c.get_mut.follows.lender w) w
    (λ u. ((c.get_mut.follows.holds w).3 (ap is_some held)).0 u)
    (λ q. btree_map_updates_text c.args.id.now c.in-Some.bucket.now w None c.remove.ensures.updates q
    ∙ ap (λ o. cond (bytes_eq c.args.id.now q) None (policy_in_bucket o q)) (sym held))

pub returns-in-None-clause-turns : goal.returns-in-None-clause-turns
returns-in-None-clause-turns c =
    let m = c.args.named.now in
    let none : get text_cmp m c.args.entity.now ≡ None = sym c.get_mut.ensures.value ∙ ap option_copied_mut c.in-None.is in
    subst (λ n. IsSetAtId c.args.entity.now c.args.id.now None m n) (sym c.get_mut.follows.holds-at-none)
    (nothing_there c.args.entity.now c.args.id.now m none)
