use Rattle.std.proofs.Common.{◌≡◌, ◌∙◌, sym, ap, subst, Some, None}
use Rattle.std.specs.Prelude.{cond, ◌&&◌, is_some}
use Rattle.std.specs.Option.{option_copied_mut}
use Rattle.std.specs.BTreeMap.{get}
use Rattle.std.specs.Str.{bytes_eq}
use Rattle.values.specs.Names.{text_cmp}
use Rattle.scope_index.specs.Buckets.{policy_in_bucket, bucket_of, is_same_text, IsSetAtUid}
use Rattle.scope_index.proofs.Filing.{turned_type, nothing_of_type}
use Rattle.scope_index.proofs.buckets.remove_from_type.Goals as goal

pub returns-in-Some-clause-turns : goal.returns-in-Some-clause-turns
returns-in-Some-clause-turns c =
    let m = c.args.under.now in
    let w = c.take_named.new.named in
    let held : get text_cmp m c.args.uid.now.type_name ≡ Some c.in-Some.named.now =
    sym c.get_mut.ensures.value ∙ ap option_copied_mut c.in-Some.is in
    turned_type c.args.uid.now c.args.id.now None m (c.get_mut.follows.lender w) w
    (λ t. ((c.get_mut.follows.holds w).3 (ap is_some held)).0 t)
    (λ e q. c.take_named.ensures e q
    ∙ ap (λ o. cond (is_same_text c.args.uid.now.id e && bytes_eq c.args.id.now q) None (policy_in_bucket (bucket_of o e) q)) (sym held))

pub returns-in-None-clause-turns : goal.returns-in-None-clause-turns
returns-in-None-clause-turns c =
    let m = c.args.under.now in
    let none : get text_cmp m c.args.uid.now.type_name ≡ None = sym c.get_mut.ensures.value ∙ ap option_copied_mut c.in-None.is in
    subst (λ n. IsSetAtUid c.args.uid.now c.args.id.now None m n) (sym c.get_mut.follows.holds-at-none)
    (nothing_of_type c.args.uid.now c.args.id.now m none)
