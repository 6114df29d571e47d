-- What stands under the type is written through, and else the buckets of a type with one policy are put there.
use Rattle.std.proofs.Common.{◌≡◌, ◌∙◌, sym, ap, subst, Some, None}
use Rattle.std.specs.Prelude.{cond, ◌&&◌, is_some, string_bytes, IfOk}
use Rattle.std.specs.Option.{option_copied_mut}
use Rattle.std.specs.BTreeMap.{get}
use Rattle.std.specs.Str.{bytes_eq}
use Rattle.values.specs.Names.{text_cmp}
use Rattle.scope_index.specs.Buckets.{policy_in_bucket, bucket_of, is_same_text}
use Rattle.scope_index.proofs.Filing.{turned_type, ok_turned, err_same}
use Rattle.scope_index.proofs.buckets.put_under.Goals as goal

pub returns-in-Some-clause-ok : goal.returns-in-Some-clause-ok
returns-in-Some-clause-ok c =
    let m = c.args.under.now in
    let w = c.put_named.new.named in
    let held : get text_cmp m c.args.uid.now.type_name ≡ Some c.in-Some.named.now =
    sym c.get_mut.ensures.value ∙ ap option_copied_mut c.in-Some.is in
    ok_turned c.put_named.result c.args.uid.now m (c.get_mut.follows.lender w) c.in-Some.named.now w held
    (λ t. ((c.get_mut.follows.holds w).3 (ap is_some held)).0 t) (string_bytes c.args.id) (Some c.args.policy) c.put_named.ensures.ok

pub returns-in-Some-clause-err : goal.returns-in-Some-clause-err
returns-in-Some-clause-err c =
    let m = c.args.under.now in
    let w = c.put_named.new.named in
    let held : get text_cmp m c.args.uid.now.type_name ≡ Some c.in-Some.named.now =
    sym c.get_mut.ensures.value ∙ ap option_copied_mut c.in-Some.is in
    err_same c.put_named.result c.args.uid.now m (c.get_mut.follows.lender w) c.in-Some.named.now w held
    (λ t. ((c.get_mut.follows.holds w).3 (ap is_some held)).0 t) c.put_named.ensures.err

pub returns-clause-ok : goal.returns-clause-ok
returns-clause-ok c =
    let m = c.args.under.now in
    let w = c.in_ok-named.named in
    let none : get text_cmp m c.args.uid.now.type_name ≡ None = sym c.get_mut.ensures.value ∙ ap option_copied_mut c.in_default.is in
    let copied : c.in_ok-named.type_name ≡ c.args.uid.now.type_name =
    subst (λ r. IfOk r (λ t. t ≡ c.args.uid.now.type_name)) c.in_ok-named.ensures.made c.copy.ensures in
    turned_type c.args.uid.now (string_bytes c.args.id) (Some c.args.policy) m c.insert.new.self w
    (λ t. subst (λ v. get text_cmp c.insert.new.self t ≡ cond (is_same_text v t) (Some w) (get text_cmp m t)) copied
    (c.in_ok-insert.ensures.updates.0 t
    ∙ ap (λ n. cond (is_same_text c.in_ok-named.type_name t) (Some w) (get text_cmp n t)) c.get_mut.follows.holds-at-none))
    (λ e q. ap (λ n. policy_in_bucket (get text_cmp n e) q) c.in_ok-named.ensures.kept ∙ c.in_ok-only.ensures e q
    ∙ ap (λ o. cond (is_same_text c.args.uid.now.id e && bytes_eq (string_bytes c.args.id) q) (Some c.args.policy) o)
    (sym (ap (λ o. policy_in_bucket (bucket_of o e) q) none)))
