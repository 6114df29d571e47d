-- What stands under the entity is written through, and else a bucket of one policy is put there.
use Rattle.std.proofs.Common.{◌≡◌, ◌∙◌, sym, ap, subst, Some, None}
use Rattle.std.specs.Prelude.{cond, is_some, string_bytes, IfOk}
use Rattle.std.specs.Option.{option_copied_mut}
use Rattle.std.specs.BTreeMap.{get}
use Rattle.std.specs.Str.{bytes_eq}
use Rattle.std.proofs.lemmas.Map.Text.{btree_map_updates_text}
use Rattle.values.specs.Names.{text_cmp}
use Rattle.scope_index.specs.Keys.{kept_at}
use Rattle.scope_index.specs.Buckets.{policy_in_bucket, is_same_text, AreSameTypeBuckets}
use Rattle.scope_index.proofs.Filing.{turned, same_written, on_err}
use Rattle.scope_index.proofs.buckets.put_named.Goals as goal

pub returns-in_err-insert-clause-err : goal.returns-in_err-insert-clause-err
returns-in_err-insert-clause-err c =
    let m = c.args.named.now in
    let w = c.insert.new.self in
    let held : get text_cmp m c.args.entity.now ≡ Some c.in-Some.bucket.now =
    sym c.get_mut.ensures.value ∙ ap option_copied_mut c.in-Some.is in
    on_err c.from_residual.result (AreSameTypeBuckets m (c.get_mut.follows.lender w))
    (same_written c.args.entity.now m (c.get_mut.follows.lender w) w
    (λ u. ((c.get_mut.follows.holds w).3 (ap is_some held)).0 u)
    (λ q. ap (λ es. kept_at es q) c.in_err-insert.ensures.err ∙ sym (ap (λ o. policy_in_bucket o q) held)))

pub returns-in-Some-clause-ok : goal.returns-in-Some-clause-ok
returns-in-Some-clause-ok c =
    let m = c.args.named.now in
    let w = c.insert.new.self in
    let held : get text_cmp m c.args.entity.now ≡ Some c.in-Some.bucket.now =
    sym c.get_mut.ensures.value ∙ ap option_copied_mut c.in-Some.is in
    turned c.args.entity.now (string_bytes c.args.id) (Some c.args.policy) m (c.get_mut.follows.lender w) w
    (λ u. ((c.get_mut.follows.holds w).3 (ap is_some held)).0 u)
    (λ q. btree_map_updates_text (string_bytes c.args.id) c.in-Some.bucket.now w (Some c.args.policy) c.in_ok-insert.ensures.updates q
    ∙ ap (λ o. cond (bytes_eq (string_bytes c.args.id) q) (Some c.args.policy) (policy_in_bucket o q)) (sym held))

pub returns-clause-ok : goal.returns-clause-ok
returns-clause-ok c =
    let m = c.args.named.now in
    let w = c.in_ok-bucket.bucket in
    let none : get text_cmp m c.args.entity.now ≡ None = sym c.get_mut.ensures.value ∙ ap option_copied_mut c.in_default.is in
    let copied : c.in_ok-bucket.entity ≡ c.args.entity.now = subst (λ r. IfOk r (λ u. u ≡ c.args.entity.now)) c.in_ok-bucket.ensures.made c.copy.ensures in
    turned c.args.entity.now (string_bytes c.args.id) (Some c.args.policy) m c.insert-2.new.self w
    (λ u. subst (λ v. get text_cmp c.insert-2.new.self u ≡ cond (is_same_text v u) (Some w) (get text_cmp m u)) copied
    (c.in_ok-insert-2.ensures.updates.0 u
    ∙ ap (λ n. cond (is_same_text c.in_ok-bucket.entity u) (Some w) (get text_cmp n u)) c.get_mut.follows.holds-at-none))
    (λ q. ap (λ b. kept_at b.entries q) c.in_ok-bucket.ensures.kept ∙ c.in_ok-alone.ensures q
    ∙ ap (λ o. cond (bytes_eq (string_bytes c.args.id) q) (Some c.args.policy) o) (sym (ap (λ o. policy_in_bucket o q) none)))
