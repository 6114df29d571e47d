use Rattle.std.proofs.Common.{refl, arith}
use Rattle.std.proofs.lemmas.Result.{err_from_is_err_and}
use Rattle.serde_json.specs.View.{view}
use Rattle.json_words.specs.Arrays.{unread_members}
use Rattle.json_words.proofs.Readings.{value_told, fewer_left, end_told, not_json_told}
use Rattle.site.specs.SiteViews.{schema_of, store_in}
use Rattle.site_loading.specs.Puts.{entity_put}
use Rattle.site_loading.proofs.PutLemmas.{all_left, one_put, one_refused, all_put, none_put, accepts_same, refuses_same}
use Rattle.site_loading.proofs.PutLemmas.{same_on}
use Rattle.site_loading.proofs.entity_file.put_each.Goals as goal

pub members-init : goal.members-init
members-init c = record {
  same = (refl, refl);
  along = all_left (schema_of c.args.site.now) c.args.site.now.name (store_in c.args.site.now) (unread_members c.args.members.now);
  few = omega arith;
}

pub returns-in_err-put_entity-in-Value-clause-refused : goal.returns-in_err-put_entity-in-Value-clause-refused
returns-in_err-put_entity-in-Value-clause-refused c =
    let a = c.args.site.now in
    let l = c.members in
    let v = c.in-Value.value in
    let next = value_told _ v (unread_members l.members) (unread_members c.next.new.self) c.in-Value.is c.in_ok-value.ensures.told in
    let p = err_from_is_err_and c.from_residual-in_err-put_entity-in-Value.result c.from_residual-in_err-put_entity-in-Value.ensures.1 in
    rw (p.1, p.2) (one_refused (schema_of a) a.name (store_in a) (store_in l.site) (unread_members c.args.members.now) (unread_members l.members) (unread_members c.next.new.self) l.place (view v) c.in_err-put_entity-in-Value.field-0.0
    l.invariant.along next (refuses_same a l.site (entity_put (view v)) (store_in l.site) l.place c.in_err-put_entity-in-Value.field-0.0 l.invariant.same c.in_err-put_entity-in-Value.ensures.refused))

pub members-preserved : goal.members-preserved
members-preserved c =
    let a = c.args.site.now in
    let l = c.members in
    let d = c.put_entity.new.site in
    let v = c.in-Value.value in
    let next = value_told _ v (unread_members l.members) (unread_members c.next.new.self) c.in-Value.is c.in_ok-value.ensures.told in
    let less = fewer_left _ v _ _ c.in-Value.is c.in_ok-value.ensures.fewer in
    record {
      same = same_on a l.site d l.invariant.same c.put_entity.ensures.same;
      along = one_put (schema_of a) a.name (store_in a) (store_in l.site) (store_in d) (unread_members c.args.members.now) (unread_members l.members) (unread_members c.next.new.self) l.place (view v) l.invariant.along next
          (accepts_same a l.site (entity_put (view v)) (store_in l.site) (store_in d) l.invariant.same c.in_ok-put_entity-in-Value.ensures.accepted);
      few = omega (arith, less, l.invariant.few);
    }

pub members-smaller : goal.members-smaller
members-smaller c = fewer_left _ c.in-Value.value _ _ c.in-Value.is c.in_ok-value.ensures.fewer

pub overflow_add-place : goal.overflow_add-place
overflow_add-place c = omega (arith, c.members.invariant.few, c.requires.few, fewer_left _ c.in-Value.value _ _ c.in-Value.is c.in_ok-value.ensures.fewer)

pub returns-in-End-clause-accepted : goal.returns-in-End-clause-accepted
returns-in-End-clause-accepted c =
    let a = c.args.site.now in
    let l = c.members in
    all_put (schema_of a) a.name (store_in a) (store_in l.site) (unread_members c.args.members.now) (unread_members l.members) l.place l.invariant.along (end_told _ _ (unread_members c.next.new.self) c.in-End.is c.in_ok-value.ensures.told)

pub unreachable-requires : goal.unreachable-requires
unreachable-requires c =
    let a = c.args.site.now in
    let l = c.members in
    none_put (schema_of a) a.name (store_in a) (store_in l.site) (unread_members c.args.members.now) (unread_members l.members) l.place l.invariant.along
    (not_json_told _ _ (unread_members c.next.new.self) c.in-NotJson.is c.in_ok-value.ensures.told) c.requires.json.0 c.requires.json.1
