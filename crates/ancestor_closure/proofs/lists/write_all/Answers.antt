use Rattle.std.proofs.Common.{◌≡◌, ◌∙◌, refl, subst, cond, sym}
use Rattle.values.specs.declared.entity_uid.EntityUid.{EntityUid}
use Rattle.ancestor_search.specs.Decided.{is_same}
use Rattle.ancestor_closure.specs.Lists.{ancestors_in, HasEntry}
use Rattle.ancestor_closure.proofs.Written.{Writing-step, Writing-last}
use Rattle.ancestor_closure.proofs.lists.write_all.Goals as goal

pub loop-entity-init : goal.loop-entity-init
loop-entity-init c = record { writing = record { known = c.requires; same = λ q. refl }; children = λ q. refl }

pub write_list-requires : goal.write_list-requires
write_list-requires c =
    subst (λ z. HasEntry c.loop-entity.relatives z) (sym c.deref.ensures)
    (Writing-last c.loop-entity.relatives _ _ _ c.in-Some.entity c.in-Some.list c.loop-entity.invariant.writing c.in-Some.ensures.items)

pub loop-entity-preserved : goal.loop-entity-preserved
loop-entity-preserved c = record {
  writing = Writing-step c.loop-entity.relatives c.write_list.new.relatives _ _ _ c.in-Some.entity c.in-Some.list c.loop-entity.invariant.writing c.in-Some.ensures.items
      (subst (λ z. (q : EntityUid) → ancestors_in c.write_list.new.relatives q ≡ cond (is_same z q) c.in-Some.list.items (ancestors_in c.loop-entity.relatives q)) c.deref.ensures c.write_list.ensures.lists)
      c.write_list.ensures.stay;
  children = λ q. c.write_list.ensures.children q ∙ c.loop-entity.invariant.children q;
}
