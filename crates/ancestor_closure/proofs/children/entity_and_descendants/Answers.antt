use Rattle.std.proofs.Common.{◌≡◌, ◌∙◌, ap, sym, subst, inl, inr}
use Rattle.std.specs.Prelude.{Contains, ◌⊎◌, ◌↔◌}
use Rattle.std.specs.BTreeSet.{insert_key}
use Rattle.std.proofs.lemmas.Result.{IfOk-weaker}
use Rattle.values.specs.declared.entity_uid.EntityUid.{EntityUid}
use Rattle.values.specs.Names.{uid_cmp, uid_cmp-IsAntisymmetric}
use Rattle.ancestor_search.specs.Hierarchy.{IsAncestor, referenced}
use Rattle.ancestor_search.proofs.Members.{referenced-insert_key, insert_key-kept, insert_key-from, insert_key-here}
use Rattle.ancestor_closure.specs.Lists.{children_in}
use Rattle.ancestor_closure.proofs.children.entity_and_descendants.Goals as goal

pub returns : goal.returns
returns c =
    let below = referenced c.in_ok-found.found.keys in
    let u = c.args.uid.now in
    let inserted : referenced c.insert.new.self.keys ≡ insert_key uid_cmp below u = ap referenced c.in_ok-insert.ensures.keys ∙ referenced-insert_key c.in_ok-found.found.keys _ in
    let all : referenced c.deref.result.now ≡ insert_key uid_cmp below u = ap referenced c.deref.ensures.value ∙ c.in_ok-found-2.ensures.same ∙ inserted in
    IfOk-weaker c.shared_all.result (λ v. v.items ≡ referenced c.deref.result.now) (λ v. (q : EntityUid) → Contains v.items q ↔ ((u ≡ q) ⊎ IsAncestor (children_in c.args.relatives.now) q u)) (λ v e q.
    let is : v.items ≡ insert_key uid_cmp below u = e ∙ all in (
      λ h. elim (insert_key-from uid_cmp below u q (subst (λ l. Contains l q) is h)) [
        | inl t ↦ inr ((c.in_ok-found.ensures q).0 t)
        | inr same ↦ inl same
      ],
      λ h. subst (λ l. Contains l q) (sym is) (elim h [
        | inl same ↦ subst (λ z. Contains (insert_key uid_cmp below u) z) same (insert_key-here uid_cmp uid_cmp-IsAntisymmetric below u)
        | inr above ↦ insert_key-kept uid_cmp below u q ((c.in_ok-found.ensures q).1 above)
      ]),
    )) c.shared_all.ensures
