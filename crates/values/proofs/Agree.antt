-- The derived order of names is the stated one: what `Ord` gives of a key's type is, in proofs, the function of specs/Names.
use Rattle.std.specs.Prelude.{◌≡◌, ◌↔◌, ℕ, List, Bool, true, false, ◌&&◌, IsTrue, refl}
use Rattle.std.specs.Ordering.{is_eq}
use Rattle.std.proofs.Common.{ap}
use Rattle.values.specs.declared.entity_uid.EntityUid.{EntityUid}
use Rattle.values.specs.declared.name.Name.{Name}
use Rattle.values.specs.declared.name.Name.TheVariants.{Policy, Entity}
use Rattle.values.specs.contracts.entity_uid.EntityUidOrd.TheImpl as uid_ord
use Rattle.values.specs.contracts.name.NameOrd.TheImpl as name_ord
use Rattle.values.specs.contracts.entity_uid.EntityUidPartialEq.TheImpl as uid_eq
use Rattle.values.specs.contracts.name.NamePartialEq.TheImpl as name_eq
use Rattle.values.specs.contracts.request.RequestPartialEq.TheImpl as request_eq
use Rattle.values.specs.declared.request.Request.{Request}
use Rattle.values.specs.Values.{PlainValue}
use Rattle.values.specs.ValueOrder.{record_cmp, record_cmp-IsTotalOrder, record_cmp-IsAntisymmetric}
use Rattle.values.specs.Uids.{equal-is}
use Rattle.values.specs.Names.{text_cmp, uid_cmp, name_cmp, text_cmp-IsTotalOrder, text_cmp-IsAntisymmetric}

pub uid_ord-is : (a b : EntityUid) → (uid_ord.cmp-value).it a b ≡ uid_cmp a b
uid_ord-is a b = refl

pub name_ord-is : (a b : Name) → (name_ord.cmp-value).it a b ≡ name_cmp a b
name_ord-is (Policy a) (Policy b) = refl
name_ord-is (Policy a) (Entity b) = refl
name_ord-is (Entity a) (Policy b) = refl
name_ord-is (Entity a) (Entity b) = refl

-- `==` holds exactly at equal values.

-- of type names, and of texts
pub text_eq-is : (a b : List ℕ) → IsTrue (is_eq (text_cmp a b)) ↔ (a ≡ b)
text_eq-is = equal-is text_cmp-IsTotalOrder text_cmp-IsAntisymmetric

both_true : (p q : Bool) → IsTrue (p && q) → IsTrue p × IsTrue q
both_true true q h = (refl, h)
both_true false q h = absurd (cc)

pub uid_eq-is : (a b : EntityUid) → IsTrue ((uid_eq.eq-value).it a b) ↔ (a ≡ b)
uid_eq-is a b = (
  (λ h.
      let parts = both_true (is_eq (text_cmp a.type_name b.type_name)) (is_eq (text_cmp a.id b.id)) h in
      let types = (text_eq-is a.type_name b.type_name).0 parts.0 in
      let ids = (text_eq-is a.id b.id).0 parts.1 in
      λ i. record { type_name = types i; id = ids i }),
  (λ e. λ i. ((text_eq-is a.type_name b.type_name).1 (λ j. (e j).type_name) i) && ((text_eq-is a.id b.id).1 (λ j. (e j).id) i)),
)

pub name_eq-is : (a b : Name) → IsTrue ((name_eq.eq-value).it a b) ↔ (a ≡ b)
name_eq-is (Policy a) (Policy b) = ((λ h. ap Policy ((text_eq-is a b).0 h)), (λ e. (text_eq-is a b).1 (cc)))
name_eq-is (Policy a) (Entity b) = ((λ h. absurd (cc)), (λ e. absurd (cc)))
name_eq-is (Entity a) (Policy b) = ((λ h. absurd (cc)), (λ e. absurd (cc)))
name_eq-is (Entity a) (Entity b) = ((λ h. ap Entity ((uid_eq-is a b).0 h)), (λ e. (uid_eq-is a b).1 (cc)))

-- of records
pub record_eq-is : (a b : List (List ℕ × PlainValue)) → IsTrue (is_eq (record_cmp a b)) ↔ (a ≡ b)
record_eq-is = equal-is record_cmp-IsTotalOrder record_cmp-IsAntisymmetric

pub request_eq-is : (a b : Request) → IsTrue ((request_eq.eq-value).it a b) ↔ (a ≡ b)
request_eq-is a b = (
  (λ h.
      let last = (uid_eq.eq-value).it a.resource b.resource && is_eq (record_cmp a.context b.context) in
      let outer = both_true ((uid_eq.eq-value).it a.principal b.principal) ((uid_eq.eq-value).it a.action b.action && last) h in
      let inner = both_true ((uid_eq.eq-value).it a.action b.action) last outer.1 in
      let least = both_true ((uid_eq.eq-value).it a.resource b.resource) (is_eq (record_cmp a.context b.context)) inner.1 in
      let principals = (uid_eq-is a.principal b.principal).0 outer.0 in
      let actions = (uid_eq-is a.action b.action).0 inner.0 in
      let resources = (uid_eq-is a.resource b.resource).0 least.0 in
      let contexts = (record_eq-is a.context b.context).0 least.1 in
      λ i. record { principal = principals i; action = actions i; resource = resources i; context = contexts i }),
  (λ e. λ i. (uid_eq-is a.principal b.principal).1 (λ j. (e j).principal) i
      && ((uid_eq-is a.action b.action).1 (λ j. (e j).action) i
      && ((uid_eq-is a.resource b.resource).1 (λ j. (e j).resource) i && (record_eq-is a.context b.context).1 (λ j. (e j).context) i))),
)
