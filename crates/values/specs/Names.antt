-- Defines the orders of names (ids of policies and uids of entities) and of requests.
-- Rules of this product: policies come before entities. Policies are ordered by the bytes of the id; entities by the
-- bytes of the type's name, then of the id; requests by principal, then action, then resource, then context.
use Rattle.std.specs.Prelude.{◌≡◌, refl}
use Rattle.std.specs.Ordering.{ordering_then}
use Rattle.std.specs.Cmp.{IsTotalOrder}
use Rattle.std.specs.declared.cmp.Ordering.{Ordering}
use Rattle.std.specs.declared.cmp.Ordering.TheVariants.{Less, Equal, Greater}
use Rattle.std.specs.FinMap.{IsAntisymmetric}
use Rattle.std.proofs.Common.{ap}
use Rattle.std.specs.Ordering.{ordering_reverse}
use Rattle.std.proofs.lemmas.Cmp.{nat_list_cmp_total, then_total, on_total}
pub use Rattle.values.specs.Uids.{text_cmp, uid_cmp, text_cmp-IsTotalOrder, text_cmp-IsAntisymmetric}
pub use Rattle.values.specs.Uids.{uid_cmp-IsTotalOrder, uid_cmp-IsAntisymmetric}
use Rattle.values.specs.Uids.{both_equal}
use Rattle.values.specs.declared.name.Name.{Name}
use Rattle.values.specs.declared.name.Name.TheVariants.{Policy, Entity}
use Rattle.values.specs.declared.request.Request.{Request}
use Rattle.values.specs.ValueOrder.{record_cmp, record_cmp-IsTotalOrder, record_cmp-IsAntisymmetric}

-- `name_cmp a b` compares two names: policies come before entities, policies compare by id, and entities by uid.
abbrev pub name_cmp : Name → Name → Ordering
name_cmp (Policy a) (Policy b) = text_cmp a b
name_cmp (Policy a) (Entity b) = Less
name_cmp (Entity a) (Policy b) = Greater
name_cmp (Entity a) (Entity b) = uid_cmp a b

-- `request_cmp a b` compares two requests by principal, then action, then resource, then context.
abbrev pub request_cmp : Request → Request → Ordering
request_cmp a b =
    ordering_then (uid_cmp a.principal b.principal)
    (ordering_then (uid_cmp a.action b.action)
    (ordering_then (uid_cmp a.resource b.resource) (record_cmp a.context b.context)))

-- The orders are total, and only equal names or requests compare as equal.

antisymm : (a b : Name) → name_cmp a b ≡ ordering_reverse (name_cmp b a)
antisymm (Policy a) (Policy b) = nat_list_cmp_total.antisymm a b
antisymm (Policy a) (Entity b) = refl
antisymm (Entity a) (Policy b) = refl
antisymm (Entity a) (Entity b) = uid_cmp-IsTotalOrder.antisymm a b

trans : (a b c : Name) → name_cmp a b ≡ Less → name_cmp b c ≡ Less → name_cmp a c ≡ Less
trans (Policy a) (Policy b) (Policy c) h k = nat_list_cmp_total.trans a b c h k
trans (Policy a) (Policy b) (Entity c) h k = refl
trans (Policy a) (Entity b) (Policy c) h k = absurd (cc)
trans (Policy a) (Entity b) (Entity c) h k = refl
trans (Entity a) (Policy b) c h k = absurd (cc)
trans (Entity a) (Entity b) (Policy c) h k = absurd (cc)
trans (Entity a) (Entity b) (Entity c) h k = uid_cmp-IsTotalOrder.trans a b c h k

congr : (a b c : Name) → name_cmp a b ≡ Equal → name_cmp a c ≡ name_cmp b c
congr (Policy a) (Policy b) (Policy c) h = nat_list_cmp_total.congr a b c h
congr (Policy a) (Policy b) (Entity c) h = refl
congr (Policy a) (Entity b) c h = absurd (cc)
congr (Entity a) (Policy b) c h = absurd (cc)
congr (Entity a) (Entity b) (Policy c) h = refl
congr (Entity a) (Entity b) (Entity c) h = uid_cmp-IsTotalOrder.congr a b c h

pub name_cmp-IsTotalOrder : IsTotalOrder name_cmp
name_cmp-IsTotalOrder = record { antisymm = antisymm; trans = trans; congr = congr }

pub name_cmp-IsAntisymmetric : IsAntisymmetric name_cmp
name_cmp-IsAntisymmetric (Policy a) (Policy b) h = ap Policy (text_cmp-IsAntisymmetric a b h)
name_cmp-IsAntisymmetric (Policy a) (Entity b) h = absurd (cc)
name_cmp-IsAntisymmetric (Entity a) (Policy b) h = absurd (cc)
name_cmp-IsAntisymmetric (Entity a) (Entity b) h = ap Entity (uid_cmp-IsAntisymmetric a b h)

pub request_cmp-IsTotalOrder : IsTotalOrder request_cmp
request_cmp-IsTotalOrder =
    then_total (on_total (λ q. q.principal) uid_cmp-IsTotalOrder)
    (then_total (on_total (λ q. q.action) uid_cmp-IsTotalOrder)
    (then_total (on_total (λ q. q.resource) uid_cmp-IsTotalOrder) (on_total (λ q. q.context) record_cmp-IsTotalOrder)))

pub request_cmp-IsAntisymmetric : IsAntisymmetric request_cmp
request_cmp-IsAntisymmetric a b h =
    let behind = ordering_then (uid_cmp a.resource b.resource) (record_cmp a.context b.context) in
    let outer = both_equal (uid_cmp a.principal b.principal) (ordering_then (uid_cmp a.action b.action) behind) h in
    let inner = both_equal (uid_cmp a.action b.action) behind outer.1 in
    let last = both_equal (uid_cmp a.resource b.resource) (record_cmp a.context b.context) inner.1 in
    let principals = uid_cmp-IsAntisymmetric a.principal b.principal outer.0 in
    let actions = uid_cmp-IsAntisymmetric a.action b.action inner.0 in
    let resources = uid_cmp-IsAntisymmetric a.resource b.resource last.0 in
    let contexts = record_cmp-IsAntisymmetric a.context b.context last.1 in
    λ i. record { principal = principals i; action = actions i; resource = resources i; context = contexts i }
