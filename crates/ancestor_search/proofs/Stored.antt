-- What is stored.
use Rattle.std.proofs.Common.{◌≡◌, Bool, true, false, cond, refl, ap, ◌∙◌, Option, Some}
use Rattle.std.specs.Prelude.{Vec}
use Rattle.std.specs.declared.alloc.Global.{Global}
use Rattle.std.specs.BTreeMap.{BTreeMap, get}
use Rattle.std.specs.Ordering.{is_eq}
use Rattle.values.specs.declared.entity_uid.EntityUid.{EntityUid}
use Rattle.values.specs.Names.{uid_cmp}
use Rattle.ancestor_search.specs.Hierarchy.{with_parents}
use Rattle.ancestor_search.specs.Search.{parents_of, items_or_none}

put_in : (b : Bool) (v : Vec EntityUid Global) (o : Option (Vec EntityUid Global)) → items_or_none (cond b (Some v) o) ≡ cond b v.items (items_or_none o)
put_in true v o = refl
put_in false v o = refl

-- a map with other parents at one entity
pub parents_of-insert : (m n : BTreeMap EntityUid (Vec EntityUid Global)) (uid : EntityUid) (v : Vec EntityUid Global) → ((q : EntityUid) → get uid_cmp n q ≡ cond (is_eq (uid_cmp uid q)) (Some v) (get uid_cmp m q)) → parents_of n ≡ with_parents (parents_of m) uid v.items
parents_of-insert m n uid v h = λ i q. (ap items_or_none (h q) ∙ put_in (is_eq (uid_cmp uid q)) v (get uid_cmp m q)) i
