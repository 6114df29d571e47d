-- If the uids of entries ascend, those of entries with a text are those that have an entity, and ascend too.
use Rattle.std.specs.Prelude.{◌≡◌, Vec, Result, Ok, Err, IfOk, List, [], ◌∷◌, ◌++◌, Option, Some, None, is_some, Bool}
use Rattle.std.specs.Prelude.{false, cond, refl, option_and_then}
use Rattle.std.proofs.Common.{sym, ap, ◌∙◌, subst}
use Rattle.std.proofs.lemmas.List.Kept.{IsStrictlySortedBy-filter}
use Rattle.std.specs.Borrow.{Bor}
use Rattle.std.specs.declared.alloc.Global.{Global}
use Rattle.std.specs.List.{filter, AllByRecursion}
use Rattle.std.specs.List.Sorted.{IsStrictlySortedBy}
use Rattle.std.specs.Map.{keys_of}
use Rattle.std.specs.Ordering.{is_eq, ordering_reverse}
use Rattle.std.specs.Cmp.{tied_itself}
use Rattle.std.specs.declared.cmp.Ordering.TheVariants.{Less}
use Rattle.values.specs.declared.entity_uid.EntityUid.{EntityUid}
use Rattle.values.specs.Names.{uid_cmp, uid_cmp-IsTotalOrder}
use Rattle.entity_hierarchy.specs.ancestor_search.Hierarchy.{IsAscending, referenced}
use Rattle.entity_hierarchy.specs.entity_data.declared.entity.Entity.{Entity}
use Rattle.stamped_store.specs.declared.entry.Entry.{Entry}
use Rattle.stamped_store.specs.declared.entry.ReadText.{ReadText}
use Rattle.stamped_store.specs.JoinMaps.{value_at}
use Rattle.site_meaning.specs.TextsRead.{entity_read, entity_at, uids_read}
use Rattle.site_meaning.specs.inner.Listing.{uid_with, uids_with_text}

abbrev Entries : Type 0
Entries = List (EntityUid × Entry Entity)

-- each entry is found at its key
abbrev AreFound : Entries → Entries → Type 0
AreFound all es = AllByRecursion (λ (e : EntityUid × Entry Entity). value_at uid_cmp all e.0 ≡ Some e.1) es

found_behind : (x : EntityUid × Entry Entity) (all es : Entries) → AllByRecursion (λ k. uid_cmp x.0 k ≡ Less) (keys_of es)
    → AreFound all es → AreFound (x ∷ all) es
found_behind x all [] below h = tt
found_behind x all (e ∷ es) below h =
    let apart : is_eq (uid_cmp e.0 x.0) ≡ false = ap is_eq (uid_cmp-IsTotalOrder.antisymm e.0 x.0 ∙ ap ordering_reverse below.0) in
    (ap (λ b. cond b (Some x.1) (value_at uid_cmp all e.0)) apart ∙ h.0, found_behind x all es below.1 h.1)

all_found : (es : Entries) → IsStrictlySortedBy uid_cmp (keys_of es) → AreFound es es
unfolding IsStrictlySortedBy
all_found [] h = tt
all_found (e ∷ es) h = (
  ap (λ b. cond b (Some e.1) (value_at uid_cmp es e.0)) (ap is_eq (tied_itself uid_cmp-IsTotalOrder e.0)),
  found_behind e es es h.0 (all_found es h.1),
)

kept_one : (u : EntityUid) (b : Option (ReadText Entity)) (t : Bool) → t ≡ is_some (entity_read b) → (ks ls : List EntityUid)
    → ks ≡ ls → cond t (u ∷ ks) ks ≡ uid_with u b ++ ls
kept_one u None t is ks ls same = ap (λ c. cond c (u ∷ ks) ks) is ∙ same
kept_one u (Some x) t is ks ls same = ap (λ c. cond c (u ∷ ks) ks) is ∙ ap (λ l. u ∷ l) same

kept_all : (all es : Entries) → AreFound all es → filter (λ uid. is_some (entity_at all uid)) (keys_of es) ≡ uids_with_text es
kept_all all [] h = refl
kept_all all (e ∷ es) h =
    kept_one e.0 e.1.body (is_some (entity_at all e.0))
    (ap (λ o. is_some (option_and_then (λ (x : Entry Entity). entity_read x.body) o)) h.0)
    (filter (λ uid. is_some (entity_at all uid)) (keys_of es)) (uids_with_text es) (kept_all all es h.1)

pub texts_are_uids : (es : Entries) → IsStrictlySortedBy uid_cmp (keys_of es) → (us : List EntityUid) → us ≡ uids_with_text es
    → us ≡ uids_read es
texts_are_uids es h us is = is ∙ sym (kept_all es es (all_found es h))

pub uids_ascend : (es : Entries) → IsStrictlySortedBy uid_cmp (keys_of es) → (us : List EntityUid) → us ≡ uids_with_text es
    → IsAscending us
uids_ascend es h us is =
    subst (λ xs. IsStrictlySortedBy uid_cmp xs) (sym (texts_are_uids es h us is))
    (IsStrictlySortedBy-filter uid_cmp (λ uid. is_some (entity_at es uid)) (keys_of es) h)

abbrev Uids : Type 0
Uids = Vec (Bor EntityUid) Global

pub result_is_uids : {E : Type 0} (es : Entries) → IsStrictlySortedBy uid_cmp (keys_of es) → (result : Result Uids E)
    → IfOk result (λ us. referenced us.items ≡ uids_with_text es) → IfOk result (λ us. referenced us.items ≡ uids_read es)
result_is_uids es h (Ok us) is = texts_are_uids es h (referenced us.items) is
result_is_uids es h (Err e) is = tt

pub result_ascends : {E : Type 0} (es : Entries) → IsStrictlySortedBy uid_cmp (keys_of es) → (result : Result Uids E)
    → IfOk result (λ us. referenced us.items ≡ uids_with_text es) → IfOk result (λ us. IsAscending (referenced us.items))
result_ascends es h (Ok us) is = uids_ascend es h (referenced us.items) is
result_ascends es h (Err e) is = tt
