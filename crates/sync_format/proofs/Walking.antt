-- One walk over ascending names and ascending stamps finds what a search finds.
use Rattle.std.specs.Prelude.{◌≡◌, ◌&&◌, ◌∷◌, ◌++◌, [], List, length, map, Bool, true, false, T, Option, Some, None}
use Rattle.std.specs.Prelude.{cond, refl}
use Rattle.std.proofs.Common.{sym, ap, ◌∙◌, subst, arith}
use Rattle.std.specs.List.{AllByRecursion, flat_map}
use Rattle.std.specs.FinMap.{entries_sorted}
use Rattle.std.specs.FinMap.Entries.{is_sorted, below_all}
use Rattle.std.specs.Cmp.{tied_itself}
use Rattle.std.specs.Ordering.{is_eq, is_le, is_lt, is_gt, ordering_reverse}
use Rattle.std.specs.declared.cmp.Ordering.{Ordering}
use Rattle.std.specs.declared.cmp.Ordering.TheVariants.{Less, Equal, Greater}
use Rattle.std.proofs.lemmas.List.{append-nil, map-append}
use Rattle.std.specs.declared.alloc.Global.{Global}
use Rattle.std.specs.declared.string.String.{String}
use Rattle.values.specs.declared.entity_uid.EntityUid.{EntityUid}
use Rattle.std.proofs.lemmas.List.Concat.{flat_map-append}
use Rattle.json.specs.Written.{Written}
use Rattle.serde_json.specs.Data.{Data}
use Rattle.values.specs.declared.name.Name.{Name}
use Rattle.values.specs.Names.{name_cmp, name_cmp-IsTotalOrder, name_cmp-IsAntisymmetric}
use Rattle.stamped_store.specs.declared.entry.Entry.{Entry}
use Rattle.stamped_store.specs.declared.entry.Stamp.{Stamp}
use Rattle.stamped_store.specs.EntryOrder.{plain_entry}
use Rattle.stamped_store.specs.Deltas.{Summary, delta}
use Rattle.stamped_store.specs.Abstraction.{abstract_entry, abstract_entries}
use Rattle.stamped_store.specs.Store.{Update, updates, StoreEntries, abstract_store, abstract_updates}
use Rattle.stamped_store.specs.Store.{id_name, entity_name}
use Rattle.stamped_store.specs.JoinMaps.{value_at}
use Rattle.sync_format.specs.Summaries.{ascend}
use Rattle.entity_uids.specs.Tokens.{AppendsAll}
use Rattle.entity_uids.proofs.Appending.{none_written, both_written}
use Rattle.sync_format.specs.Messages.{entry_json}
use Rattle.sync_format.specs.inner.Walking.{IsFrom, IsAhead, IsWalked}
use Rattle.sync_format.specs.inner.Writing.{missing_json_by, missing_json, all_missing_json}
use Rattle.sync_format.proofs.News.{store_news}

left_of : (a b : Bool) → T (a && b) → T a
left_of true b h = tt
left_of false b h = h

right_of : (a b : Bool) → T (a && b) → T b
right_of true b h = h
right_of false b h = absurd h

both_left : (a b : Bool) → (a && b) ≡ true → a ≡ true
both_left true b h = refl
both_left false b h = absurd cc

both_right : (a b : Bool) → (a && b) ≡ true → b ≡ true
both_right true b h = h
both_right false b h = absurd cc

is_less : (r : Ordering) → is_lt r ≡ true → r ≡ Less
is_less Less h = refl
is_less Equal h = absurd cc
is_less Greater h = absurd cc

true_of : (b : Bool) → T b → b ≡ true
true_of true h = refl
true_of false h = absurd h

ascend_tail : (a : Name × Stamp) (m : Summary) → ascend (a ∷ m) ≡ true → ascend m ≡ true
ascend_tail a [] h = refl
ascend_tail a (b ∷ m) h = both_right (is_lt (name_cmp a.0 b.0)) (ascend (b ∷ m)) h

-- ---- a name and one that is not before it
apart_below : (r : Ordering) → is_le r ≡ true → is_gt r ≡ false
apart_below Less h = refl
apart_below Equal h = refl
apart_below Greater h = absurd cc

not_tied : (r : Ordering) → r ≡ Less → is_eq (ordering_reverse r) ≡ false
not_tied r h = ap (λ x. is_eq (ordering_reverse x)) h

-- if a is less than b, and b at most c, then a is less than c
before_all : (a b c : Name) → name_cmp a b ≡ Less → is_le (name_cmp b c) ≡ true → name_cmp a c ≡ Less
before_all a b c h k = by_case (name_cmp b c) refl k
  where
    by_case : (r : Ordering) → name_cmp b c ≡ r → is_le r ≡ true → name_cmp a c ≡ Less
    by_case Less e i = name_cmp-IsTotalOrder.trans a b c h e
    by_case Equal e i = ap (name_cmp a) (sym (name_cmp-IsAntisymmetric b c e)) ∙ h
    by_case Greater e i = absurd cc

-- a stamp of a smaller name is not that of a name from there on
pub skipped : (a : Name × Stamp) (m : Summary) (name q : Name) → name_cmp a.0 name ≡ Less → is_le (name_cmp name q) ≡ true
    → value_at name_cmp m q ≡ value_at name_cmp (a ∷ m) q
skipped a m name q h k =
    let less : name_cmp a.0 q ≡ Less = before_all a.0 name q h k in
    sym (ap (λ b. cond b (Some a.1) (value_at name_cmp m q)) (ap is_eq (name_cmp-IsTotalOrder.antisymm q a.0) ∙ not_tied (name_cmp a.0 q) less))

pub from_start : (name : Name) (known : Summary) → ascend known ≡ true → IsFrom name known known
from_start name known h = record { ascending = h; same = λ q k. refl }

pub from_next : (name : Name) (known : Summary) (a : Name × Stamp) (m : Summary) → name_cmp a.0 name ≡ Less → IsFrom name known (a ∷ m) → IsFrom name known m
from_next name known a m h from = record {
  ascending = ascend_tail a m from.ascending;
  same = λ q k. skipped a m name q h k ∙ from.same q k;
}

itself : (name : Name) → is_le (name_cmp name name) ≡ true
itself name = ap is_le (tied_itself name_cmp-IsTotalOrder name)

-- the first stamp is that of its name
pub stamp_here : (name : Name) (known : Summary) (a : Name × Stamp) (m : Summary) → name_cmp a.0 name ≡ Equal → IsFrom name known (a ∷ m)
    → Some a.1 ≡ value_at name_cmp known name
stamp_here name known a m h from =
    sym (ap (λ b. cond b (Some a.1) (value_at name_cmp m name)) (ap is_eq (name_cmp-IsTotalOrder.antisymm name a.0 ∙ ap ordering_reverse h)))
    ∙ from.same name (itself name)

-- if all names are greater, there is no stamp of the name
none_behind : (name : Name) (a : Name × Stamp) (m : Summary) → name_cmp name a.0 ≡ Less → ascend (a ∷ m) ≡ true → value_at name_cmp (a ∷ m) name ≡ None
none_behind name a [] h k = ap (λ r. cond (is_eq r) (Some a.1) None) h
none_behind name a (b ∷ m) h k =
    ap (λ r. cond (is_eq r) (Some a.1) (value_at name_cmp (b ∷ m) name)) h
    ∙ none_behind name b m (name_cmp-IsTotalOrder.trans name a.0 b.0 h (is_less (name_cmp a.0 b.0) (both_left (is_lt (name_cmp a.0 b.0)) (ascend (b ∷ m)) k))) (ascend_tail a (b ∷ m) k)

pub stamp_behind : (name : Name) (known : Summary) (a : Name × Stamp) (m : Summary) → name_cmp a.0 name ≡ Greater → IsFrom name known (a ∷ m)
    → None ≡ value_at name_cmp known name
stamp_behind name known a m h from =
    sym (none_behind name a m (name_cmp-IsTotalOrder.antisymm name a.0 ∙ ap ordering_reverse h) from.ascending) ∙ from.same name (itself name)

pub stamp_past : (name : Name) (known : Summary) → IsFrom name known [] → None ≡ value_at name_cmp known name
stamp_past name known from = from.same name (itself name)

-- ---- the walk, one name further
later_names : (left known from : Summary) (q : Name) (us : List Update) → T (below_all name_cmp q us) → IsFrom q left from
    → AllByRecursion (λ u. value_at name_cmp left u.0 ≡ value_at name_cmp known u.0) us → AllByRecursion (λ u. value_at name_cmp from u.0 ≡ value_at name_cmp known u.0) us
later_names left known from q [] below is h = tt
later_names left known from q (u ∷ us) below is h =
    let less = is_less (name_cmp q u.0) (true_of (is_lt (name_cmp q u.0)) (left_of (is_lt (name_cmp q u.0)) (below_all name_cmp q us) below)) in (
      is.same u.0 (ap is_le less) ∙ h.0,
      later_names left known from q us (right_of (is_lt (name_cmp q u.0)) (below_all name_cmp q us) below) is h.1,
    )

pub ahead_next : (left known from : Summary) (u : Update) (us : List Update) → IsAhead left known (u ∷ us) → IsFrom u.0 left from → IsAhead from known us
ahead_next left known from u us h is = record {
  ascending = is.ascending;
  sorted = right_of (below_all name_cmp u.0 us) (is_sorted name_cmp us) h.sorted;
  same = later_names left known from u.0 us (left_of (below_all name_cmp u.0 us) (is_sorted name_cmp us) h.sorted) is h.same.1;
}

all_same : (known : Summary) (us : List Update) → AllByRecursion (λ u. value_at name_cmp known u.0 ≡ value_at name_cmp known u.0) us
all_same known [] = tt
all_same known (u ∷ us) = (refl, all_same known us)

pub ahead_start : {P E : Type 0} (known : Summary) (k : StoreEntries P E) → ascend known ≡ true → updates (abstract_store k) ≡ abstract_updates k
    → IsAhead known known (abstract_entries id_name k.policies ++ abstract_entries entity_name k.entities)
ahead_start known k h order = record {
  ascending = h;
  sorted = subst (λ (us : List Update). T (is_sorted name_cmp us)) order (entries_sorted (abstract_store k));
  same = all_same known _;
}

-- by itself
pub ahead_alone : (left known : Summary) (us : List Update) → IsAhead left known us → IsAhead left left us
ahead_alone left known us h = record { ascending = h.ascending; sorted = h.sorted; same = all_same left us }

-- what the rest of the stamps lacks, all of them lack
pub news_left : (left known : Summary) (us : List Update) → IsAhead left known us → flat_map (missing_json left) us ≡ flat_map (missing_json known) us
news_left left known us h = by_each us h.same
  where
    by_each : (vs : List Update) → AllByRecursion (λ u. value_at name_cmp left u.0 ≡ value_at name_cmp known u.0) vs → flat_map (missing_json left) vs ≡ flat_map (missing_json known) vs
    by_each [] k = refl
    by_each (v ∷ vs) k =
        ap (λ (o : Option Stamp). missing_json_by o v ++ flat_map (missing_json left) vs) k.0
        ∙ ap (λ (ds : List Data). missing_json known v ++ ds) (by_each vs k.1)

-- ---- the walk over entries
module _ {N P : Type 0} (name : N → Name) where
  pub walk_starts : (known : Summary) (before : Written) (all : List (N × Entry P)) → IsWalked name known known before before all [] all
  walk_starts known before all next ahead = (none_written before, ahead)

  one_more : (known : Summary) (done : List (N × Entry P)) (e : N × Entry P)
      → all_missing_json name known done ++ missing_json known (name e.0, plain_entry e.1) ≡ all_missing_json name known (done ++ e ∷ [])
  one_more known done e =
      let one : Update = (name e.0, plain_entry e.1) in
      let shown = abstract_entries name done in
      ap (λ (ds : List Data). flat_map (missing_json known) shown ++ ds) (sym (append-nil (missing_json known one)))
      ∙ sym (flat_map-append (missing_json known) shown (one ∷ []))
      ∙ ap (flat_map (missing_json known)) (sym (map-append (abstract_entry name) done (e ∷ [])))

  pub walk_goes_on : (known left from : Summary) (before here after : Written) (all done iter n : List (N × Entry P)) (e : N × Entry P) (stamp : Option Stamp)
      → IsWalked name known left before here all done iter → iter ≡ e ∷ n → IsFrom (name e.0) left from → stamp ≡ value_at name_cmp left (name e.0)
      → AppendsAll here after (missing_json_by stamp (name e.0, plain_entry e.1))
      → IsWalked name known from before after all (done ++ e ∷ []) n
  walk_goes_on known left from before here after all done iter n e stamp walked step is found pushed next ahead =
      let one : Update = (name e.0, plain_entry e.1) in
      let so = walked next ahead in
      let at : IsAhead left known (one ∷ (abstract_entries name n ++ next)) = subst (λ (es : List (N × Entry P)). IsAhead left known (abstract_entries name es ++ next)) step so.1 in
      let more : AppendsAll here after (missing_json known one) = subst (λ (o : Option Stamp). AppendsAll here after (missing_json_by o one)) (found ∙ at.same.0) pushed in (
        subst (AppendsAll before after) (one_more known done e) (both_written so.0 more),
        ahead_next left known from one (abstract_entries name n ++ next) at is,
      )

  -- if nothing remains, the walk covered all
  pub walk_ends : (known left : Summary) (before after : Written) (all done iter : List (N × Entry P)) → IsWalked name known left before after all done iter
      → iter ≡ [] → done ++ iter ≡ all → IsWalked name known left before after all all []
  walk_ends known left before after all done iter walked none is =
      let whole : done ≡ all = sym (append-nil done) ∙ ap (λ (es : List (N × Entry P)). done ++ es) (sym none) ∙ is in
      let over : IsWalked name known left before after all done [] = subst (λ (es : List (N × Entry P)). IsWalked name known left before after all done es) none walked in
      subst (λ (es : List (N × Entry P)). IsWalked name known left before after all es []) whole over

pub no_length : (m : Summary) → length m ≡ 0 → m ≡ []
no_length [] h = refl
no_length (a ∷ m) h = absurd (omega arith)

-- ---- policies and then entities
pub walked_store : {P E : Type 0} {none one two : Written} (k : StoreEntries P E) (known left last : Summary) (ps : List (String Global × Entry P)) (es : List (EntityUid × Entry E))
    → ascend known ≡ true → updates (abstract_store k) ≡ abstract_updates k → ps ≡ k.policies → es ≡ k.entities
    → IsWalked id_name known left none one ps ps [] → IsWalked entity_name left last one two es es []
    → AppendsAll none two (map entry_json (updates (delta (abstract_store k) known)))
walked_store {none = none} {one = one} {two = two} k known left last ps es up order of_policies of_entities first second =
    let policies : IsWalked id_name known left none one k.policies k.policies [] = subst (λ xs. IsWalked id_name known left none one xs xs []) of_policies first in
    let entities : IsWalked entity_name left last one two k.entities k.entities [] = subst (λ xs. IsWalked entity_name left last one two xs xs []) of_entities second in
    let all = abstract_entries entity_name k.entities in
    let so = policies all (ahead_start known k up order) in
    let later = entities [] (subst (λ us. IsAhead left left us) (sym (append-nil all)) (ahead_alone left known all so.1)) in
    subst (AppendsAll none two) (store_news k known order) (both_written so.0 (subst (AppendsAll one two) (news_left left known all so.1) later.0))
