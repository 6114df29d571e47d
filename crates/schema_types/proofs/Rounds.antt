-- Rounds of writing out common types.
use Rattle.std.proofs.Common.{◌≡◌, ◌∙◌, ◌⊎◌, inl, inr, ℕ, zero, suc, ◌+◌, ◌<◌, List, [], ◌∷◌, map, length, drop, get_or, Bool, true, false, cond, Option, Some, None, option_map, is_some, String, BTreeMap, Global, string_bytes, string_cmp, refl, sym, ap, arith, subst, true≢false}
use Rattle.std.specs.Prelude.{◌&&◌, if◌then◌else◌}
use Rattle.std.specs.Str.{bytes_eq}
use Rattle.std.specs.BTreeMap.{btree_map_len, get, get_by_text, Updates}
use Rattle.std.proofs.lemmas.Map.Text.{btree_map_updates_text}
use Rattle.std.proofs.lemmas.Slice.Eq.{bytes_eq-Decides}
use Rattle.schema_types.specs.declared.table.CommonEntry.{CommonEntry}
use Rattle.schema_types.specs.Qualified as qualified
use Rattle.schema_types.specs.Qualified.{Qualified}
use Rattle.schema_types.specs.Expansions as written
use Rattle.schema_types.specs.Expansions.{Declarations, Declares}
use Rattle.schema_types.specs.TypeTables.{Extent, TableEntry, TypeTable, IsEntryFor, IsTable, AreWritten}
use Rattle.schema_types.specs.inner.Table.{fits, size_in, written_in, built_of, AreSettled, all_known}
use Rattle.schema_types.specs.TableViews.{known_view, type_table}
use Rattle.schema_types.specs.inner.Rounds.{AddsToTable, KeepsTable, Steps, Rounds}
use Rattle.schema_types.specs.Outcome.{SomeHasNoExpansion}
use Rattle.schema_types.specs.QualifiedViews.{qualified_view, resolved_common_view}
use Rattle.schema_types.specs.declared.qualified.ResolvedCommon.{ResolvedCommon}
use Rattle.json_words.proofs.EachSame.{cut}
use Rattle.schema_types.proofs.Sizes.{within, fits_small, fits_large}
use Rattle.schema_types.proofs.Tables.{sound, has_size, known_or, none_some}

abbrev Map : Type 0
Map = BTreeMap (String Global) CommonEntry

some_is : {A : Type 0} (x y : A) → (let o : Option A = Some x in o) ≡ Some y → x ≡ y
some_is x y e = cc

-- ---- one step

built_small : (known : TypeTable) (s : Extent) (r : Qualified) → fits s ≡ true → built_of known s r ≡ written_in known r
built_small known s r e = rw e refl

built_large : (known : TypeTable) (s : Extent) (r : Qualified) → fits s ≡ false → built_of known s r ≡ None
built_large known s r e = rw e refl

stands_at : (commons : Declarations) (d : List ℕ × Qualified) (old new : Map) → Declares commons d.0 d.1 → IsTable commons (type_table old) → (a : AddsToTable d old new) → (q : List ℕ) (k : TableEntry) (b : Bool) → bytes_eq d.0 q ≡ b
    → cond b (Some a.added) (type_table old q) ≡ Some k → IsEntryFor commons q k
stands_at commons d old new here h a q k false apart e = h q k e
stands_at commons d old new here h a q k true same e =
    let is : a.added ≡ k = some_is a.added k e in
    let key : d.0 ≡ q = (bytes_eq-Decides d.0 q).0 same in
    let f = sound commons (type_table old) h d.1 a.added.size a.size in
    let at_d : IsEntryFor commons d.0 a.added = record {
      type = f.type;
      is_written = written.common d.0 d.1 f.type here f.is_written;
      size_is = f.size_is;
      at_hand = λ small.
          let fit = fits_small a.added.size f.type f.size_is small in
          a.whole ∙ built_small (type_table old) a.added.size d.1 fit ∙ f.at_hand (within a.added.size fit);
      unbuilt = λ large. a.whole ∙ built_large (type_table old) a.added.size d.1 (fits_large a.added.size f.type f.size_is large);
    } in subst (λ (x : TableEntry). IsEntryFor commons q x) is (subst (λ (x : List ℕ). IsEntryFor commons x a.added) key at_d)

step_sound : (commons : Declarations) (d : List ℕ × Qualified) (old new : Map) → Declares commons d.0 d.1 → IsTable commons (type_table old) → Steps d old new → IsTable commons (type_table new)
step_sound commons d old new here h (inl s) = subst (λ (t : Map). IsTable commons (type_table t)) (sym s.same) h
step_sound commons d old new here h (inr a) = λ q k e. stands_at commons d old new here h a q k (bytes_eq d.0 q) refl (sym (a.known q) ∙ e)

-- ---- one of the declarations

declares_drop : (i : ℕ) (vs : List ResolvedCommon) (q : List ℕ) (r : Qualified) → Declares (map resolved_common_view (drop i vs)) q r → Declares (map resolved_common_view vs) q r
declares_drop zero vs q r h = h
declares_drop (suc i) [] q r h = h
declares_drop (suc i) (v ∷ vs) q r h = inr (declares_drop i vs q r h)

declares_at : (vs : List ResolvedCommon) (i : ℕ) (v : ResolvedCommon) → i < length vs → v ≡ get_or vs i v → Declares (map resolved_common_view vs) v.name (qualified_view v.ty)
declares_at vs i v lt at = declares_drop i vs v.name (qualified_view v.ty)
    (subst (λ (l : List ResolvedCommon). Declares (map resolved_common_view l) v.name (qualified_view v.ty)) (sym (cut vs i v lt at)) (inl (refl, refl)))

pub kept_at : (vs : List ResolvedCommon) (i : ℕ) (v : ResolvedCommon) (old new : Map) → i < length vs → v ≡ get_or vs i v → Steps (resolved_common_view v) old new
    → KeepsTable (map resolved_common_view vs) old new
kept_at vs i v old new lt at s = λ commons among h. step_sound commons (resolved_common_view v) old new (among v.name (qualified_view v.ty) (declares_at vs i v lt at)) h s

-- ---- a round

pub round_none : (t : Map) → Rounds [] t t
round_none t = record { sound = λ commons among h. h; grows = inl (refl, tt) }

grow : (d : List ℕ × Qualified) (ds : Declarations) (old mid new : Map) → Steps d old mid → ((new ≡ mid) × AreSettled (type_table mid) ds) ⊎ (btree_map_len mid < btree_map_len new)
    → ((new ≡ old) × AreSettled (type_table old) (d ∷ ds)) ⊎ (btree_map_len old < btree_map_len new)
grow d ds old mid new (inl s) (inl r) = inl (r.0 ∙ s.same, (s.settled, subst (λ (t : Map). AreSettled (type_table t) ds) s.same r.1))
grow d ds old mid new (inl s) (inr r) = inr (subst (λ (t : Map). btree_map_len t < btree_map_len new) s.same r)
grow d ds old mid new (inr a) (inl r) = inr (subst (λ (t : Map). btree_map_len old < btree_map_len t) (sym r.0) a.longer)
grow d ds old mid new (inr a) (inr r) = inr (omega (arith, a.longer, r))

pub round_step : (d : List ℕ × Qualified) (ds : Declarations) (old mid new : Map) → Steps d old mid → Rounds ds mid new → Rounds (d ∷ ds) old new
round_step d ds old mid new s r = record {
  sound = λ commons among h. r.sound commons (λ q x here. among q x (inr here)) (step_sound commons d old mid (among d.0 d.1 (inl (refl, refl))) h s);
  grows = grow d ds old mid new s r.grows;
}

pub settled_of : (ds : Declarations) (old new : Map) → Rounds ds old new → btree_map_len new ≡ btree_map_len old → AreSettled (type_table new) ds
settled_of ds old new r same = settled_at r.grows
  where
    settled_at : ((new ≡ old) × AreSettled (type_table old) ds) ⊎ (btree_map_len old < btree_map_len new) → AreSettled (type_table new) ds
    settled_at (inl p) = subst (λ (t : Map). AreSettled (type_table t) ds) (sym p.0) p.1
    settled_at (inr lt) = absurd (omega (arith, lt, same))

pub grown_of : (ds : Declarations) (old new : Map) → Rounds ds old new → (btree_map_len new ≡ btree_map_len old → ⊥) → btree_map_len old < btree_map_len new
grown_of ds old new r apart = grown_at r.grows
  where
    grown_at : ((new ≡ old) × AreSettled (type_table old) ds) ⊎ (btree_map_len old < btree_map_len new) → btree_map_len old < btree_map_len new
    grown_at (inl p) = absurd (apart (ap (λ (t : Map). btree_map_len t) p.0))
    grown_at (inr lt) = lt

-- ---- the end

all_are : (known : TypeTable) (ds : Declarations) → all_known known ds ≡ true → (q : List ℕ) (r : Qualified) → Declares ds q r → (k : TableEntry) × (known q ≡ Some k)
all_are known [] all q r here = absurd here
all_are known (d ∷ ds) all q r here = one_of (λ rest later. all_are known ds rest q r later) (known_or (known d.0)) all here
  where
    none_false : known d.0 ≡ None → (is_some (known d.0) && all_known known ds) ≡ true → ⊥
    none_false none all = let e : (is_some (known d.0) && all_known known ds) ≡ false = rw none refl in true≢false (sym all ∙ e)

    rest_true : (k : TableEntry) → known d.0 ≡ Some k → (is_some (known d.0) && all_known known ds) ≡ true → all_known known ds ≡ true
    rest_true k some all = let e : (is_some (known d.0) && all_known known ds) ≡ all_known known ds = rw some refl in sym e ∙ all

    one_of : (all_known known ds ≡ true → Declares ds q r → (k : TableEntry) × (known q ≡ Some k)) → (known d.0 ≡ None) ⊎ ((k : TableEntry) × (known d.0 ≡ Some k)) → (is_some (known d.0) && all_known known ds) ≡ true → Declares (d ∷ ds) q r → (k : TableEntry) × (known q ≡ Some k)
    one_of more (inl none) all here = absurd (none_false none all)
    one_of more (inr some) all (inl here) = (some.0, ap known (sym here.0) ∙ some.1)
    one_of more (inr some) all (inr here) = more (rest_true some.0 some.1 all) here

pub are_written : (commons : Declarations) (known : TypeTable) → IsTable commons known → all_known known commons ≡ true → AreWritten commons known
are_written commons known h all = record { table = h; all = all_are known commons all }

none_of : (known : TypeTable) (ds : Declarations) → all_known known ds ≡ false → (q : List ℕ) × (r : Qualified) × Declares ds q r × (known q ≡ None)
none_of known [] lacks = absurd (true≢false lacks)
none_of known (d ∷ ds) lacks = at_first (λ rest. none_of known ds rest) (known_or (known d.0)) lacks
  where
    rest_false : (k : TableEntry) → known d.0 ≡ Some k → (is_some (known d.0) && all_known known ds) ≡ false → all_known known ds ≡ false
    rest_false k some lacks = let e : (is_some (known d.0) && all_known known ds) ≡ all_known known ds = rw some refl in sym e ∙ lacks

    later : ((q : List ℕ) × (r : Qualified) × Declares ds q r × (known q ≡ None)) → (q : List ℕ) × (r : Qualified) × Declares (d ∷ ds) q r × (known q ≡ None)
    later (q, r, here, none) = (q, r, inr here, none)

    at_first : (all_known known ds ≡ false → (q : List ℕ) × (r : Qualified) × Declares ds q r × (known q ≡ None)) → (known d.0 ≡ None) ⊎ ((k : TableEntry) × (known d.0 ≡ Some k)) → (is_some (known d.0) && all_known known ds) ≡ false → (q : List ℕ) × (r : Qualified) × Declares (d ∷ ds) q r × (known q ≡ None)
    at_first more (inl none) lacks = (d.0, d.1, inl (refl, refl), none)
    at_first more (inr some) lacks = later (more (rest_false some.0 some.1 lacks))

unknown_has_no_size : (known : TypeTable) (q : List ℕ) → known q ≡ None → (s : Extent) → size_in known (qualified.common q) ≡ Some s → ⊥
unfolding size_in
unknown_has_no_size known q none s e = none_some (sym (ap (λ (o : Option TableEntry). option_map (λ k. k.size) o) none) ∙ e)

pub has_no_expansion : (commons : Declarations) (known : TypeTable) → AreSettled known commons → all_known known commons ≡ false → SomeHasNoExpansion commons
has_no_expansion commons known settled lacks =
    let p = none_of known commons lacks in record {
      name = p.0;
      type = p.1;
      declared = p.2;
      has_no_expansion = λ t w. let s = has_size commons known settled (qualified.common p.0) t w in unknown_has_no_size known p.0 p.3 s.0 s.1;
    }

-- ---- what an insertion adds

pub added_at : (name : List ℕ) (r : Qualified) (old new : Map) (key : String Global) (k : CommonEntry) (o : Option CommonEntry) → string_bytes key ≡ name
    → (is_some (get_by_text old name) ≡ false) → Updates string_cmp old new key (Some k) → btree_map_len new ≡ btree_map_len old + (if is_some o then 0 else 1) → o ≡ get string_cmp old key → size_in (type_table old) r ≡ Some (known_view k).size → (known_view k).whole ≡ built_of (type_table old) (known_view k).size r
    → Steps (name, r) old new
added_at name r old new key k o named absent updates len was size whole = inr (record {
  longer = let gone : is_some o ≡ false = ap (λ (x : Option CommonEntry). is_some x) was ∙ ap (λ (bs : List ℕ). is_some (get_by_text old bs)) named ∙ absent in let more = ap (λ (b : Bool). btree_map_len old + cond b 0 1) gone in omega (arith, len, more);
  added = known_view k;
  size = size;
  whole = whole;
  known = λ q. known_at q;
})
  where
    by_test : (b : Bool) (x y : Option CommonEntry) → option_map known_view (cond b x y) ≡ cond b (option_map known_view x) (option_map known_view y)
    by_test true x y = refl
    by_test false x y = refl

    known_at : (q : List ℕ) → type_table new q ≡ cond (bytes_eq name q) (Some (known_view k)) (type_table old q)
    known_at q = ap (λ (x : Option CommonEntry). option_map known_view x) (btree_map_updates_text (string_bytes key) old new (Some k) updates q) ∙ rw named (by_test (bytes_eq name q) (Some k) (get_by_text old q))

-- ---- the declarations that are left

pub unknown_left : (known : TypeTable) (d : List ℕ × Qualified) (ds : Declarations) → is_some (known d.0) ≡ false → all_known known (d ∷ ds) ≡ false
unknown_left known d ds none = rw none refl

pub known_left : (known : TypeTable) (d : List ℕ × Qualified) (ds : Declarations) → is_some (known d.0) ≡ true → all_known known (d ∷ ds) ≡ all_known known ds
known_left known d ds some = rw some refl
