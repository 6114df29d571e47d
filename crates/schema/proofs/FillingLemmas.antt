-- Entries that are added to a map.
use Rattle.std.proofs.Common.{ℕ, zero, suc, arith, ◌+◌, ◌<◌, ◌≤◌, map, length, drop, get_or, ◌≡◌, ◌∙◌, Bool, true}
use Rattle.std.proofs.Common.{false, cond, List, [], ◌∷◌, Option, Some, None, refl, sym, subst, inl, inr}
use Rattle.std.specs.Prelude.{Contains, IsSome, ◌⊎◌}
use Rattle.std.specs.Ordering.{is_eq}
use Rattle.std.specs.declared.cmp.Ordering.{Ordering}
use Rattle.std.specs.BTreeMap.{BTreeMap, get, Updates, IsEmpty}
use Rattle.std.specs.FinMap.{IsAntisymmetric}
use Rattle.std.proofs.lemmas.List.{drop_all}
use Rattle.std.proofs.lemmas.Map.Views.{tells_apart}
use Rattle.json_words.proofs.EachSame.{cut}
use Rattle.ancestor_search.specs.Deciding.{Contains-here, Contains-there, Contains-cases, Contains-none}
use Rattle.schema.specs.inner.Filling.{AddsEntries, AddsEach}

module _ {X K V : Type 0} (may : X → K → V → Type 0) (must : X → K → Type 0) (told : X → Type 0) where
  pub adds_none : (old : K → Option V) → AddsEach may must told [] old old
  adds_none old = record {
    sound = λ k v e. inr e;
    all = λ k m. Contains-none m.0 m.1;
    kept = λ k e. e;
    also = λ x h. Contains-none x h;
  }

  pub adds_both : (x : X) (xs : List X) (old mid new : K → Option V)
      → AddsEntries (may x) (must x) (told x) old mid → AddsEach may must told xs mid new → AddsEach may must told (x ∷ xs) old new
  adds_both x xs old mid new one rest = record {
    sound = λ k v e. elim (rest.sound k v e) [
      | inl m ↦ inl (m.0, Contains-there x xs m.0 m.1, m.2)
      | inr before ↦ elim (one.sound k v before) [
        | inl m ↦ inl (x, Contains-here x xs, m)
        | inr older ↦ inr older
      ]
    ];
    all = λ k m. elim (Contains-cases x xs m.0 m.1) [
      | inl same ↦ rest.kept k (one.all k (subst (λ (y : X). must y k) (sym same) m.2))
      | inr later ↦ rest.all k (m.0, later, m.2)
    ];
    kept = λ k e. rest.kept k (one.kept k e);
    also = λ y h. elim (Contains-cases x xs y h) [
      | inl same ↦ subst told same one.also
      | inr later ↦ rest.also y later
    ];
  }

  -- from the map that has nothing
  pub adds_first : (xs : List X) (old new : K → Option V) → ((k : K) → old k ≡ None) → AddsEach may must told xs old new
      → AddsEach may must told xs (λ k. None) new
  adds_first xs old new none h = record {
    sound = λ k v e. elim (h.sound k v e) [
      | inl m ↦ inl m
      | inr before ↦ inr (sym (none k) ∙ before)
    ];
    all = h.all;
    kept = λ k e. absurd cc;
    also = h.also;
  }

  -- a loop over a list
  pub plain_step : (xs : List X) (i : ℕ) (x : X) (old mid new : K → Option V) → i < length xs → x ≡ get_or xs i x
      → AddsEntries (may x) (must x) (told x) old mid → AddsEach may must told (drop (i + 1) xs) mid new
      → AddsEach may must told (drop i xs) old new
  plain_step xs i x old mid new lt at one rest =
      subst (λ (zs : List X). AddsEach may must told zs old new) (sym (cut xs i x lt at)) (adds_both x (drop (i + 1) xs) old mid new one rest)

  pub plain_end : (xs : List X) (i : ℕ) (old : K → Option V) → length xs ≤ i → AddsEach may must told (drop i xs) old old
  plain_end xs i old le = subst (λ (zs : List X). AddsEach may must told zs old old) (sym (drop_all i xs le)) (adds_none old)

  -- a loop over a list that is seen through a view
  module _ {Y : Type 0} (view : Y → X) (ys : List Y) where
    pub each_step : (i : ℕ) (y : Y) (old mid new : K → Option V) → i < length ys → y ≡ get_or ys i y
        → AddsEntries (may (view y)) (must (view y)) (told (view y)) old mid → AddsEach may must told (map view (drop (i + 1) ys)) mid new
        → AddsEach may must told (map view (drop i ys)) old new
    each_step i y old mid new lt at one rest =
        subst (λ (zs : List Y). AddsEach may must told (map view zs) old new) (sym (cut ys i y lt at))
        (adds_both (view y) (map view (drop (i + 1) ys)) old mid new one rest)

    pub each_end : (i : ℕ) (old : K → Option V) → length ys ≤ i → AddsEach may must told (map view (drop i ys)) old old
    each_end i old le = subst (λ (zs : List Y). AddsEach may must told (map view zs) old old) (sym (drop_all i ys le)) (adds_none old)

-- an item of a list, seen through a view
pub contains_item : {X Y : Type 0} (view : Y → X) (ys : List Y) (i : ℕ) (y : Y) → i < length ys → y ≡ get_or ys i y → Contains (map view ys) (view y)
contains_item view [] i y lt e = absurd (omega arith)
contains_item view (z ∷ zs) zero y lt e = subst (λ x. Contains (view z ∷ map view zs) (view x)) (sym e) (Contains-here (view z) (map view zs))
contains_item view (z ∷ zs) (suc i) y lt e = Contains-there (view z) (map view zs) (view y) (contains_item view zs i y (omega arith) e)

pub get_empty : {K V : Type 0} (R : K → K → Ordering) (m : BTreeMap K V) → IsEmpty m → (k : K) → get R m k ≡ None
get_empty R m e k = rw e refl

-- an entry that was inserted
module _ {K V : Type 0} {R : K → K → Ordering} (exact : IsAntisymmetric R) (m n : BTreeMap K V) (key : K) (value : V) (updates : Updates R m n key (Some value)) where
  found : (May : K → V → Type 0) → May key value → (k : K) (v : V) (b : Bool) → is_eq (R key k) ≡ b
      → cond b (Some value) (get R m k) ≡ Some v → May k v ⊎ (get R m k ≡ Some v)
  found May may k v true same e =
      let here : value ≡ v = cc in
      inl (subst (λ (q : K). May q v) (tells_apart exact key k same) (subst (λ (w : V). May key w) here may))
  found May may k v false apart e = inr e

  stays : (k : K) (b : Bool) → IsSome (get R m k) → IsSome (cond b (Some value) (get R m k))
  stays k true e = refl
  stays k false e = e

  pub adds_entry : (May : K → V → Type 0) (Must : K → Type 0) (Also : Type 0) → May key value → ((k : K) → Must k → key ≡ k) → Also
      → AddsEntries May Must Also (get R m) (get R n)
  adds_entry May Must Also may must told = record {
    sound = λ k v e. found May may k v (is_eq (R key k)) refl (sym (updates.0 k) ∙ e);
    all = λ k m. subst (λ (q : K). IsSome (get R n q)) (must k m) (rw updates.1 refl);
    kept = λ k e. subst (λ (o : Option V). IsSome o) (sym (updates.0 k)) (stays k (is_eq (R key k)) e);
    also = told;
  }

-- the same map change, said in other words
pub adds_as : {K V : Type 0} (May May' : K → V → Type 0) (Must Must' : K → Type 0) (Also Also' : Type 0) (old new : K → Option V)
    → ((k : K) (v : V) → May k v → May' k v) → ((k : K) → Must' k → Must k) → (Also → Also')
    → AddsEntries May Must Also old new → AddsEntries May' Must' Also' old new
adds_as May May' Must Must' Also Also' old new may must told h = record {
  sound = λ k v e. elim (h.sound k v e) [
    | inl m ↦ inl (may k v m)
    | inr before ↦ inr before
  ];
  all = λ k m. h.all k (must k m);
  kept = h.kept;
  also = told h.also;
}
