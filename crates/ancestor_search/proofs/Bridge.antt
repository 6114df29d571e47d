-- From entities to their numbers and back.
use Rattle.std.proofs.Common.{◌≡◌, ℕ, ◌+◌, ◌<◌, ◌≤◌, zero, suc, List, [], ◌∷◌, ◌++◌, length, get_or, refl, ap, sym, subst, inl, inr, ◌∙◌, arith, Ok, Err}
use Rattle.std.specs.Prelude.{Bool, false, IsTrue, Contains, ◌↔◌, slice_index_or, Vec}
use Rattle.std.specs.declared.alloc.Global.{Global}
use Rattle.std.specs.Borrow.{Bor}
use Rattle.std.specs.List.Sorted.{IsBinarySearchResult, IsSearchInRange, IsNonDecreasingBy}
use Rattle.std.specs.Ordering.{ordering_index}
use Rattle.std.specs.Cmp.{alike_right, tied_itself}
use Rattle.std.specs.declared.cmp.Ordering.{Ordering}
use Rattle.std.specs.declared.cmp.Ordering.TheVariants.{Less, Equal, Greater}
use Rattle.std.proofs.lemmas.Map.Keys.{Less-from_sorted}
use Rattle.std.proofs.lemmas.Bool.{cases_lt}
use Rattle.std.proofs.lemmas.List.Elements.{Contains-append_left, Contains-push, Contains-push_cases}
use Rattle.values.specs.declared.entity_uid.EntityUid.{EntityUid}
use Rattle.values.specs.Names.{uid_cmp, uid_cmp-IsTotalOrder, uid_cmp-IsAntisymmetric}
use Rattle.ancestor_search.specs.Hierarchy.{Parents, Path, IsAncestor, IsAscending, referenced, AreOnCycles}
use Rattle.ancestor_search.specs.Decided.{HaveAllParents}
use Rattle.ancestor_search.specs.inner.Walking.{Way, LeadsTo, edges_of, MarksCycles}
use Rattle.ancestor_search.specs.inner.Numbering.{IsNumber, NumbersAmong, AreNumbered, MarkedBefore}
use Rattle.std.specs.BTreeSet.{insert_key}
use Rattle.ancestor_search.proofs.Members.{insert_key-kept, insert_key-from, insert_key-here, length-referenced}

-- ---- two numbers of one entity are one
pub number_is_one : (us : List EntityUid) → IsAscending us → (i j : ℕ) (x : EntityUid) → IsNumber us i x → IsNumber us j x → i ≡ j
number_is_one us up i j x a b = elim (cases_lt i j) [
  | inl lt ↦ absurd (apart i j lt b.0 a.1 b.1)
  | inr ge ↦ elim (cases_lt j i) [ inl lt ↦ absurd (apart j i lt a.0 b.1 a.1) | inr le ↦ omega (arith, ge, le) ]
]
  where
    apart : (k l : ℕ) → k < l → l < length us → get_or us k x ≡ x → get_or us l x ≡ x → ⊥
    apart k l lt bound ek el =
        let less : uid_cmp (get_or us k x) (get_or us l x) ≡ Less = Less-from_sorted uid_cmp us k l x up lt bound in
        let tied : uid_cmp (get_or us k x) (get_or us l x) ≡ Equal = ap (λ y. uid_cmp y (get_or us l x)) ek ∙ ap (λ y. uid_cmp x y) el ∙ tied_itself uid_cmp-IsTotalOrder x in
        cc (less, tied)

-- ---- what a binary search finds
rises : (a b x : EntityUid) → uid_cmp a b ≡ Less → (r : Ordering) → uid_cmp b x ≡ r → ordering_index (uid_cmp a x) ≤ ordering_index r
rises a b x lt Less e = rw (uid_cmp-IsTotalOrder.trans a b x lt e) (omega arith)
rises a b x lt Equal e = rw (sym (alike_right uid_cmp-IsTotalOrder b x a e) ∙ lt) (omega arith)
rises a b x lt Greater e = top (uid_cmp a x)
  where
    top : (o : Ordering) → ordering_index o ≤ 2
    top Less = omega arith
    top Equal = omega arith
    top Greater = omega arith

comparisons_rise : (xs : List EntityUid) (x : EntityUid) → IsAscending xs → IsNonDecreasingBy (λ y. ordering_index (uid_cmp y x)) xs
comparisons_rise xs x sorted i j d le lt = elim (cases_lt i j) [
  | inl below ↦ rises (get_or xs i d) (get_or xs j d) x (Less-from_sorted uid_cmp xs i j d sorted below lt) (uid_cmp (get_or xs j d) x) refl
  | inr above ↦ let same : i ≡ j = omega arith in rw same (omega arith)
]

pub referenced-at : (ks : List (Bor EntityUid)) (i : ℕ) (d : Bor EntityUid) → get_or (referenced ks) i d.now ≡ (get_or ks i d).now
referenced-at [] i d = refl
referenced-at (k ∷ ks) zero d = refl
referenced-at (k ∷ ks) (suc i) d = referenced-at ks i d

bor : EntityUid → Bor EntityUid
bor x = record { ref_ptr = (0, 0); now = x }

pub number_found : (ks : List (Bor EntityUid)) (x : EntityUid) (i : ℕ) → IsSearchInRange (Ok i) (length ks) → IsBinarySearchResult (λ (y : Bor EntityUid). uid_cmp y.now x) ks (Ok i) → IsNumber (referenced ks) i x
unfolding bor
number_found ks x i bound at = (rw length-referenced bound, referenced-at ks i (bor x) ∙ uid_cmp-IsAntisymmetric _ x (at (bor x)))

pub number_none : (ks : List (Bor EntityUid)) (x : EntityUid) (i : ℕ) → IsAscending (referenced ks) → IsBinarySearchResult (λ (y : Bor EntityUid). uid_cmp y.now x) ks (Err i) → Contains (referenced ks) x → ⊥
unfolding bor
number_none ks x i sorted parted (k, lt, e) =
    let lt' : k < length ks = rw (← length-referenced) lt in
    let parts = parted (λ a b d le l. rw (← referenced-at, ← referenced-at) (comparisons_rise (referenced ks) x sorted a b d.now le (rw length-referenced l))) in
    let tied : uid_cmp (get_or ks k (bor x)).now x ≡ Equal = ap (λ y. uid_cmp y x) (sym (referenced-at ks k (bor x)) ∙ e) ∙ tied_itself uid_cmp-IsTotalOrder x in
    elim (cases_lt k i) [
      | inl below ↦ let less = parts.0 k (bor x) (omega arith) below in cc (less, tied)
      | inr above ↦ let greater = parts.1 k (bor x) above lt' in cc (greater, tied)
    ]

-- ---- one parent more
pub numbers-take : (us : List EntityUid) → IsAscending us → (ps : List EntityUid) (ns : List ℕ) → NumbersAmong us ps ns → (p : EntityUid) (i : ℕ) → IsNumber us i p → NumbersAmong us (ps ++ p ∷ []) (ns ++ i ∷ [])
numbers-take us up ps ns s p i is j = (
  λ h. elim (Contains-push_cases ns i j h) [
    | inl t ↦ let (x, there, num) = (s j).0 t in (x, Contains-append_left ps (p ∷ []) x there, num)
    | inr e ↦ (p, Contains-push ps p, subst (λ k. IsNumber us k p) e is)
  ],
  λ (x, there, num). elim (Contains-push_cases ps p x there) [
    | inl t ↦ Contains-append_left ns (i ∷ []) j ((s j).1 (x, t, num))
    | inr e ↦ let same : i ≡ j = number_is_one us up i j x (subst (λ z. IsNumber us i z) e is) num in subst (λ k. Contains (ns ++ i ∷ []) k) same (Contains-push ns i)
  ],
)

pub numbers-skip : (us : List EntityUid) (ps : List EntityUid) (ns : List ℕ) → NumbersAmong us ps ns → (p : EntityUid) → (Contains us p → ⊥) → NumbersAmong us (ps ++ p ∷ []) ns
numbers-skip us ps ns s p none j = (
  λ h. let (x, there, num) = (s j).0 h in (x, Contains-append_left ps (p ∷ []) x there, num),
  λ (x, there, num). elim (Contains-push_cases ps p x there) [
    | inl t ↦ (s j).1 (x, t, num)
    | inr e ↦ absurd (none (subst (λ z. Contains us z) (sym e) (j, num.0, num.1)))
  ],
)

-- ---- ways of numbers are paths of entities
module _ (p : Parents) (us : List EntityUid) (es : List (Vec ℕ Global)) (a : AreNumbered p us (length us) es) where
  path : (cs : List ℕ) (i j : ℕ) (x : EntityUid) → IsNumber us i x → Way (edges_of es) i cs j → (ds : List EntityUid) × (y : EntityUid) × IsNumber us j y × Path p x ds y
  path [] i j x is h = let (y, there, num) = (a i x is.0 is j).0 h in ([], y, num, there)
  path (c ∷ cs) i j x is h =
      let (z, there, num) = (a i x is.0 is c).0 h.0 in
      let (ds, y, num', rest) = path cs c j z num h.1 in
      (z ∷ ds, y, num', (there, rest))

  stored_on : HaveAllParents p us → (x : EntityUid) (ds : List EntityUid) (y : EntityUid) → Path p x ds y → Contains us x
  stored_on all x [] y h = all x y h
  stored_on all x (d ∷ ds) y h = all x d h.0

  way : HaveAllParents p us → (ds : List EntityUid) (i j : ℕ) (x y : EntityUid) → IsNumber us i x → IsNumber us j y → Path p x ds y → LeadsTo (edges_of es) j i
  way all [] i j x y is js h = ([], (a i x is.0 is j).1 (y, h, js))
  way all (d ∷ ds) i j x y is js h =
      let (k, lt, e) = stored_on all d ds y h.1 in
      let (cs, rest) = way all ds k j d y (lt, e) js h.1 in
      (k ∷ cs, ((a i x is.0 is k).1 (d, h.0, (lt, e)), rest))

  pub on_cycle_iff : HaveAllParents p us → (i : ℕ) (x : EntityUid) → IsNumber us i x → LeadsTo (edges_of es) i i ↔ IsAncestor p x x
  on_cycle_iff all i x is = (
    λ h. let (ds, y, num, found) = path h.0 i i x is h.1 in
        let same : y ≡ x = sym num.1 ∙ ap (λ z. z) (get_same us i y x num.0) ∙ is.1 in
        (ds, subst (λ z. Path p x ds z) same found),
    λ above. way all above.0 i i x x is is above.1,
  )
    where
      get_same : (l : List EntityUid) (k : ℕ) (d d' : EntityUid) → k < length l → get_or l k d ≡ get_or l k d'
      get_same [] k d d' lt = absurd (omega (arith, lt))
      get_same (z ∷ zs) zero d d' lt = refl
      get_same (z ∷ zs) (suc k) d d' lt = get_same zs k d d' (omega (arith, lt))

get_same : (l : List EntityUid) (k : ℕ) (d d' : EntityUid) → k < length l → get_or l k d ≡ get_or l k d'
get_same [] k d d' lt = absurd (omega (arith, lt))
get_same (z ∷ zs) zero d d' lt = refl
get_same (z ∷ zs) (suc k) d d' lt = get_same zs k d d' (omega (arith, lt))

one_entity : (us : List EntityUid) (k : ℕ) (x y : EntityUid) → IsNumber us k x → IsNumber us k y → x ≡ y
one_entity us k x y a b = sym a.1 ∙ get_same us k x y a.0 ∙ b.1

edges_of-left : (es : List (Vec ℕ Global)) (v : Vec ℕ Global) (i : ℕ) → i < length es → edges_of (es ++ v ∷ []) i ≡ edges_of es i
edges_of-left [] v i lt = absurd (omega (arith, lt))
edges_of-left (w ∷ ws) v zero lt = refl
edges_of-left (w ∷ ws) v (suc i) lt = edges_of-left ws v i (omega (arith, lt))

edges_of-here : (es : List (Vec ℕ Global)) (v : Vec ℕ Global) → edges_of (es ++ v ∷ []) (length es) ≡ v.items
edges_of-here [] v = refl
edges_of-here (w ∷ ws) v = edges_of-here ws v

pub numbered-more : (p : Parents) (us : List EntityUid) (es : List (Vec ℕ Global)) (v : Vec ℕ Global) (k : ℕ) → length es ≡ k → AreNumbered p us k es → (x : EntityUid) → IsNumber us k x → NumbersAmong us (p x) v.items → AreNumbered p us (k + 1) (es ++ v ∷ [])
numbered-more p us es v k len s x is n i y lt num = elim (cases_lt i k) [
  | inl below ↦ subst (λ l. NumbersAmong us (p y) l) (sym (edges_of-left es v i (omega (arith, below, len)))) (s i y below num)
  | inr above ↦
      let same : i ≡ k = omega (arith, above, lt) in
      let at : i ≡ length es = same ∙ sym len in
      let one : x ≡ y = one_entity us k x y is (subst (λ z. IsNumber us z y) same num) in
      subst (λ z. NumbersAmong us (p z) (edges_of (es ++ v ∷ []) i)) one (subst (λ z. NumbersAmong us (p x) (edges_of (es ++ v ∷ []) z)) (sym at) (subst (λ l. NumbersAmong us (p x) l) (sym (edges_of-here es v)) n))
]

module _ (us : List EntityUid) (marks : List Bool) (k : ℕ) (found : List EntityUid) (s : MarkedBefore us marks k found) where
  pub marked-skip : slice_index_or marks k false ≡ false → MarkedBefore us marks (k + 1) found
  marked-skip off x = (
    λ h. let (i, lt, num, t) = (s x).0 h in (i, omega (arith, lt), num, t),
    λ (i, lt, num, t). elim (cases_lt i k) [
      | inl below ↦ (s x).1 (i, below, num, t)
      | inr above ↦ let same : i ≡ k = omega (arith, above, lt) in let t' : IsTrue (slice_index_or marks k false) = subst (λ z. IsTrue (slice_index_or marks z false)) same t in cc (t', off)
    ],
  )

  pub marked-take : IsTrue (slice_index_or marks k false) → (y : EntityUid) → IsNumber us k y → MarkedBefore us marks (k + 1) (insert_key uid_cmp found y)
  marked-take on y is x = (
    λ h. elim (insert_key-from uid_cmp found y x h) [
      | inl old ↦ let (i, lt, num, t) = (s x).0 old in (i, omega (arith, lt), num, t)
      | inr same ↦ (k, omega arith, subst (λ z. IsNumber us k z) same is, on)
    ],
    λ (i, lt, num, t). elim (cases_lt i k) [
      | inl below ↦ insert_key-kept uid_cmp found y x ((s x).1 (i, below, num, t))
      | inr above ↦
          let same : i ≡ k = omega (arith, above, lt) in
          subst (λ z. Contains (insert_key uid_cmp found y) z) (one_entity us k y x is (subst (λ z. IsNumber us z x) same num)) (insert_key-here uid_cmp uid_cmp-IsAntisymmetric found y)
    ],
  )

pub all_found : (p : Parents) (us : List EntityUid) (es : List (Vec ℕ Global)) (marks : List Bool) (found : List EntityUid) → AreNumbered p us (length us) es → HaveAllParents p us → MarksCycles (edges_of es) marks → MarkedBefore us marks (length us) found → AreOnCycles p found
all_found p us es marks found a all m s x = (
  λ h. let (i, lt, num, t) = (s x).0 h in (on_cycle_iff p us es a all i x num).0 ((m i).0 t),
  λ above.
      let (i, lt, e) = stored_on p us es a all x above.0 x above.1 in
      (s x).1 (i, lt, (lt, e), (m i).1 ((on_cycle_iff p us es a all i x (lt, e)).1 above)),
)
