-- Candidates, as lists of policies with their ids.
use Rattle.std.proofs.Common.{◌≡◌, ◌∙◌, refl, sym, ap, subst, true, false, cond, List, [], ◌∷◌, ◌++◌, map, inl, inr}
use Rattle.std.specs.Prelude.{ℕ, ◌↔◌, ◌⊎◌, Contains, string_bytes, Option, Some, None, Result, Ok, Err, OnOk, IfOk, Vec}
use Rattle.std.specs.List.{All, AllByRecursion}
use Rattle.std.specs.List.Sorted.{IsStrictlySortedBy}
use Rattle.std.specs.BTreeMap.{get, keys}
use Rattle.std.specs.Map.{keys_of}
use Rattle.std.specs.String.{string_cmp}
use Rattle.std.specs.Ordering.{is_eq}
use Rattle.std.specs.declared.cmp.Ordering.{Ordering}
use Rattle.std.specs.declared.cmp.Ordering.TheVariants.{Less, Equal, Greater}
use Rattle.std.specs.declared.alloc.Global.{Global}
use Rattle.std.specs.declared.string.String.{String}
use Rattle.std.specs.Borrow.{Bor}
use Rattle.std.specs.Map.Iter.{deref_pair}
use Rattle.ancestor_search.specs.Hierarchy.{Parents, IsIn, AreAllAncestorsOf, referenced}
use Rattle.std.proofs.lemmas.List.Elements.{Contains-push, Contains-push_cases, Contains-append_left, All-head, All-tail}
use Rattle.values.specs.declared.entity_uid.EntityUid.{EntityUid}
use Rattle.values.specs.Names.{text_cmp, text_cmp-IsAntisymmetric}
use Rattle.ancestor_search.specs.Deciding.{Contains-none, Contains-here, Contains-there, Contains-cases}
use Rattle.ancestor_search.proofs.Members.{referenced-push}
use Rattle.values.specs.declared.request.Request.{Request}
use Rattle.policy_grammar.specs.declared.policy.Policy.{Policy}
use Rattle.scope_index.specs.declared.buckets.Buckets.{Buckets}
use Rattle.scope_index.specs.Keys.{IndexKey, Always, Principal, Resource, index_key, IsMet, Kept, kept_at, Candidate, ids, lent, IsCandidate}
use Rattle.scope_index.specs.Scopes.{IsScopeTrue}
use Rattle.scope_index.specs.Buckets.{Bucket, policy_in_bucket, is_same_key, policy_of_key, policy_with_key, AreFiled, BucketsHaveOnePolicyPerId, HaveOnePolicyPerIdTogether, HaveOnePolicyPerId, IsCandidateByEntity}
use Rattle.scope_index.proofs.Filing.{key_self, key_same}
use Rattle.scope_index.proofs.Meeting.{scope_meets}

-- after holds what before holds, and what P says
abbrev pub Offers : (Candidate → Type 0) → List Candidate → List Candidate → Type 0
Offers P before after = (o : Candidate) → Contains after o ↔ Contains before o ⊎ P o

pub Contains-pushed : {A : Type 0} (xs : List A) (x y : A) → Contains (xs ++ x ∷ []) y ↔ Contains xs y ⊎ (x ≡ y)
Contains-pushed xs x y = (
  Contains-push_cases xs x y,
  (λ s. elim s [
    | inl t ↦ Contains-append_left xs (x ∷ []) y t
    | inr e ↦ subst (λ z. Contains (xs ++ x ∷ []) z) e (Contains-push xs x)
  ]),
)

-- a policy with its id, by reference
abbrev pub Lent : Type 0
Lent = Bor (List ℕ) × Bor Policy

abbrev pub behind : Lent → Candidate
behind x = (x.0.now, x.1.now)

pub lent-push : (xs : List Lent) (x : Lent) → lent (xs ++ x ∷ []) ≡ lent xs ++ behind x ∷ []
lent-push [] x = refl
lent-push (y ∷ ys) x = ap (λ r. behind y ∷ r) (lent-push ys x)

-- one policy more
pub one_more : (P : Candidate → Type 0) (before : List Candidate) (xs xs' : List Lent) (x : Lent)
    → xs' ≡ xs ++ x ∷ [] → Offers P before (lent xs)
    → Offers (λ o. P o ⊎ (behind x ≡ o)) before (lent xs')
one_more P before xs xs' x is so_far o =
    let shown : lent xs' ≡ lent xs ++ behind x ∷ [] = ap lent is ∙ lent-push xs x in
    let pushed = Contains-pushed (lent xs) (behind x) o in (
      (λ h. elim (pushed.0 (subst (λ l. Contains l o) shown h)) [
        | inl old ↦ elim ((so_far o).0 old) [ inl b ↦ inl b | inr p ↦ inr (inl p) ]
        | inr e ↦ inr (inr e)
      ]),
      (λ s. subst (λ l. Contains l o) (sym shown) (pushed.1 (elim s [
        | inl b ↦ inl ((so_far o).1 (inl b))
        | inr p ↦ elim p [
          | inl p ↦ inl ((so_far o).1 (inr p))
          | inr e ↦ inr e
        ]
      ]))),
    )

-- the same policies said otherwise
pub said_as : (P Q : Candidate → Type 0) (before after : List Candidate) → ((o : Candidate) → P o ↔ Q o) → Offers P before after
    → Offers Q before after
said_as P Q before after same h o = (
  (λ m. elim ((h o).0 m) [ inl b ↦ inl b | inr p ↦ inr ((same o).0 p) ]),
  (λ s. elim s [ inl b ↦ (h o).1 (inl b) | inr p ↦ (h o).1 (inr ((same o).1 p)) ]),
)

pub nothing_more : (P : Candidate → Type 0) (xs : List Candidate) → ((o : Candidate) → P o → ⊥) → Offers P xs xs
nothing_more P xs none o = ((λ h. inl h), (λ s. elim s [ inl b ↦ b | inr p ↦ absurd (none o p) ]))

-- nothing more, where there is only more room
pub nothing_yet : (P : Candidate → Type 0) (xs ys : List Lent) → ys ≡ xs → ((o : Candidate) → P o → ⊥) → Offers P (lent xs) (lent ys)
nothing_yet P xs ys same none = subst (λ zs. Offers P (lent xs) (lent zs)) (sym same) (nothing_more P (lent xs) none)

-- two in turn
pub in_turn : (P Q : Candidate → Type 0) (xs ys zs : List Candidate) → Offers P xs ys → Offers Q ys zs → Offers (λ o. P o ⊎ Q o) xs zs
in_turn P Q xs ys zs h k o = (
  (λ m. elim ((k o).0 m) [
    | inl b ↦ elim ((h o).0 b) [ inl b ↦ inl b | inr p ↦ inr (inl p) ]
    | inr s ↦ inr (inr s)
  ]),
  (λ s. elim s [
    | inl b ↦ (k o).1 (inl ((h o).1 (inl b)))
    | inr e ↦ elim e [ inl p ↦ (k o).1 (inl ((h o).1 (inr p))) | inr r ↦ (k o).1 (inr r) ]
  ]),
)

-- ---- the policies of a bucket

abbrev pub Pair : Type 0
Pair = Bor (String Global) × Bor Policy

-- entries by the bytes of their ids, and the same of references
abbrev pub offers_of : Kept → List Candidate
offers_of es = map (λ e. (string_bytes e.0, e.1)) es

abbrev pub offers_lent : List Pair → List Candidate
offers_lent xs = map (λ x. (string_bytes x.0.now, x.1.now)) xs

pub offers_lent-push : (xs : List Pair) (x : Pair) → offers_lent (xs ++ x ∷ []) ≡ offers_lent xs ++ (string_bytes x.0.now, x.1.now) ∷ []
offers_lent-push [] x = refl
offers_lent-push (y ∷ ys) x = ap (λ r. (string_bytes y.0.now, y.1.now) ∷ r) (offers_lent-push ys x)

lent-is : (xs : List Pair) → offers_lent xs ≡ offers_of (map deref_pair xs)
lent-is [] = refl
lent-is (x ∷ xs) = ap (λ r. (string_bytes x.0.now, x.1.now) ∷ r) (lent-is xs)

equal_of : (r : Ordering) → is_eq r ≡ true → r ≡ Equal
equal_of Less h = absurd (cc)
equal_of Equal h = refl
equal_of Greater h = absurd (cc)

-- an entry is found
found_entry : (w : Bucket) (es : Kept) → All (λ e. get string_cmp w e.0 ≡ Some e.1) es → (o : Candidate) → Contains (offers_of es) o
    → kept_at w.entries o.0 ≡ Some o.1
found_entry w [] all o h = Contains-none o h
found_entry w (e ∷ es) all o h = elim (Contains-cases (string_bytes e.0, e.1) (offers_of es) o h) [
  | inl same ↦ subst (λ (x : Candidate). kept_at w.entries x.0 ≡ Some x.1) same (All-head (λ (x : String Global × Policy). get string_cmp w x.0 ≡ Some x.1) e es all)
  | inr t ↦ found_entry w es (All-tail (λ (x : String Global × Policy). get string_cmp w x.0 ≡ Some x.1) e es all) o t
]

same_offer : (x o : Candidate) → x.0 ≡ o.0 → x.1 ≡ o.1 → x ≡ o
same_offer x o id policy = λ i. (id i, policy i)

-- what is found is an entry
entry_found : (es : Kept) (o : Candidate) → kept_at es o.0 ≡ Some o.1 → Contains (offers_of es) o
entry_found [] o h = absurd (cc (h))
entry_found (e ∷ es) o h =
    elim (is_eq (text_cmp o.0 (string_bytes e.0))) as (λ t. is_eq (text_cmp o.0 (string_bytes e.0)) ≡ t
    → cond t (Some e.1) (kept_at es o.0) ≡ Some o.1 → Contains (offers_of (e ∷ es)) o) [
      | true ↦ λ is f.
          let id : o.0 ≡ string_bytes e.0 = text_cmp-IsAntisymmetric o.0 (string_bytes e.0) (equal_of _ is) in
          let policy : e.1 ≡ o.1 = cc (f) in
          subst (λ (x : Candidate). Contains (offers_of (e ∷ es)) x) (same_offer (string_bytes e.0, e.1) o (sym id) policy) (Contains-here (string_bytes e.0, e.1) (offers_of es))
      | false ↦ λ apart f. Contains-there (string_bytes e.0, e.1) (offers_of es) o (entry_found es o f)
    ] refl h

pub pushed_pair : (xs : List Pair) (x : Pair) (k : Bor (List ℕ)) → k.now ≡ string_bytes x.0.now
    → (o : Candidate) → (Contains (offers_lent xs) o ⊎ (behind (k, x.1) ≡ o)) ↔ Contains (offers_lent (xs ++ x ∷ [])) o
pushed_pair xs x k is o =
    let here : behind (k, x.1) ≡ (string_bytes x.0.now, x.1.now) = ap (λ (b : List ℕ). (b, x.1.now)) is in
    let pushed = Contains-pushed (offers_lent xs) (string_bytes x.0.now, x.1.now) o in
    let shown = offers_lent-push xs x in (
      (λ s. subst (λ l. Contains l o) (sym shown) (pushed.1 (elim s [ inl m ↦ inl m | inr e ↦ inr (sym here ∙ e) ]))),
      (λ h. elim (pushed.0 (subst (λ l. Contains l o) shown h)) [ inl m ↦ inl m | inr e ↦ inr (here ∙ e) ]),
    )

pub all_lent : (w : Bucket) (xs : List Pair) → map deref_pair xs ≡ w.entries
    → All (λ e. get string_cmp w e.0 ≡ Some e.1) w.entries
    → (o : Candidate) → Contains (offers_lent xs) o ↔ (kept_at w.entries o.0 ≡ Some o.1)
all_lent w xs whole all o =
    let shown : offers_lent xs ≡ offers_of w.entries = lent-is xs ∙ ap offers_of whole in (
      (λ h. found_entry w w.entries all o (subst (λ l. Contains l o) shown h)),
      (λ e. subst (λ l. Contains l o) (sym shown) (entry_found w.entries o e)),
    )

-- a bucket's entries ascend
texts_ascend : (k : String Global) (es : Kept) → AllByRecursion (λ y. string_cmp k y ≡ Less) (keys_of es)
    → AllByRecursion (λ y. text_cmp (string_bytes k) y ≡ Less) (ids (offers_of es))
texts_ascend k [] all = tt
texts_ascend k (e ∷ es) all = (all.0, texts_ascend k es all.1)

entries_ascend : (es : Kept) → IsStrictlySortedBy string_cmp (keys_of es) → IsStrictlySortedBy text_cmp (ids (offers_of es))
unfolding IsStrictlySortedBy
entries_ascend [] s = tt
entries_ascend (e ∷ es) s = (texts_ascend e.0 es s.0, entries_ascend es s.1)

pub lent_ascend : (w : Bucket) (xs : List Pair) → map deref_pair xs ≡ w.entries → IsStrictlySortedBy string_cmp (keys w)
    → IsStrictlySortedBy text_cmp (ids (offers_lent xs))
lent_ascend w xs whole s =
    subst (λ os. IsStrictlySortedBy text_cmp (ids os)) (sym (lent-is xs ∙ ap offers_of whole)) (entries_ascend w.entries s)

-- ---- the turns of the loops

-- has says of each entity which policies are under it
pub one_entity_more : (Has : EntityUid → Candidate → Type 0) (xs : List (Bor EntityUid)) (x : Bor EntityUid) (o : Candidate)
    → (((e : EntityUid) × Contains (referenced xs) e × Has e o) ⊎ Has x.now o)
    ↔ ((e : EntityUid) × Contains (referenced (xs ++ x ∷ [])) e × Has e o)
one_entity_more Has xs x o =
    let shown = referenced-push xs x in (
      (λ s. elim s [
        | inl f ↦ (f.0, subst (λ l. Contains l f.0) (sym shown) ((Contains-pushed (referenced xs) x.now f.0).1 (inl f.1)), f.2)
        | inr t ↦ (x.now, subst (λ l. Contains l x.now) (sym shown) ((Contains-pushed (referenced xs) x.now x.now).1 (inr refl)), t)
      ]),
      (λ f. elim ((Contains-pushed (referenced xs) x.now f.0).0 (subst (λ l. Contains l f.0) shown f.1)) [
        | inl m ↦ inl (f.0, m, f.2)
        | inr e ↦ inr (subst (λ z. Has z o) (sym e) f.2)
      ]),
    )

-- an entity and those above it
pub it_and_above : (parents : Parents) (Has : EntityUid → Candidate → Type 0) (uid : EntityUid) (above : List EntityUid)
    → AreAllAncestorsOf parents uid above → (o : Candidate)
    → (Has uid o ⊎ ((e : EntityUid) × Contains above e × Has e o)) ↔ ((e : EntityUid) × IsIn parents uid e × Has e o)
it_and_above parents Has uid above all o = (
  (λ s. elim s [ inl t ↦ (uid, inl refl, t) | inr f ↦ (f.0, inr ((all f.0).0 f.1), f.2) ]),
  (λ f. elim f.1 [
    | inl e ↦ inl (subst (λ z. Has z o) (sym e) f.2)
    | inr a ↦ inr (f.0, (all f.0).1 a, f.2)
  ]),
)

-- ---- the calls

pub offered_under : {E : Type 0} (r : Result (Unit {0}) E) (held : Option Bucket) (w : Bucket) → held ≡ Some w → (before after : List Candidate)
    → OnOk r (Offers (λ o. kept_at w.entries o.0 ≡ Some o.1) before after) → OnOk r (Offers (λ o. policy_in_bucket held o.0 ≡ Some o.1) before after)
offered_under (Ok u) held w is before after h = subst (λ x. Offers (λ o. policy_in_bucket x o.0 ≡ Some o.1) before after) (sym is) h
offered_under (Err e) held w is before after h = tt

pub none_under : (held : Option Bucket) → held ≡ None → (before : List Candidate) → Offers (λ o. policy_in_bucket held o.0 ≡ Some o.1) before before
none_under held none before = nothing_more (λ o. policy_in_bucket held o.0 ≡ Some o.1) before
    (λ o e. let both : None ≡ Some o.1 = sym (ap (λ h. policy_in_bucket h o.0) none) ∙ e in cc (both))

-- what is under the keys that a request finds
abbrev pub IsFound : Parents → Request → Buckets → Candidate → Type 0
IsFound parents q b o = (k : IndexKey) × IsMet parents q k × (policy_of_key b k o.0 ≡ Some o.1)

found_under : (parents : Parents) (q : Request) (b : Buckets) (o : Candidate) → ((kept_at b.always.entries o.0 ≡ Some o.1) ⊎ IsCandidateByEntity parents q b o) ↔ IsFound parents q b o
found_under parents q b o = (
  (λ s. elim s [
    | inl t ↦ (Always, tt, t)
    | inr u ↦ elim u [ inl f ↦ (Principal f.0, f.1, f.2) | inr f ↦ (Resource f.0, f.1, f.2) ]
  ]),
  (λ f. by_kind f.0 f.1 f.2),
)
  where
    by_kind : (k : IndexKey) → IsMet parents q k → policy_of_key b k o.0 ≡ Some o.1 → (kept_at b.always.entries o.0 ≡ Some o.1) ⊎ IsCandidateByEntity parents q b o
    by_kind Always met t = inl t
    by_kind (Principal e) met t = inr (inl (e, met, t))
    by_kind (Resource e) met t = inr (inr (e, met, t))

pub offered_in_all : (parents : Parents) (q : Request) (b : Buckets) (none always all : List Candidate) → none ≡ []
    → Offers (λ o. kept_at b.always.entries o.0 ≡ Some o.1) none always
    → Offers (λ o. IsCandidateByEntity parents q b o) always all
    → (o : Candidate) → Contains all o ↔ IsFound parents q b o
offered_in_all parents q b none always all is a u o =
    let found = found_under parents q b o in (
      (λ h. elim ((u o).0 h) [
        | inl before ↦ elim ((a o).0 before) [
          | inl before ↦ Contains-none o (subst (λ l. Contains l o) is before)
          | inr t ↦ found.0 (inl t)
        ]
        | inr f ↦ found.0 (inr f)
      ]),
      (λ f. elim (found.1 f) [ inl t ↦ (u o).1 (inl ((a o).1 (inr t))) | inr f ↦ (u o).1 (inr f) ]),
    )

-- those of every request in one list, the others in another
module _ (parents : Parents) (q : Request) (b : Buckets) (none others always : List Candidate) (is : none ≡ [])
    (u : Offers (λ o. IsCandidateByEntity parents q b o) none others)
    (a : (o : Candidate) → Contains always o ↔ (kept_at b.always.entries o.0 ≡ Some o.1)) where
  in_either : (o : Candidate) → (Contains always o ⊎ Contains others o) ↔ IsFound parents q b o
  in_either o =
      let found = found_under parents q b o in (
        (λ s. elim s [
          | inl t ↦ found.0 (inl ((a o).0 t))
          | inr t ↦ elim ((u o).0 t) [
            | inl before ↦ Contains-none o (subst (λ l. Contains l o) is before)
            | inr f ↦ found.0 (inr f)
          ]
        ]),
        (λ f. elim (found.1 f) [ inl t ↦ inl ((a o).1 t) | inr f ↦ inr ((u o).1 (inr f)) ]),
      )

  pub offered_beside : (all : List Candidate) → ((o : Candidate) → Contains all o ↔ Contains always o ⊎ Contains others o)
      → (o : Candidate) → Contains all o ↔ IsFound parents q b o
  offered_beside all j o = ((λ h. (in_either o).0 ((j o).0 h)), (λ f. (j o).1 ((in_either o).1 f)))

  pub one_among : BucketsHaveOnePolicyPerId b → HaveOnePolicyPerIdTogether always others
  one_among one id p r has_p has_r =
      let f = (in_either (id, p)).0 has_p in
      let g = (in_either (id, r)).0 has_r in
      one f.0 g.0 id p r f.2 g.2

-- ---- what is in a bucket is kept, under its key

due_is : (k : IndexKey) (o : Option Policy) (p : Policy) → policy_with_key k o ≡ Some p → (o ≡ Some p) × (index_key p.scope ≡ k)
due_is k None p e = absurd (cc (e))
due_is k (Some x) p e =
    elim (is_same_key (index_key x.scope) k) as (λ t. is_same_key (index_key x.scope) k ≡ t → cond t (Some x) None ≡ Some p
    → (Some x ≡ Some p) × (index_key p.scope ≡ k)) [
      | true ↦ λ is f. (f, subst (λ (y : Policy). index_key y.scope ≡ k) (one x f) (key_same (index_key x.scope) k is))
      | false ↦ λ is f. absurd (cc (f))
    ] refl e
  where
    one : (x : Policy) → Some x ≡ Some p → x ≡ p
    one x f = cc (f)

is_due : (p : Policy) → policy_with_key (index_key p.scope) (Some p) ≡ Some p
is_due p = ap (λ t. cond t (Some p) None) (key_self (index_key p.scope))

pub have_one : (seen kept : Kept) (b : Buckets) → kept ≡ seen → AreFiled kept b → BucketsHaveOnePolicyPerId b
have_one seen kept b is filed k l q p r at_k at_l =
    let first : kept_at kept q ≡ Some p = (due_is k (kept_at kept q) p (sym (filed k q) ∙ at_k)).0 in
    let second : kept_at kept q ≡ Some r = (due_is l (kept_at kept q) r (sym (filed l q) ∙ at_l)).0 in
    cc (first, second)

pub one_at_each : (parents : Parents) (q : Request) (b : Buckets) (os : List Candidate) → BucketsHaveOnePolicyPerId b
    → ((o : Candidate) → Contains os o ↔ IsFound parents q b o) → HaveOnePolicyPerId os
one_at_each parents q b os one are id p r has_p has_r =
    let f = (are (id, p)).0 has_p in
    let g = (are (id, r)).0 has_r in
    one f.0 g.0 id p r f.2 g.2

pub exactly_offered : {E : Type 0} (parents : Parents) (q : Request) (seen kept : Kept) (b : Buckets) → kept ≡ seen → AreFiled kept b
    → (r : Result (Vec Lent Global) E)
    → IfOk r (λ ps. (o : Candidate) → Contains (lent ps.items) o ↔ IsFound parents q b o)
    → IfOk r (λ ps. (o : Candidate) → Contains (lent ps.items) o ↔ IsCandidate seen parents q o)
exactly_offered parents q seen kept b is filed (Ok ps) h = λ o.
    let filed_seen : AreFiled seen b = subst (λ l. AreFiled l b) is filed in (
      (λ m.
          let f = (h o).0 m in
          let due = due_is f.0 (kept_at seen o.0) o.1 (sym (filed_seen f.0 o.0) ∙ f.2) in
          record { is_kept = due.0; met = subst (IsMet parents q) (sym due.1) f.1 }),
      (λ s. (h o).1 (
        index_key o.1.scope,
        s.met,
        filed_seen (index_key o.1.scope) o.0 ∙ ap (policy_with_key (index_key o.1.scope)) s.is_kept ∙ is_due o.1,
      )),
    )
exactly_offered parents q seen kept b is filed (Err e) h = tt

pub none_left_out : {E : Type 0} (parents : Parents) (q : Request) (seen : Kept) (r : Result (Vec Lent Global) E)
    → IfOk r (λ ps. (o : Candidate) → Contains (lent ps.items) o ↔ IsCandidate seen parents q o)
    → IfOk r (λ ps. (o : Candidate) → kept_at seen o.0 ≡ Some o.1 → IsScopeTrue parents o.1.scope q → Contains (lent ps.items) o)
none_left_out parents q seen (Ok ps) h = λ o at holds.
    (h o).1 (record { is_kept = at; met = scope_meets parents q o.1.scope holds })
none_left_out parents q seen (Err e) h = tt
