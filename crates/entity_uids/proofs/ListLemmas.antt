-- Names of entities, one value after another.
use Rattle.std.proofs.Common.{◌≡◌, ◌∙◌, ℕ, suc, ◌+◌, ◌<◌, ◌≤◌, List, [], ◌∷◌, ◌++◌, map, length, take, drop, get_or, Option, Some, None, Result, Ok, refl, sym, ap}
use Rattle.std.proofs.lemmas.List.{take_more, take_all, map-append}
use Rattle.std.proofs.Math.Seq.{split_at}
use Rattle.serde_json.specs.Data.{Data}
use Rattle.serde_json.specs.View.{view, items_view}
use Rattle.serde_json.specs.declared.value.Value.{Value}
use Rattle.json_words.specs.ReadsAs.{◌>>=◌, or_fault}
use Rattle.json_words.specs.Each.{each, list_of}
use Rattle.json_words.proofs.EachLemmas.{list_of-items_view}
use Rattle.values.specs.declared.entity_uid.EntityUid.{EntityUid}
use Rattle.entity_uids.specs.Uids.{uid_in, uids_in, with_first}

-- the first name, before those of which this is known
joined : (o : Option EntityUid) (os more : Option (List EntityUid)) (us : List EntityUid) (u : EntityUid) → with_first o os ≡ Some us
    → ((vs : List EntityUid) → os ≡ Some vs → more ≡ Some (vs ++ u ∷ [])) → with_first o more ≡ Some (us ++ u ∷ [])
joined None os more us u read then = absurd cc
joined (Some v) None more us u read then = absurd cc
joined (Some v) (Some vs) more us u read then =
    let whole : v ∷ vs ≡ us = cc in
    rw (then vs refl) (ap (λ (l : List EntityUid). Some (l ++ u ∷ [])) whole)

pushed : (ds : List Data) (d : Data) (us : List EntityUid) (u : EntityUid) → uids_in ds ≡ Some us → uid_in d ≡ Some u
    → uids_in (ds ++ d ∷ []) ≡ Some (us ++ u ∷ [])
pushed [] d us u read one = let none : [] ≡ us = cc in rw one (ap (λ (l : List EntityUid). Some (l ++ u ∷ [])) none)
pushed (e ∷ ds) d us u read one =
    joined (uid_in e) (uids_in ds) (uids_in (ds ++ d ∷ [])) us u read (λ vs known. pushed ds d vs u known one)

lost : (o : Option EntityUid) (os : Option (List EntityUid)) → os ≡ None → with_first o os ≡ None
lost None os none = refl
lost (Some v) os none = rw none refl

refused : (ds : List Data) (d : Data) (more : List Data) → uid_in d ≡ None → uids_in (ds ++ d ∷ more) ≡ None
refused [] d more none = rw none refl
refused (e ∷ ds) d more none = lost (uid_in e) (uids_in (ds ++ d ∷ more)) (refused ds d more none)

-- a step of a loop over vs, at the index i: v is a name
pub next : (vs : List Value) (i : ℕ) (v : Value) (us : List EntityUid) (u : EntityUid) → i < length vs → v ≡ get_or vs i v
    → uids_in (map view (take i vs)) ≡ Some us → Some u ≡ uid_in (view v) → uids_in (map view (take (i + 1) vs)) ≡ Some (us ++ u ∷ [])
next vs i v us u lt at read one =
    rw (take_more vs i v lt, map-append, ← at) (pushed (map view (take i vs)) (view v) us u read (sym one))

-- the same where v is none: so the list is none
pub stops : (vs : List Value) (i : ℕ) (v : Value) → i < length vs → v ≡ get_or vs i v → None ≡ uid_in (view v)
    → None ≡ uids_in (map view vs)
stops vs i v lt at none =
    let cut : vs ≡ take i vs ++ v ∷ drop (suc i) vs = split_at vs i v lt ∙ ap (λ (x : Value). take i vs ++ x ∷ drop (suc i) vs) (sym at) in
    sym (ap (λ (l : List Value). uids_in (map view l)) cut ∙ ap uids_in (map-append view (take i vs) (v ∷ drop (suc i) vs))
    ∙ refused (map view (take i vs)) (view v) (map view (drop (suc i) vs)) (sym none))

pub ends : (vs : List Value) (n : ℕ) (us : List EntityUid) → length vs ≤ n → uids_in (map view (take n vs)) ≡ Some us
    → Some us ≡ uids_in (map view vs)
ends vs n us le read = sym read ∙ ap (λ (l : List Value). uids_in (map view l)) (take_all n vs le)

-- ---- with a fault for what is no name

step : {F : Type 0} (f : F) (o : Option EntityUid) (os : Option (List EntityUid)) (r : Result (List EntityUid) F) → r ≡ or_fault f os
    → (or_fault f o >>= λ u. r >>= λ us. Ok (u ∷ us)) ≡ or_fault f (with_first o os)
step f None os r e = refl
step f (Some u) None r e = rw e refl
step f (Some u) (Some us) r e = rw e refl

as_each : {F : Type 0} (f : F) (k : ℕ) (ds : List Data) → each (λ i d. or_fault f (uid_in d)) k ds ≡ or_fault f (uids_in ds)
unfolding each
as_each f k [] = refl
as_each f k (d ∷ ds) = step f (uid_in d) (uids_in ds) (each (λ i x. or_fault f (uid_in x)) (suc k) ds) (as_each f (suc k) ds)

-- each element of an array, read as a name or refused for f
pub array_names : {F : Type 0} (f : F) (vs : List Value)
    → each (λ i d. or_fault f (uid_in d)) 0 (list_of (items_view vs)) ≡ or_fault f (uids_in (map view vs))
array_names f vs = ap (λ (ds : List Data). each (λ i d. or_fault f (uid_in d)) 0 ds) (list_of-items_view vs) ∙ as_each f 0 (map view vs)
