-- Updates read one after another, up to the first error.
use Rattle.std.proofs.Common.{◌≡◌, ◌∙◌, ℕ, suc, ◌+◌, ◌<◌, ◌≤◌, List, [], ◌∷◌, ◌++◌, map, length, take, drop, get_or}
use Rattle.std.proofs.Common.{Option, Some, None, Result, Ok, refl, sym, ap, subst, arith, inl, inr, add-one, drop-cons}
use Rattle.std.specs.Prelude.{MatchResult}
use Rattle.std.specs.List.{AllByRecursion}
use Rattle.std.proofs.lemmas.List.{take_more, take_all, map-append, length-map, length-take}
use Rattle.std.proofs.Math.Seq.{split_at}
use Rattle.json_words.specs.ReadsAs.{Fails}
use Rattle.serde_json.specs.Data.{Data}
use Rattle.values.specs.declared.name.Name.{Name}
use Rattle.values.specs.declared.entity_uid.EntityUid.{EntityUid}
use Rattle.stamped_store.specs.declared.entry.Stamp.{Stamp}
use Rattle.stamped_store.specs.declared.entry.ReadText.{ReadText}
use Rattle.stamped_store.specs.EntryOrder.{body_bytes}
use Rattle.stamped_store.specs.Reading.{IsBodyRead}
use Rattle.stamped_store.specs.Store.{Update as PlainUpdate}
use Rattle.sync_format.specs.declared.fault.MessageFault.{MessageFault}
use Rattle.sync_format.specs.declared.fault.MessageFault.TheVariants as message
use Rattle.sync_format.specs.declared.version.MessageVersion.{MessageVersion}
use Rattle.sync_format.specs.Summaries.{IsStamped, checked_stamp, stamped_in}
use Rattle.sync_format.specs.declared.bodies.BodyFault.{BodyFault}
use Rattle.sync_format.specs.declared.stated.ReadEntry.{ReadEntry}
use Rattle.sync_format.specs.declared.update.Update.{Update}
use Rattle.sync_format.specs.declared.update.Update.TheVariants.{Policy, Entity}
use Rattle.plain.specs.AllocationErrors.{OrNoMemory}
use Rattle.sync_format.specs.Messages.{updates_stated}
use Rattle.sync_format.specs.Updates.{plain_update, plain_updates, stamped, AreInRange, IsBodyReadable, IsUpdateRead}
use Rattle.sync_format.specs.Updates.{IsValid, IsMessage, IsFaultAt, IsFirstFault, IsMessageFault}
use Rattle.sync_format.specs.inner.Reading.{stated_update, IsReadAs, IsReadInRange, AreReadInRange, IsFirstUpdateFault}
use Rattle.sync_format.proofs.Found.{AreFound, stated_found}

-- a name with a stamp that was read and passed the checks has both in their ranges
abbrev pub Sound : Type 0
Sound = (place : ℕ) (version : MessageVersion) (d : Data) (u v : Name × Stamp) → stamped_in version d ≡ Ok u → checked_stamp place u ≡ Ok v → IsStamped u

-- ---- what is read is readable
body_readable : {P : Type 0} (Reads : List ℕ → P → Type 0) (t : Option (ReadText P)) → IsBodyRead Reads t → IsBodyReadable Reads (body_bytes t)
body_readable Reads None h = tt
body_readable Reads (Some t) h = (t.read, h)

-- ---- one more from the front of a list
heads : {A : Type 0} (x y : A) (xs ys : List A) → x ∷ xs ≡ y ∷ ys → x ≡ y
heads x y xs ys h = cc

tails : {A : Type 0} (x y : A) (xs ys : List A) → x ∷ xs ≡ y ∷ ys → xs ≡ ys
tails x y xs ys h = cc

pub next : {A : Type 0} (xs rest left : List A) (i : ℕ) (x : A) → i < length xs → rest ≡ drop i xs → rest ≡ x ∷ left → x ≡ get_or xs i x
next xs rest left i x below is front = heads x (get_or xs i x) left (drop (suc i) xs) (sym front ∙ is ∙ drop-cons xs i x below)

pub left_over : {A : Type 0} (xs rest left : List A) (i : ℕ) (x : A) → i < length xs → rest ≡ drop i xs → rest ≡ x ∷ left → left ≡ drop (i + 1) xs
left_over xs rest left i x below is front = tails x (get_or xs i x) left (drop (suc i) xs) (sym front ∙ is ∙ drop-cons xs i x below) ∙ ap (λ n. drop n xs) (sym (add-one i))

pub some_left : {A : Type 0} (xs rest : List A) (i : ℕ) → i < length xs → rest ≡ drop i xs → length rest ≡ 0 → ⊥
some_left [] rest i below is none = absurd (omega arith)
some_left (d ∷ xs) rest i below is none = let more : length rest ≡ length (get_or (d ∷ xs) i d ∷ drop (suc i) (d ∷ xs)) = ap length (is ∙ drop-cons (d ∷ xs) i d below) in absurd (omega arith)

place_is : (es : List ReadEntry) (i : ℕ) → i < length es → 0 + length (map stated_update (take i es)) ≡ i
place_is es i lt = rw length-map (omega (arith, length-take i es))

module _ {P E : Type 0} (Policies : List ℕ → List ℕ → P → Type 0) (Entities : EntityUid → List ℕ → E → Type 0) where
  pub readable : (r : Update P E) → IsUpdateRead Policies Entities r → IsValid Policies Entities (plain_update r)
  readable (Policy id entry) h = body_readable (Policies id) entry.body h
  readable (Entity uid entry) h = body_readable (Entities uid) entry.body h

  pub valid : (u : PlainUpdate) (r : Update P E) → IsReadAs Policies Entities u r → IsValid Policies Entities u
  valid u r h = subst (IsValid Policies Entities) h.shown (readable r h.is_read)

  -- one more is read
  push : (k : ℕ) (us : List PlainUpdate) (rs : List (Update P E)) (u : PlainUpdate) (r : Update P E)
      → AreReadInRange Policies Entities k us rs → IsReadInRange Policies Entities (k + length us) u r → AreReadInRange Policies Entities k (us ++ u ∷ []) (rs ++ r ∷ [])
  push k [] [] u r h one = let same : k + 0 ≡ k = omega arith in (subst (λ n. IsReadInRange Policies Entities n u r) same one, tt)
  push k [] (s ∷ rs) u r h one = absurd h
  push k (v ∷ us) [] u r h one = absurd h
  push k (v ∷ us) (s ∷ rs) u r h one =
      let same : k + suc (length us) ≡ suc k + length us = omega arith in
      (h.0, push (suc k) us rs u r h.1 (subst (λ n. IsReadInRange Policies Entities n u r) same one))

  pub taken_more : (es : List ReadEntry) (i : ℕ) (e : ReadEntry) (rs : List (Update P E)) (r : Update P E) → i < length es → e ≡ get_or es i e
      → AreReadInRange Policies Entities 0 (map stated_update (take i es)) rs → IsReadInRange Policies Entities i (stated_update e) r
      → AreReadInRange Policies Entities 0 (map stated_update (take (i + 1) es)) (rs ++ r ∷ [])
  taken_more es i e rs r lt at before one =
      let pushed = push 0 (map stated_update (take i es)) rs (stated_update e) r before (subst (λ n. IsReadInRange Policies Entities n (stated_update e) r) (sym (place_is es i lt)) one) in
      rw (take_more es i e lt, map-append, ← at) pushed

  pub taken_all : (es : List ReadEntry) (i : ℕ) (rs : List (Update P E)) → length es ≤ i → AreReadInRange Policies Entities 0 (map stated_update (take i es)) rs
      → AreReadInRange Policies Entities 0 (map stated_update es) rs
  taken_all es i rs le h = subst (λ (l : List ReadEntry). AreReadInRange Policies Entities 0 (map stated_update l) rs) (take_all i es le) h

  shown_all : (k : ℕ) (us : List PlainUpdate) (rs : List (Update P E)) → AreReadInRange Policies Entities k us rs → us ≡ plain_updates rs
  shown_all k [] [] h = refl
  shown_all k [] (r ∷ rs) h = absurd h
  shown_all k (u ∷ us) [] h = absurd h
  shown_all k (u ∷ us) (r ∷ rs) h =
      let rest = shown_all (suc k) us rs h.1 in
      λ i. (sym h.0.taken.shown) i ∷ rest i

  read_each : (k : ℕ) (us : List PlainUpdate) (rs : List (Update P E)) → AreReadInRange Policies Entities k us rs → AllByRecursion (IsUpdateRead Policies Entities) rs
  read_each k [] [] h = tt
  read_each k [] (r ∷ rs) h = absurd h
  read_each k (u ∷ us) [] h = absurd h
  read_each k (u ∷ us) (r ∷ rs) h = (h.0.taken.is_read, read_each (suc k) us rs h.1)

  in_range : Sound → (k : ℕ) (us : List PlainUpdate) (rs : List (Update P E)) → AreFound us → AreReadInRange Policies Entities k us rs → AreInRange us
  in_range sound k [] [] f h = tt
  in_range sound k [] (r ∷ rs) f h = absurd h
  in_range sound k (u ∷ us) [] f h = absurd h
  in_range sound k (u ∷ us) (r ∷ rs) f h = (sound k f.0.0 f.0.1 (stamped u) (stamped u) f.0.2 h.0.passed, in_range sound (suc k) us rs f.1 h.1)

  pub is_message : Sound → (label bytes : List ℕ) (us : List PlainUpdate) (rs : List (Update P E)) → updates_stated label bytes ≡ Ok us → AreReadInRange Policies Entities 0 us rs
      → IsMessage Policies Entities label bytes rs
  is_message sound label bytes us rs e h =
      let same = shown_all 0 us rs h in
      record {
        stated = e ∙ ap (λ (l : List PlainUpdate). Ok l) same;
        in_range = subst AreInRange same (in_range sound 0 us rs (stated_found label bytes us e) h);
        are_read = read_each 0 us rs h;
      }

module _ {P E : Type 0} (Policies : List ℕ → List ℕ → P → Type 0) (Entities : EntityUid → List ℕ → E → Type 0)
    (NoPolicies : List ℕ → List ℕ → BodyFault → Type 0) (NoEntities : EntityUid → List ℕ → BodyFault → Type 0) where
  stops : (k : ℕ) (us : List PlainUpdate) (rs : List (Update P E)) (u : PlainUpdate) (more : List PlainUpdate) (why : MessageFault)
      → AreReadInRange Policies Entities k us rs → IsFaultAt NoPolicies NoEntities (k + length us) u why → IsFirstUpdateFault Policies Entities NoPolicies NoEntities k (us ++ u ∷ more) why
  stops k [] [] u more why h one = let same : k + 0 ≡ k = omega arith in inl (subst (λ n. IsFaultAt NoPolicies NoEntities n u why) same one)
  stops k [] (r ∷ rs) u more why h one = absurd h
  stops k (v ∷ us) [] u more why h one = absurd h
  stops k (v ∷ us) (r ∷ rs) u more why h one =
      let same : k + suc (length us) ≡ suc k + length us = omega arith in
      inr (h.0.passed, valid Policies Entities v r h.0.taken, stops (suc k) us rs u more why h.1 (subst (λ n. IsFaultAt NoPolicies NoEntities n u why) same one))

  pub taken_stops : (es : List ReadEntry) (i : ℕ) (e : ReadEntry) (rs : List (Update P E)) (why : MessageFault) → i < length es → e ≡ get_or es i e
      → AreReadInRange Policies Entities 0 (map stated_update (take i es)) rs → IsFaultAt NoPolicies NoEntities i (stated_update e) why
      → IsFirstUpdateFault Policies Entities NoPolicies NoEntities 0 (map stated_update es) why
  taken_stops es i e rs why lt at before one =
      let cut : es ≡ take i es ++ e ∷ drop (suc i) es = split_at es i e lt ∙ ap (λ (x : ReadEntry). take i es ++ x ∷ drop (suc i) es) (sym at) in
      let shown : map stated_update es ≡ map stated_update (take i es) ++ stated_update e ∷ map stated_update (drop (suc i) es) =
      ap (map stated_update) cut ∙ map-append stated_update (take i es) (e ∷ drop (suc i) es) in
      subst (λ (l : List PlainUpdate). IsFirstUpdateFault Policies Entities NoPolicies NoEntities 0 l why) (sym shown)
      (stops 0 (map stated_update (take i es)) rs (stated_update e) (map stated_update (drop (suc i) es)) why before
      (subst (λ n. IsFaultAt NoPolicies NoEntities n (stated_update e) why) (sym (place_is es i lt)) one))

  first_fault : Sound → (k : ℕ) (us : List PlainUpdate) (why : MessageFault) → AreFound us → IsFirstUpdateFault Policies Entities NoPolicies NoEntities k us why
      → IsFirstFault Policies Entities NoPolicies NoEntities k us why
  first_fault sound k [] why f h = absurd h
  first_fault sound k (u ∷ us) why f (inl here) = inl here
  first_fault sound k (u ∷ us) why f (inr h) = inr (sound k f.0.0 f.0.1 (stamped u) (stamped u) f.0.2 h.0, h.1, first_fault sound (suc k) us why f.1 h.2)

  pub refused : Sound → (label bytes : List ℕ) (us : List PlainUpdate) → updates_stated label bytes ≡ Ok us → (why : MessageFault)
      → OrNoMemory message.NoMemory (IsFirstUpdateFault Policies Entities NoPolicies NoEntities 0 us) why
      → OrNoMemory message.NoMemory (IsMessageFault Policies Entities NoPolicies NoEntities label bytes) why
  refused sound label bytes us e why h other =
      subst (λ (r : Result (List PlainUpdate) MessageFault). MatchResult r (λ vs. IsFirstFault Policies Entities NoPolicies NoEntities 0 vs why) (λ first. why ≡ first)) (sym e)
      (first_fault sound 0 us why (stated_found label bytes us e) (h other))

  pub unstated : (label bytes : List ℕ) (why : MessageFault) → Fails message.NoMemory why (updates_stated label bytes)
      → OrNoMemory message.NoMemory (IsMessageFault Policies Entities NoPolicies NoEntities label bytes) why
  unstated label bytes why h other =
      subst (λ (r : Result (List PlainUpdate) MessageFault). MatchResult r (λ vs. IsFirstFault Policies Entities NoPolicies NoEntities 0 vs why) (λ first. why ≡ first)) (sym (h other)) refl
