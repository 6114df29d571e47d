-- An array of entities is read as relations state.
use Rattle.std.proofs.Common.{◌≡◌, ◌∙◌, ℕ, suc, ◌+◌, ◌++◌, Bool, true, false, not, List, [], ◌∷◌, length, take, Option, Some}
use Rattle.std.proofs.Common.{None, Result, Ok, Err, refl, sym, ap, subst, inl, inr, arith, append-nil, append_assoc, length-append}
use Rattle.std.specs.Prelude.{◌⊎◌, ◌||◌, ◌==◌, ⊤, Contains}
use Rattle.std.specs.List.{AllZip}
use Rattle.std.proofs.lemmas.Bool.{cases_Bool}
use Rattle.std.proofs.lemmas.List.Elements.{Contains-append_right, Contains-append_cases}
use Rattle.std.proofs.Math.Seq.{take-append_seam}
use Rattle.plain.proofs.Members.{Contains-here, Contains-there, Contains-cases, Contains-none}
use Rattle.serde_json.specs.Data.{Data, Items}
use Rattle.serde_json.specs.Data as json
use Rattle.json_words.specs.Json.{json_of}
use Rattle.json_words.specs.ReadsAs.{◌>>=◌, demand}
use Rattle.json_words.specs.Each.{each, list_of}
use Rattle.json_words.proofs.EachLemmas.{each_refused}
use Rattle.values.specs.declared.entity_uid.EntityUid.{EntityUid}
use Rattle.values.specs.Names.{uid_cmp-IsTotalOrder, uid_cmp-IsAntisymmetric}
use Rattle.values.specs.Uids.{equal-is}
use Rattle.entity_data.specs.ancestor_search.Decided.{is_same}
use Rattle.entity_data.specs.declared.entity.Entity.{Entity}
use Rattle.answer_lines.specs.declared.refusal.Refusal.{Refusal}
use Rattle.answer_lines.specs.Refusals.{bad_shape}
use Rattle.decision_texts.specs.Settings.{Reading}
use Rattle.decision_texts.specs.EntityArrays.{placed, entity_at, entities_in, entities_of}
use Rattle.decision_texts.specs.inner.Stores.{is_among, entity_after}
use Rattle.decision_texts.specs.StatedDecisions.{StatedSetting, error_at, HasUid, HaveOwnUids, DescribesEntities}
use Rattle.decision_texts.specs.StatedDecisions.{IsFirstRejected, RejectsEntities}
use Rattle.decision_texts.specs.StatedDecisions as says
use Rattle.decision_texts.proofs.ArrayLemmas.{is_before, after_new, after_again}

-- ---- uids

or_left : (a b : Bool) → a ≡ true → (a || b) ≡ true
or_left true b h = refl
or_left false b h = absurd cc

or_right : (a b : Bool) → b ≡ true → (a || b) ≡ true
or_right true b h = refl
or_right false b h = h

second : (a b : Bool) → (a || b) ≡ true → a ≡ false → b ≡ true
second true b h e = absurd cc
second false b h e = h

true_false : {G : Type 0} (b : Bool) → b ≡ true → b ≡ false → G
true_false b h e = absurd cc

untrue : (b : Bool) → (b ≡ true → ⊥) → b ≡ false
untrue true never = absurd (never refl)
untrue false never = refl

pub same_is : (a b : EntityUid) → is_same a b ≡ true → a ≡ b
same_is a b h = (equal-is uid_cmp-IsTotalOrder uid_cmp-IsAntisymmetric a b).0 h

pub is_the_same : (a b : EntityUid) → a ≡ b → is_same a b ≡ true
is_the_same a b h = (equal-is uid_cmp-IsTotalOrder uid_cmp-IsAntisymmetric a b).1 h

among_has : (uid : EntityUid) (es : List Entity) → is_among uid es ≡ true → HasUid es uid
among_has uid [] h = absurd cc
among_has uid (e ∷ es) h = elim (cases_Bool (is_same e.uid uid)) [
  | inl same ↦ (e, Contains-here e es, same_is e.uid uid same)
  | inr other ↦
      let found = among_has uid es (second (is_same e.uid uid) (is_among uid es) h other) in
      (found.0, Contains-there e es found.0 found.1, found.2)
]

has_among : (uid : EntityUid) (es : List Entity) (x : Entity) → Contains es x → x.uid ≡ uid → is_among uid es ≡ true
has_among uid [] x c same = Contains-none x c
has_among uid (e ∷ es) x c same = elim (Contains-cases e es x c) [
  | inl here ↦ or_left (is_same e.uid uid) (is_among uid es) (is_the_same e.uid uid (ap (λ (y : Entity). y.uid) here ∙ same))
  | inr there ↦ or_right (is_same e.uid uid) (is_among uid es) (has_among uid es x there same)
]

not_among : (uid : EntityUid) (es : List Entity) → ¬ HasUid es uid → is_among uid es ≡ false
not_among uid es none = untrue (is_among uid es) (λ h. none (among_has uid es h))

among_none : (uid : EntityUid) (es : List Entity) → is_among uid es ≡ false → ¬ HasUid es uid
among_none uid es h found = true_false (is_among uid es) (has_among uid es found.0 found.1 found.2) h

-- ---- entities with uids of their own

-- behind others, an entity has a uid of its own
own_behind : (before : List Entity) (e : Entity) (es : List Entity) → HaveOwnUids (before ++ e ∷ es) → ¬ HasUid before e.uid
own_behind [] e es own found = Contains-none found.0 found.1
own_behind (x ∷ before) e es own found = elim (Contains-cases x before found.0 found.1) [
  | inl here ↦ own.0 (e, Contains-append_right before (e ∷ es) e (Contains-here e es), sym found.2 ∙ ap (λ (y : Entity). y.uid) (sym here))
  | inr later ↦ own_behind before e es own.1 (found.0, later, found.2)
]

-- one more
own_more : (es : List Entity) (e : Entity) → HaveOwnUids es → ¬ HasUid es e.uid → HaveOwnUids (es ++ e ∷ [])
own_more [] e own new = (λ found. Contains-none found.0 found.1, tt)
own_more (x ∷ es) e own new = (
  λ found. elim (Contains-append_cases es (e ∷ []) found.0 found.1) [
    | inl old ↦ own.0 (found.0, old, found.2)
    | inr last ↦ elim (Contains-cases e [] found.0 last) [
      | inl same ↦ new (x, Contains-here x es, sym found.2 ∙ ap (λ (y : Entity). y.uid) (sym same))
      | inr none ↦ Contains-none found.0 none
    ]
  ],
  own_more es e own.1 (λ found. new (found.0, Contains-there x es found.0 found.1, found.2)),
)

-- entities of one uid are one
pub own_one : (es : List Entity) (a b : Entity) → HaveOwnUids es → Contains es a → Contains es b → a.uid ≡ b.uid → a ≡ b
own_one [] a b own ca cb same = Contains-none a ca
own_one (e ∷ es) a b own ca cb same = elim (Contains-cases e es a ca) [
  | inl ea ↦ elim (Contains-cases e es b cb) [
    | inl eb ↦ sym ea ∙ eb
    | inr later ↦ absurd (own.0 (b, later, sym same ∙ ap (λ (y : Entity). y.uid) (sym ea)))
  ]
  | inr la ↦ elim (Contains-cases e es b cb) [
    | inl eb ↦ absurd (own.0 (a, la, same ∙ ap (λ (y : Entity). y.uid) (sym eb)))
    | inr lb ↦ own_one es a b own.1 la lb same
  ]
]

-- ---- items with what they describe

module _ {A B : Type 0} (R : A → B → Type 0) where
  zip_more : (xs : List A) (ys : List B) (x : A) (y : B) → AllZip R xs ys → R x y → AllZip R (xs ++ x ∷ []) (ys ++ y ∷ [])
  zip_more [] [] x y h r = (r, tt)
  zip_more [] (b ∷ ys) x y h r = absurd h
  zip_more (a ∷ xs) [] x y h r = absurd h
  zip_more (a ∷ xs) (b ∷ ys) x y h r = (h.0, zip_more xs ys x y h.1 r)

-- the reading of entities in a setting agrees with its relations
pub record ReadsEntities (r : Reading) (s : StatedSetting) : Type 0 where
  pub states : (d : Data) (e : Entity) → s.describes_entity d e → r.entity d ≡ Ok e
  pub stated : (d : Data) (e : Entity) → r.entity d ≡ Ok e → s.describes_entity d e
  pub refuses : (d : Data) (code : ℕ) → s.rejects_entity d code → r.entity d ≡ Err (error_at None code)
  pub refused : (d : Data) (refusal : Refusal) → r.entity d ≡ Err refusal
      → (code : ℕ) × s.rejects_entity d code × (refusal ≡ error_at None code)
  pub other_code : (d : Data) (code : ℕ) → s.rejects_entity d code → (code == 1) ≡ false

module _ (r : Reading) (s : StatedSetting) (reads : ReadsEntities r s) where
  abbrev Describe : List Data → List Entity → Type 0
  Describe = AllZip s.describes_entity

  before_same : (ds : List Data) (es : List Entity) (uid : EntityUid) → Describe ds es → is_before r uid ds ≡ is_among uid es
  before_same [] [] uid h = refl
  before_same [] (e ∷ es) uid h = absurd h
  before_same (d ∷ ds) [] uid h = absurd h
  before_same (d ∷ ds) (e ∷ es) uid h = rw (reads.states d e h.0, before_same ds es uid h.1) refl

  -- ---- the item behind others

  next : (seen rest : List Data) (before : List Entity) (d : Data) (read : Result Entity Refusal) → Describe seen before → entity_after r before (length seen) d ≡ read
      → entity_at r (seen ++ d ∷ rest) (length seen) d ≡ read
  unfolding entity_at entity_after
  next seen rest before d read h is =
      let same : (uid : EntityUid) → is_before r uid (take (length seen) (seen ++ d ∷ rest)) ≡ is_among uid before =
      λ uid. ap (is_before r uid) (take-append_seam seen (d ∷ rest)) ∙ before_same seen before uid h in
      (λ i. placed (length seen) (r.entity d) >>= λ (e : Entity). demand (bad_shape (Some (length seen))) (not (same e.uid i)) >>= λ (first : ⊤). Ok e) ∙ is

  after_refused : (before : List Entity) (place : ℕ) (d : Data) (code : ℕ) → s.rejects_entity d code → entity_after r before place d ≡ Err (error_at (Some place) code)
  unfolding entity_after
  after_refused before place d code bad = rw (reads.refuses d code bad, reads.other_code d code bad) refl

  next_new : (seen rest : List Data) (before : List Entity) (d : Data) (e : Entity) → Describe seen before → s.describes_entity d e → ¬ HasUid before e.uid
      → entity_at r (seen ++ d ∷ rest) (length seen) d ≡ Ok e
  next_new seen rest before d e h is new =
      next seen rest before d (Ok e) h (after_new r before (length seen) d e (ap (placed (length seen)) (reads.states d e is)) (not_among e.uid before new))

  next_refused : (seen rest : List Data) (before : List Entity) (d : Data) (code : ℕ) → Describe seen before → says.RejectsItem s before d code
      → entity_at r (seen ++ d ∷ rest) (length seen) d ≡ Err (error_at (Some (length seen)) code)
  next_refused seen rest before d code h (says.no_entity c bad) =
      next seen rest before d (Err (error_at (Some (length seen)) c)) h (after_refused before (length seen) d c bad)
  next_refused seen rest before d code h (says.same_uid e is found) =
      next seen rest before d (Err (bad_shape (Some (length seen)))) h
      (after_again r before (length seen) d e (ap (placed (length seen)) (reads.states d e is)) (has_among e.uid before found.0 found.1 found.2))

  -- ---- all items

  each_read : (seen xs rest : List Data) (before es : List Entity) → Describe seen before → Describe xs es → HaveOwnUids (before ++ es)
      → each (entity_at r (seen ++ (xs ++ rest))) (length seen) xs ≡ Ok es
  unfolding each
  each_read seen [] rest before [] h g own = refl
  each_read seen [] rest before (e ∷ es) h g own = absurd g
  each_read seen (x ∷ xs) rest before [] h g own = absurd g
  each_read seen (x ∷ xs) rest before (e ∷ es) h g own =
      let here = next_new seen (xs ++ rest) before x e h g.0 (own_behind before e es own) in
      let there = each_read (seen ++ x ∷ []) xs rest (before ++ e ∷ []) es (zip_more s.describes_entity seen before x e h g.0) g.1
      (subst HaveOwnUids (sym (append_assoc before (e ∷ []) es)) own) in
      let all : (seen ++ x ∷ []) ++ (xs ++ rest) ≡ seen ++ x ∷ (xs ++ rest) = append_assoc seen (x ∷ []) (xs ++ rest) in
      let long : length (seen ++ x ∷ []) ≡ suc (length seen) = omega (arith, length-append seen (x ∷ [])) in
      let moved : each (entity_at r (seen ++ x ∷ (xs ++ rest))) (suc (length seen)) xs ≡ Ok es = sym (λ i. each (entity_at r (all i)) (long i) xs) ∙ there in
      rw (here, moved) refl

  front_read : (front rest : List Data) (es : List Entity) → Describe front es → HaveOwnUids es → each (entity_at r (front ++ rest)) 0 front ≡ Ok es
  front_read front rest es h own = each_read [] front rest [] es tt h own

  items_read : (ds : List Data) (es : List Entity) → Describe ds es → HaveOwnUids es → each (entity_at r ds) 0 ds ≡ Ok es
  items_read ds es h own = ap (λ (all : List Data). each (entity_at r all) 0 ds) (sym (append-nil ds)) ∙ front_read ds [] es h own

  items_refused : (items : Items) (refusal : Refusal) → IsFirstRejected s items refusal → each (entity_at r (list_of items)) 0 (list_of items) ≡ Err refusal
  items_refused items refusal h =
      let all = h.front ++ h.rejected ∷ h.back in
      let step = next_refused h.front h.back h.earlier h.rejected h.code h.described h.has_code in
      let zeroth : length h.front ≡ 0 + length h.front = omega arith in
      let here = subst (λ (k : ℕ). entity_at r all k h.rejected ≡ Err (error_at (Some (length h.front)) h.code)) zeroth step in
      let stopped = each_refused (entity_at r all) 0 h.front h.earlier h.rejected h.back (error_at (Some (length h.front)) h.code)
      (front_read h.front (h.rejected ∷ h.back) h.earlier h.described h.own_uids) here in
      ap (λ (ds : List Data). each (entity_at r ds) 0 ds) h.are ∙ stopped ∙ ap (λ (why : Refusal). Err why) (sym h.refusal_is)

  -- ---- each array has an outcome

  abbrev Outcome : Items → Type 0
  Outcome items = ((es : List Entity) × Describe (list_of items) es × HaveOwnUids es) ⊎ ((refusal : Refusal) × IsFirstRejected s items refusal)

  stops : (items : Items) (seen xs : List Data) (before : List Entity) (x : Data) (code : ℕ) → list_of items ≡ seen ++ x ∷ xs → Describe seen before → HaveOwnUids before
      → says.RejectsItem s before x code → Outcome items
  stops items seen xs before x code are h own bad = inr (
    error_at (Some (length seen)) code,
    record {
      front = seen;
      rejected = x;
      back = xs;
      are = are;
      earlier = before;
      described = h;
      own_uids = own;
      code = code;
      has_code = bad;
      refusal_is = refl;
    },
  )

  by_uid : (items : Items) (seen xs : List Data) (before : List Entity) (x : Data) (e : Entity) → list_of items ≡ seen ++ x ∷ xs → Describe seen before → HaveOwnUids before
      → s.describes_entity x e → (among : Bool) → is_among e.uid before ≡ among
      → (list_of items ≡ (seen ++ x ∷ []) ++ xs → Describe (seen ++ x ∷ []) (before ++ e ∷ []) → HaveOwnUids (before ++ e ∷ []) → Outcome items) → Outcome items
  by_uid items seen xs before x e are h own is true had more = stops items seen xs before x 30 are h own (says.same_uid e is (among_has e.uid before had))
  by_uid items seen xs before x e are h own is false had more =
      more (are ∙ sym (append_assoc seen (x ∷ []) xs)) (zip_more s.describes_entity seen before x e h is) (own_more before e own (among_none e.uid before had))

  by_item : (items : Items) (seen xs : List Data) (before : List Entity) (x : Data) → list_of items ≡ seen ++ x ∷ xs → Describe seen before → HaveOwnUids before
      → (read : Result Entity Refusal) → r.entity x ≡ read
      → ((e : Entity) → list_of items ≡ (seen ++ x ∷ []) ++ xs → Describe (seen ++ x ∷ []) (before ++ e ∷ []) → HaveOwnUids (before ++ e ∷ []) → Outcome items) → Outcome items
  by_item items seen xs before x are h own (Ok e) is more = by_uid items seen xs before x e are h own (reads.stated x e is) (is_among e.uid before) refl (more e)
  by_item items seen xs before x are h own (Err refusal) is more =
      let bad = reads.refused x refusal is in
      stops items seen xs before x bad.0 are h own (says.no_entity bad.0 bad.1)

  from : (items : Items) (xs seen : List Data) (before : List Entity) → list_of items ≡ seen ++ xs → Describe seen before → HaveOwnUids before → Outcome items
  from items [] seen before are h own =
      inl (before, subst (λ (ds : List Data). Describe ds before) (sym (are ∙ append-nil seen)) h, own)
  from items (x ∷ xs) seen before are h own =
      by_item items seen xs before x are h own (r.entity x) refl (λ e rest g more. from items xs (seen ++ x ∷ []) (before ++ e ∷ []) rest g more)

  -- ---- the text

  abbrev TextOutcome : List ℕ → Type 0
  TextOutcome text = ((es : List Entity) × DescribesEntities s text es) ⊎ ((refusal : Refusal) × RejectsEntities s text refusal)

  by_items : (text : List ℕ) (items : Items) → json_of text ≡ Some (json.array items) → Outcome items → TextOutcome text
  by_items text items is (inl h) = inl (h.0, record { items = items; json = is; described = h.1; own_uids = h.2 })
  by_items text items is (inr h) = inr (h.0, says.bad_item items h.0 is h.1)

  no_items_in : (text : List ℕ) → ((items : Items) → json_of text ≡ Some (json.array items) → ⊥) → TextOutcome text
  no_items_in text none = inr (error_at None 30, says.no_array none)

  other_value : (o : Option Data) (d : Data) (items : Items) → o ≡ Some d → o ≡ Some (json.array items) → d ≡ json.array items
  other_value o d items h g = cc

  by_value : (text : List ℕ) (o : Option Data) → json_of text ≡ o → TextOutcome text
  by_value text None is = no_items_in text (λ items h. absurd (cc))
  by_value text (Some json.null) is = no_items_in text (λ items h. let e = other_value (json_of text) json.null items is h in absurd (cc))
  by_value text (Some (json.boolean b)) is = no_items_in text (λ items h. let e = other_value (json_of text) (json.boolean b) items is h in absurd (cc))
  by_value text (Some (json.number n)) is = no_items_in text (λ items h. let e = other_value (json_of text) (json.number n) items is h in absurd (cc))
  by_value text (Some (json.string t)) is = no_items_in text (λ items h. let e = other_value (json_of text) (json.string t) items is h in absurd (cc))
  by_value text (Some (json.array ds)) is = by_items text ds is (from ds (list_of ds) [] [] refl tt tt)
  by_value text (Some (json.object ms)) is = no_items_in text (λ items h. let e = other_value (json_of text) (json.object ms) items is h in absurd (cc))

  text_outcome : (text : List ℕ) → TextOutcome text
  text_outcome text = by_value text (json_of text) refl

  pub text_read : (text : List ℕ) (es : List Entity) → DescribesEntities s text es → entities_of r text ≡ Ok es
  unfolding entities_of entities_in
  text_read text es h = rw h.json (items_read (list_of h.items) es h.described h.own_uids)

  refused_by : (text : List ℕ) (o : Option Data) → json_of text ≡ o → ((items : Items) → json_of text ≡ Some (json.array items) → ⊥) → entities_of r text ≡ Err (error_at None 30)
  unfolding entities_of entities_in
  refused_by text None is none = rw is refl
  refused_by text (Some json.null) is none = rw is refl
  refused_by text (Some (json.boolean b)) is none = rw is refl
  refused_by text (Some (json.number n)) is none = rw is refl
  refused_by text (Some (json.string t)) is none = rw is refl
  refused_by text (Some (json.array ds)) is none = absurd (none ds is)
  refused_by text (Some (json.object ms)) is none = rw is refl

  item_refused : (text : List ℕ) (items : Items) (refusal : Refusal) → json_of text ≡ Some (json.array items) → IsFirstRejected s items refusal → entities_of r text ≡ Err refusal
  unfolding entities_of entities_in
  item_refused text items refusal is bad = rw is (items_refused items refusal bad)

  pub text_refused : (text : List ℕ) (refusal : Refusal) → RejectsEntities s text refusal → entities_of r text ≡ Err refusal
  text_refused text refusal (says.no_array none) = refused_by text (json_of text) refl none
  text_refused text refusal (says.bad_item items why is bad) = item_refused text items why is bad

  ok_is : (x y : List Entity) (read : Result (List Entity) Refusal) → read ≡ Ok x → read ≡ Ok y → x ≡ y
  ok_is x y read h g = cc

  err_is : (x y : Refusal) (read : Result (List Entity) Refusal) → read ≡ Err x → read ≡ Err y → x ≡ y
  err_is x y read h g = cc

  not_both : (x : List Entity) (y : Refusal) (read : Result (List Entity) Refusal) → read ≡ Ok x → read ≡ Err y → ⊥
  not_both x y read h g = absurd cc

  pub read_text : (text : List ℕ) (es : List Entity) → entities_of r text ≡ Ok es → DescribesEntities s text es
  read_text text es is = elim (text_outcome text) [
    | inl h ↦ subst (DescribesEntities s text) (ok_is h.0 es (entities_of r text) (text_read text h.0 h.1) is) h.1
    | inr h ↦ absurd (not_both es h.0 (entities_of r text) is (text_refused text h.0 h.1))
  ]

  pub refused_text : (text : List ℕ) (refusal : Refusal) → entities_of r text ≡ Err refusal → RejectsEntities s text refusal
  refused_text text refusal is = elim (text_outcome text) [
    | inl h ↦ absurd (not_both h.0 refusal (entities_of r text) (text_read text h.0 h.1) is)
    | inr h ↦ subst (RejectsEntities s text) (err_is h.0 refusal (entities_of r text) (text_refused text h.0 h.1) is) h.1
  ]
