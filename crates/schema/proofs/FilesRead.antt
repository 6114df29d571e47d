-- The reading functions of a file agree with their relations.
use Rattle.std.proofs.Common.{◌≡◌, ◌∙◌, ℕ, List, [], ◌∷◌, ◌++◌, Bool, true, false, Option, Some, None, refl, sym, ap, subst, inl, inr, append_assoc, arith}
use Prim.Native.Char.{code}
use Rattle.std.specs.Prelude.{◌⊎◌, ⊤, ◌==◌, not, Contains, codes}
use Rattle.std.specs.Str.{bytes_eq}
use Rattle.std.proofs.lemmas.Bool.{cases_Bool, eqb-true}
use Rattle.serde_json.specs.Data.{Data, Items, Members, no_members, member}
use Rattle.serde_json.specs.Data as json
use Rattle.serde_json.specs.Find.{get, as_array}
use Rattle.json_words.specs.ReadsAs.{◌>>=◌, or_fault, demand}
use Rattle.json_words.specs.Each.{each_member}
use Rattle.json_words.specs.Json.{text_at}
use Rattle.plain.specs.Words.{IsIdent, IsPath, AreIdents, AllAre, IsWord, joined_path, is_letter, is_digit, is_word_byte}
use Rattle.values.specs.Paths.{is_path, pieces, is_ident, IdentTestIsExact, PathTestIsExact}
use Rattle.schema_types.specs.Raw.{Raw}
use Rattle.schema_types.specs.Forms.{form_named}
use Rattle.schema_types.specs.Names.{is_qualified}
use Rattle.schema_types.specs.Optional.{present, optional, required_text}
use Rattle.schema_types.specs.TypeShape.{type_of}
use Rattle.schema_types.specs.declared.fault.SchemaFault.TheVariants.{BadShape}
use Rattle.schema_types.proofs.NameLemmas.{is_unnamed}
use Rattle.schema_reading.specs.FileForm.{EntityTypeOf, AppliesToOf, ActionOf, NamespaceOf, ident, name_of, names_of, names_in, names_at, type_in, optional_name, is_common, common_of, entity_type_name, entity_type_of, parent_of, parents_of, parents_in, applies_to_of, applies_to_in, is_empty_in, action_of, namespace_name, commons_of, entity_types_of, actions_of, commons_in, entity_types_in, actions_in, namespace_of, namespaces_of, stated}
use Rattle.schema_reading.specs.declared.stated.StatedParent.{StatedParent}
use Rattle.schema.specs.ObjectKeys.{HasOnly, HasOther, IsAbsent}
use Rattle.schema.specs.ObjectKeys as keys
use Rattle.schema.specs.ObjectParts.{GivenAt, NotGivenAt, MaybeAt, ListAt, WrongAt, IsArrayOf, IsNoArrayOf, IsObjectOf, IsNoObjectOf}
use Rattle.schema.specs.StatedTypes.{form_words, HasKeys, StatesType, IsNoType}
use Rattle.schema.specs.StatedTypes as types
use Rattle.schema.specs.StatedFiles.{IsName, IsNoName, IsNamespace, entity_type_keys, parent_keys, applies_to_keys, action_keys, namespace_keys, DescribesCommonType, DescribesEntityType, DescribesParent, DescribesAppliesTo, HasNoAttributes, DescribesAction, DescribesNamespace, DescribesNamespaces, IsNoCommon, IsNoEntityType, IsNoParent, IsNoAppliesTo, IsNoAction, IsNoNamespace, IsNoFile}
use Rattle.schema.specs.StatedFiles as says
use Rattle.schema.specs.Laws.{FilesAreRead, FilesHaveOneOutcome}
use Rattle.schema.proofs.Steps.{done, failed, true_false, same_bytes, bytes_same, apart}
use Rattle.schema.proofs.Agree.{Agrees, agreeing_gives, agreeing_has_one, said_as, two_steps, three_steps, four_steps, five_steps}
use Rattle.schema.proofs.PartsRead.{keys_agree, maybe_agrees, list_agrees, given_agrees, array_agrees, object_agrees}
use Rattle.schema.proofs.Words.{form_known, is_common_word, text_read, no_text, path_known, is_name, no_path}
use Rattle.schema.proofs.TypesKnown.{type_agrees}

-- the laws of paths
pub record Told : Type 0 where
  pub idents : IdentTestIsExact
  pub paths : PathTestIsExact

-- ---- identifiers

no_colon : (c : ℕ) → is_word_byte c ≡ true → (c == code ":") ≡ false
unfolding is_word_byte is_letter is_digit
no_colon c h = elim (cases_Bool (c == 58)) [
  | inl y ↦ let bad : is_word_byte 58 ≡ true = subst (λ (x : ℕ). is_word_byte x ≡ true) (eqb-true c 58 y) h in absurd cc
  | inr n ↦ n
]

unqualified_bytes : (cs : List ℕ) → AllAre is_word_byte cs → is_qualified cs ≡ false
unqualified_bytes [] h = refl
unqualified_bytes (c ∷ cs) h = rw (no_colon c h.0) (unqualified_bytes cs h.1)

letter_byte : (c : ℕ) → is_letter c ≡ true → is_word_byte c ≡ true
unfolding is_word_byte
letter_byte c h = rw h refl

word_bytes : (w : List ℕ) → IsWord w → AllAre is_word_byte w
word_bytes [] h = absurd h
word_bytes (c ∷ cs) h = (letter_byte c h.0, h.1)

qualified_by : (first rest : List ℕ) → is_qualified (first ++ 58 ∷ rest) ≡ true
qualified_by [] rest = refl
qualified_by (c ∷ cs) rest = elim (cases_Bool (c == 58)) [
  | inl y ↦ rw y refl
  | inr n ↦ rw n (qualified_by cs rest)
]

joined_qualified : (first next : List ℕ) (more : List (List ℕ)) → is_qualified (joined_path first (next ∷ more)) ≡ true
joined_qualified first next more = ap is_qualified (append_assoc first (codes "::") (joined_path next more)) ∙ qualified_by first (58 ∷ joined_path next more)

one_word_path : (w first : List ℕ) (more : List (List ℕ)) → AreIdents (first ∷ more) → w ≡ joined_path first more → IsIdent w ⊎ (is_qualified w ≡ true)
one_word_path w first [] ids e = inl (subst IsIdent (sym e) ids.0)
one_word_path w first (next ∷ more) ids e = inr (ap is_qualified e ∙ joined_qualified first next more)

module _ (told : Told) where
  ident_path : (w : List ℕ) → IsIdent w → IsPath w
  ident_path w h = (w, [], (h, tt), refl)

  is_ident_read : (w : List ℕ) → IsIdent w → ident w ≡ done w
  unfolding ident
  is_ident_read w h = rw (is_name told.paths w (ident_path w h), unqualified_bytes w (word_bytes w h.0)) refl

  qualified_ident : (w : List ℕ) → IsPath w → is_qualified w ≡ true → ident w ≡ failed BadShape
  unfolding ident
  qualified_ident w path many = rw (is_name told.paths w path, many) refl

  pathless_ident : (w : List ℕ) → (IsPath w → ⊥) → ident w ≡ failed BadShape
  unfolding ident
  pathless_ident w none = rw (is_unnamed told.paths w none) refl

  abbrev IdentKnown : List ℕ → Type 0
  IdentKnown w = IsIdent w ⊎ (IsIdent w → ⊥)

  ident_by : (w : List ℕ) (b : Bool) → is_ident w ≡ b → IdentKnown w
  ident_by w true e = inl ((told.idents w).0 e)
  ident_by w false e = inr (λ h. let yes : is_ident w ≡ true = (told.idents w).1 h in true_false (is_ident w) yes e)

  ident_known : (w : List ℕ) → IdentKnown w
  ident_known w = ident_by w (is_ident w) refl

  no_ident_by : (w : List ℕ) → (IsIdent w → ⊥) → IsPath w ⊎ (IsPath w → ⊥) → ident w ≡ failed BadShape
  no_ident_by w none (inr pathless) = pathless_ident w pathless
  no_ident_by w none (inl path) = elim (one_word_path w path.0 path.1 path.2 path.3) [
    | inl h ↦ absurd (none h)
    | inr many ↦ qualified_ident w path many
  ]

  abbrev Ident : List ℕ → List ℕ → Type 0
  Ident k n = (n ≡ k) × IsIdent k

  ident_states : (k n : List ℕ) → Ident k n → ident k ≡ done n
  ident_states k n h = is_ident_read k h.1 ∙ ap done (sym h.0)

  ident_some : (k : List ℕ) → IdentKnown k → ((n : List ℕ) × Ident k n) ⊎ (IsIdent k → ⊥)
  ident_some k (inl h) = inl (k, (refl, h))
  ident_some k (inr none) = inr none

  ident_agrees : (k : List ℕ) → Agrees BadShape (ident k) (Ident k) (IsIdent k → ⊥)
  ident_agrees k = record {
    states = ident_states k;
    fails = λ none. no_ident_by k none (path_known told.paths k);
    known = ident_some k (ident_known k);
  }

  -- ---- names

  name_states : (d : Data) (n : List ℕ) → IsName d n → name_of d ≡ done n
  unfolding name_of
  name_states d n h = ap name_of h.is_string ∙ is_name told.paths n h.path

  name_fails : (d : Data) → IsNoName d → name_of d ≡ failed BadShape
  unfolding name_of
  name_fails json.null none = refl
  name_fails (json.boolean b) none = refl
  name_fails (json.number n) none = refl
  name_fails (json.string s) none = is_unnamed told.paths s (λ is. none s (record { is_string = refl; path = is }))
  name_fails (json.array ds) none = refl
  name_fails (json.object ms) none = refl

  abbrev NameKnown : Data → Type 0
  NameKnown d = ((n : List ℕ) × IsName d n) ⊎ IsNoName d

  same_string : (s t : List ℕ) → json.string s ≡ json.string t → s ≡ t
  same_string s t e = cc

  string_known : (s : List ℕ) → IsPath s ⊎ (IsPath s → ⊥) → NameKnown (json.string s)
  string_known s (inl is) = inl (s, record { is_string = refl; path = is })
  string_known s (inr none) = inr (λ n h. none (subst IsPath (sym (same_string s n h.is_string)) h.path))

  name_known : (d : Data) → NameKnown d
  name_known json.null = inr (λ n h. let e = h.is_string in absurd cc)
  name_known (json.boolean b) = inr (λ n h. let e = h.is_string in absurd cc)
  name_known (json.number m) = inr (λ n h. let e = h.is_string in absurd cc)
  name_known (json.string s) = string_known s (path_known told.paths s)
  name_known (json.array ds) = inr (λ n h. let e = h.is_string in absurd cc)
  name_known (json.object ms) = inr (λ n h. let e = h.is_string in absurd cc)

  name_agrees : (d : Data) → Agrees BadShape (name_of d) (IsName d) (IsNoName d)
  name_agrees d = record { states = name_states d; fails = name_fails d; known = name_known d }

  names_agree : (d : Data) → Agrees BadShape (or_fault BadShape (as_array d) >>= names_of) (IsArrayOf IsName d) (IsNoArrayOf IsNoName d)
  unfolding names_of
  names_agree d = array_agrees (λ i x. name_of x) IsName IsNoName (λ i x. name_agrees x) d

  names_in_agree : (k : List ℕ) (d : Data) → Agrees BadShape (names_in (optional k d)) (ListAt (IsArrayOf IsName) k d) (WrongAt (IsNoArrayOf IsNoName) k d)
  names_in_agree k d = list_agrees names_in (IsArrayOf IsName) (IsNoArrayOf IsNoName) refl k d names_agree

  names_at_agree : (k : List ℕ) (d : Data) → Agrees BadShape (names_at k d) (GivenAt (IsArrayOf IsName) k d) (NotGivenAt (IsNoArrayOf IsNoName) k d)
  names_at_agree k d = given_agrees (λ (e : Data). or_fault BadShape (as_array e) >>= names_of) (IsArrayOf IsName) (IsNoArrayOf IsNoName) k d names_agree

  type_in_agrees : (k : List ℕ) (d : Data) → Agrees BadShape (type_in (optional k d)) (MaybeAt (StatesType false) k d) (WrongAt (IsNoType false) k d)
  type_in_agrees k d = maybe_agrees type_in (type_of false) (StatesType false) (IsNoType false) refl (λ e. refl) k d (type_agrees told.paths false)

  name_in_agrees : (k : List ℕ) (d : Data) → Agrees BadShape (optional_name (optional k d)) (MaybeAt IsName k d) (WrongAt IsNoName k d)
  name_in_agrees k d = maybe_agrees optional_name name_of IsName IsNoName refl (λ e. refl) k d name_agrees

  -- ---- common types

  abbrev FormWordKnown : List ℕ → Type 0
  FormWordKnown w = ((Contains form_words w → ⊥) × (is_common (form_named w) ≡ true)) ⊎ (Contains form_words w × (is_common (form_named w) ≡ false))

  form_word_by : (w : List ℕ) (ks : List (List ℕ)) → HasKeys w ks → FormWordKnown w
  unfolding form_named
  form_word_by w ks types.of_string = inr ((0, omega arith, refl), refl)
  form_word_by w ks types.of_long = inr ((1, omega arith, refl), refl)
  form_word_by w ks types.of_boolean = inr ((2, omega arith, refl), refl)
  form_word_by w ks types.of_bool = inr ((3, omega arith, refl), refl)
  form_word_by w ks types.of_set = inr ((4, omega arith, refl), refl)
  form_word_by w ks types.of_record = inr ((5, omega arith, refl), refl)
  form_word_by w ks types.of_entity = inr ((6, omega arith, refl), refl)
  form_word_by w ks types.of_extension = inr ((7, omega arith, refl), refl)
  form_word_by w ks types.of_either = inr ((8, omega arith, refl), refl)
  form_word_by w ks (types.of_common v none) = inl (none, ap is_common (is_common_word v none))

  form_word_known : (w : List ℕ) → FormWordKnown w
  form_word_known w = let k = form_known w in form_word_by w k.0 k.1

  no_form_read : (w : List ℕ) (u : ⊤) → FormWordKnown w → (Contains form_words w → ⊥) → demand BadShape (is_common (form_named w)) ≡ done u
  no_form_read w u (inl h) none = ap (demand BadShape) h.1
  no_form_read w u (inr h) none = absurd (none h.0)

  form_refused : (w : List ℕ) → FormWordKnown w → Contains form_words w → demand BadShape (is_common (form_named w)) ≡ failed BadShape
  form_refused w (inl h) stands = absurd (h.0 stands)
  form_refused w (inr h) stands = ap (demand BadShape) h.1

  form_some : (w : List ℕ) → FormWordKnown w → ((u : ⊤) × (Contains form_words w → ⊥)) ⊎ Contains form_words w
  form_some w (inl h) = inl (tt, h.0)
  form_some w (inr h) = inr h.0

  form_agrees : (w : List ℕ) → Agrees BadShape (demand BadShape (is_common (form_named w))) (λ u. Contains form_words w → ⊥) (Contains form_words w)
  form_agrees w = record {
    states = λ u none. no_form_read w u (form_word_known w) none;
    fails = form_refused w (form_word_known w);
    known = form_some w (form_word_known w);
  }

  abbrev common_made : List ℕ → ⊤ → Raw → List ℕ × Raw
  common_made n u t = (n, t)

  abbrev CommonSteps : List ℕ → Data → List ℕ × Raw → Type 0
  CommonSteps k d c = (n : List ℕ) × Ident k n × ((u : ⊤) × (Contains form_words k → ⊥) × ((t : Raw) × StatesType false d t × (common_made n u t ≡ c)))

  common_to : (k : List ℕ) (d : Data) (c : List ℕ × Raw) → CommonSteps k d c → DescribesCommonType k d c
  common_to k d c (n, h, (u, free, (t, is, e))) = subst (DescribesCommonType k d) e (record { name = h.0; ident = h.1; no_form = free; type = is })

  common_from : (k : List ℕ) (d : Data) (c : List ℕ × Raw) → DescribesCommonType k d c → CommonSteps k d c
  common_from k d c h = (c.0, (h.name, h.ident), (tt, h.no_form, (c.1, h.type, refl)))

  common_cause : (k : List ℕ) (d : Data) → (IsIdent k → ⊥) ⊎ (Contains form_words k ⊎ (IsNoType false d ⊎ ⊥)) → IsNoCommon k d
  common_cause k d (inl n) = says.no_ident n
  common_cause k d (inr (inl n)) = says.form_word n
  common_cause k d (inr (inr (inl n))) = says.no_type n
  common_cause k d (inr (inr (inr h))) = absurd h

  cause_common : (k : List ℕ) (d : Data) → IsNoCommon k d → (IsIdent k → ⊥) ⊎ (Contains form_words k ⊎ (IsNoType false d ⊎ ⊥))
  cause_common k d (says.no_ident n) = inl n
  cause_common k d (says.form_word n) = inr (inl n)
  cause_common k d (says.no_type n) = inr (inr (inl n))

  common_agrees : (k : List ℕ) (d : Data) → Agrees BadShape (common_of k d) (DescribesCommonType k d) (IsNoCommon k d)
  unfolding common_of
  common_agrees k d =
      said_as (DescribesCommonType k d) (IsNoCommon k d)
      (three_steps common_made (ident_agrees k) (form_agrees k) (type_agrees told.paths false d))
      (common_to k d) (common_from k d) (common_cause k d) (cause_common k d)

  -- ---- entity types

  abbrev TypeName : List ℕ → List ℕ → Type 0
  TypeName k n = (n ≡ k) × IsIdent k × (k ≡ codes "Action" → ⊥)

  abbrev ActionKnown : List ℕ → Type 0
  ActionKnown k = ((k ≡ codes "Action" → ⊥) × (bytes_eq k (codes "Action") ≡ false)) ⊎ ((k ≡ codes "Action") × (bytes_eq k (codes "Action") ≡ true))

  action_by : (k : List ℕ) (b : Bool) → bytes_eq k (codes "Action") ≡ b → ActionKnown k
  action_by k true e = inr (bytes_same k (codes "Action") e, e)
  action_by k false e = inl (λ same. true_false (bytes_eq k (codes "Action")) (same_bytes k (codes "Action") same) e, e)

  no_action_read : (k : List ℕ) (u : ⊤) → (k ≡ codes "Action" → ⊥) → demand BadShape (not (bytes_eq k (codes "Action"))) ≡ done u
  no_action_read k u none = ap (λ (b : Bool). demand BadShape (not b)) (apart k (codes "Action") none)

  action_refused : (k : List ℕ) → k ≡ codes "Action" → demand BadShape (not (bytes_eq k (codes "Action"))) ≡ failed BadShape
  action_refused k same = ap (λ (b : Bool). demand BadShape (not b)) (same_bytes k (codes "Action") same)

  action_some : (k : List ℕ) → ActionKnown k → ((u : ⊤) × (k ≡ codes "Action" → ⊥)) ⊎ (k ≡ codes "Action")
  action_some k (inl h) = inl (tt, h.0)
  action_some k (inr h) = inr h.0

  free_agrees : (k : List ℕ) → Agrees BadShape (demand BadShape (not (bytes_eq k (codes "Action")))) (λ u. k ≡ codes "Action" → ⊥) (k ≡ codes "Action")
  free_agrees k = record {
    states = no_action_read k;
    fails = action_refused k;
    known = action_some k (action_by k (bytes_eq k (codes "Action")) refl);
  }

  abbrev NameSteps : List ℕ → List ℕ → Type 0
  NameSteps k x = (n : List ℕ) × Ident k n × ((u : ⊤) × (k ≡ codes "Action" → ⊥) × (n ≡ x))

  type_name_to : (k x : List ℕ) → NameSteps k x → TypeName k x
  type_name_to k x (n, h, (u, free, e)) = subst (TypeName k) e (h.0, h.1, free)

  type_name_from : (k x : List ℕ) → TypeName k x → NameSteps k x
  type_name_from k x h = (x, (h.0, h.1), (tt, h.2, refl))

  abbrev NoTypeName : List ℕ → Type 0
  NoTypeName k = (IsIdent k → ⊥) ⊎ (k ≡ codes "Action")

  no_name_to : (k : List ℕ) → (IsIdent k → ⊥) ⊎ ((k ≡ codes "Action") ⊎ ⊥) → NoTypeName k
  no_name_to k (inl n) = inl n
  no_name_to k (inr (inl n)) = inr n
  no_name_to k (inr (inr h)) = absurd h

  no_name_from : (k : List ℕ) → NoTypeName k → (IsIdent k → ⊥) ⊎ ((k ≡ codes "Action") ⊎ ⊥)
  no_name_from k (inl n) = inl n
  no_name_from k (inr n) = inr (inl n)

  type_name_agrees : (k : List ℕ) → Agrees BadShape (entity_type_name k) (TypeName k) (NoTypeName k)
  type_name_agrees k =
      said_as (TypeName k) (NoTypeName k) (two_steps (λ (n : List ℕ) (u : ⊤). n) (ident_agrees k) (free_agrees k))
      (type_name_to k) (type_name_from k) (no_name_to k) (no_name_from k)

  abbrev Parents : Data → List (List ℕ) → Type 0
  Parents d = ListAt (IsArrayOf IsName) (codes "memberOfTypes") d

  abbrev Shape : Data → Option Raw → Type 0
  Shape d = MaybeAt (StatesType false) (codes "shape") d

  abbrev entity_type_made : List ℕ → ⊤ → List (List ℕ) → Option Raw → EntityTypeOf
  entity_type_made n u ps o = record { name = n; parents = ps; shape = o }

  abbrev EntitySteps : List ℕ → Data → EntityTypeOf → Type 0
  EntitySteps k d e = (n : List ℕ) × TypeName k n × ((u : ⊤) × HasOnly entity_type_keys d × ((ps : List (List ℕ)) × Parents d ps × ((o : Option Raw) × Shape d o × (entity_type_made n u ps o ≡ e))))

  entity_to : (k : List ℕ) (d : Data) (e : EntityTypeOf) → EntitySteps k d e → DescribesEntityType k d e
  entity_to k d e (n, h, (u, only, (ps, parents, (o, shape, same)))) =
      subst (DescribesEntityType k d) same (record { name = h.0; ident = h.1; no_action = h.2; only = only; parents = parents; shape = shape })

  entity_from : (k : List ℕ) (d : Data) (e : EntityTypeOf) → DescribesEntityType k d e → EntitySteps k d e
  entity_from k d e h = (e.name, (h.name, h.ident, h.no_action), (tt, h.only, (e.parents, h.parents, (e.shape, h.shape, refl))))

  abbrev EntityCauses : List ℕ → Data → Type 0
  EntityCauses k d = NoTypeName k ⊎ (HasOther entity_type_keys d ⊎ (WrongAt (IsNoArrayOf IsNoName) (codes "memberOfTypes") d ⊎ (WrongAt (IsNoType false) (codes "shape") d ⊎ ⊥)))

  entity_cause : (k : List ℕ) (d : Data) → EntityCauses k d → IsNoEntityType k d
  entity_cause k d (inl (inl n)) = says.no_ident n
  entity_cause k d (inl (inr n)) = says.called_action n
  entity_cause k d (inr (inl n)) = says.other_key n
  entity_cause k d (inr (inr (inl n))) = says.wrong_parents n
  entity_cause k d (inr (inr (inr (inl n)))) = says.wrong_shape n
  entity_cause k d (inr (inr (inr (inr h)))) = absurd h

  cause_entity : (k : List ℕ) (d : Data) → IsNoEntityType k d → EntityCauses k d
  cause_entity k d (says.no_ident n) = inl (inl n)
  cause_entity k d (says.called_action n) = inl (inr n)
  cause_entity k d (says.other_key n) = inr (inl n)
  cause_entity k d (says.wrong_parents n) = inr (inr (inl n))
  cause_entity k d (says.wrong_shape n) = inr (inr (inr (inl n)))

  entity_agrees : (k : List ℕ) (d : Data) → Agrees BadShape (entity_type_of k d) (DescribesEntityType k d) (IsNoEntityType k d)
  unfolding entity_type_of
  entity_agrees k d =
      said_as (DescribesEntityType k d) (IsNoEntityType k d)
      (four_steps entity_type_made (type_name_agrees k) (keys_agree entity_type_keys d) (names_in_agree (codes "memberOfTypes") d) (type_in_agrees (codes "shape") d))
      (entity_to k d) (entity_from k d) (entity_cause k d) (cause_entity k d)

  -- ---- actions

  id_states : (d : Data) (s : List ℕ) → text_at (codes "id") d ≡ Some s → required_text (codes "id") d ≡ done s
  id_states d s at = text_read (codes "id") d s at

  id_by : (d : Data) (o : Option (List ℕ)) → text_at (codes "id") d ≡ o → ((s : List ℕ) × (text_at (codes "id") d ≡ Some s)) ⊎ (text_at (codes "id") d ≡ None)
  id_by d (Some s) at = inl (s, at)
  id_by d None at = inr at

  id_agrees : (d : Data) → Agrees BadShape (required_text (codes "id") d) (λ s. text_at (codes "id") d ≡ Some s) (text_at (codes "id") d ≡ None)
  id_agrees d = record { states = id_states d; fails = λ at. no_text (codes "id") d at; known = id_by d (text_at (codes "id") d) refl }

  abbrev parent_made : ⊤ → List ℕ → Option (List ℕ) → StatedParent
  parent_made u s o = record { type_name = o; id = s }

  abbrev ParentSteps : Data → StatedParent → Type 0
  ParentSteps d p = (u : ⊤) × HasOnly parent_keys d × ((s : List ℕ) × (text_at (codes "id") d ≡ Some s) × ((o : Option (List ℕ)) × MaybeAt IsName (codes "type") d o × (parent_made u s o ≡ p)))

  parent_to : (d : Data) (p : StatedParent) → ParentSteps d p → DescribesParent d p
  parent_to d p (u, only, (s, at, (o, name, same))) = subst (DescribesParent d) same (record { only = only; id = at; type_name = name })

  parent_from : (d : Data) (p : StatedParent) → DescribesParent d p → ParentSteps d p
  parent_from d p h = (tt, h.only, (p.id, h.id, (p.type_name, h.type_name, refl)))

  abbrev ParentCauses : Data → Type 0
  ParentCauses d = HasOther parent_keys d ⊎ ((text_at (codes "id") d ≡ None) ⊎ (WrongAt IsNoName (codes "type") d ⊎ ⊥))

  parent_cause : (d : Data) → ParentCauses d → IsNoParent d
  parent_cause d (inl n) = says.other_key n
  parent_cause d (inr (inl n)) = says.no_id n
  parent_cause d (inr (inr (inl n))) = says.wrong_type n
  parent_cause d (inr (inr (inr h))) = absurd h

  cause_parent : (d : Data) → IsNoParent d → ParentCauses d
  cause_parent d (says.other_key n) = inl n
  cause_parent d (says.no_id n) = inr (inl n)
  cause_parent d (says.wrong_type n) = inr (inr (inl n))

  parent_agrees : (d : Data) → Agrees BadShape (parent_of d) (DescribesParent d) (IsNoParent d)
  unfolding parent_of
  parent_agrees d =
      said_as (DescribesParent d) (IsNoParent d) (three_steps parent_made (keys_agree parent_keys d) (id_agrees d) (name_in_agrees (codes "type") d))
      (parent_to d) (parent_from d) (parent_cause d) (cause_parent d)

  parents_agree : (d : Data) → Agrees BadShape (or_fault BadShape (as_array d) >>= parents_of) (IsArrayOf DescribesParent d) (IsNoArrayOf IsNoParent d)
  unfolding parents_of
  parents_agree d = array_agrees (λ i x. parent_of x) DescribesParent IsNoParent (λ i x. parent_agrees x) d

  parents_in_agree : (k : List ℕ) (d : Data) → Agrees BadShape (parents_in (optional k d)) (ListAt (IsArrayOf DescribesParent) k d) (WrongAt (IsNoArrayOf IsNoParent) k d)
  parents_in_agree k d = list_agrees parents_in (IsArrayOf DescribesParent) (IsNoArrayOf IsNoParent) refl k d parents_agree

  -- what an action applies to
  abbrev use_made : ⊤ → List (List ℕ) → List (List ℕ) → Option Raw → AppliesToOf
  use_made u ps rs o = record { principals = ps; resources = rs; context = o }

  abbrev Names : List ℕ → Data → List (List ℕ) → Type 0
  Names k d = GivenAt (IsArrayOf IsName) k d

  abbrev NoNames : List ℕ → Data → Type 0
  NoNames k d = NotGivenAt (IsNoArrayOf IsNoName) k d

  abbrev UseSteps : Data → AppliesToOf → Type 0
  UseSteps d x =
      (u : ⊤) × HasOnly applies_to_keys d × ((ps : List (List ℕ)) × Names (codes "principalTypes") d ps × ((rs : List (List ℕ)) × Names (codes "resourceTypes") d rs
      × ((o : Option Raw) × MaybeAt (StatesType false) (codes "context") d o × (use_made u ps rs o ≡ x))))

  use_to : (d : Data) (x : AppliesToOf) → UseSteps d x → DescribesAppliesTo d x
  use_to d x (u, only, (ps, principals, (rs, resources, (o, context, same)))) =
      subst (DescribesAppliesTo d) same (record { only = only; principals = principals; resources = resources; context = context })

  use_from : (d : Data) (x : AppliesToOf) → DescribesAppliesTo d x → UseSteps d x
  use_from d x h = (tt, h.only, (x.principals, h.principals, (x.resources, h.resources, (x.context, h.context, refl))))

  abbrev UseCauses : Data → Type 0
  UseCauses d = HasOther applies_to_keys d ⊎ (NoNames (codes "principalTypes") d ⊎ (NoNames (codes "resourceTypes") d ⊎ (WrongAt (IsNoType false) (codes "context") d ⊎ ⊥)))

  use_cause : (d : Data) → UseCauses d → IsNoAppliesTo d
  use_cause d (inl n) = says.other_key n
  use_cause d (inr (inl n)) = says.wrong_principals n
  use_cause d (inr (inr (inl n))) = says.wrong_resources n
  use_cause d (inr (inr (inr (inl n)))) = says.wrong_context n
  use_cause d (inr (inr (inr (inr h)))) = absurd h

  cause_use : (d : Data) → IsNoAppliesTo d → UseCauses d
  cause_use d (says.other_key n) = inl n
  cause_use d (says.wrong_principals n) = inr (inl n)
  cause_use d (says.wrong_resources n) = inr (inr (inl n))
  cause_use d (says.wrong_context n) = inr (inr (inr (inl n)))

  use_agrees : (d : Data) → Agrees BadShape (applies_to_of d) (DescribesAppliesTo d) (IsNoAppliesTo d)
  unfolding applies_to_of
  use_agrees d =
      said_as (DescribesAppliesTo d) (IsNoAppliesTo d)
      (four_steps use_made (keys_agree applies_to_keys d) (names_at_agree (codes "principalTypes") d) (names_at_agree (codes "resourceTypes") d) (type_in_agrees (codes "context") d))
      (use_to d) (use_from d) (use_cause d) (cause_use d)

  use_in_agrees : (k : List ℕ) (d : Data) → Agrees BadShape (applies_to_in (optional k d)) (MaybeAt DescribesAppliesTo k d) (WrongAt IsNoAppliesTo k d)
  use_in_agrees k d = maybe_agrees applies_to_in applies_to_of DescribesAppliesTo IsNoAppliesTo refl (λ e. refl) k d use_agrees

  -- no attributes
  empty_at : (d : Data) → HasNoAttributes d → is_empty_in (optional (codes "attributes") d) ≡ true
  empty_at d (says.key_absent (keys.nothing at)) = ap (λ (o : Option Data). is_empty_in (present o)) at
  empty_at d (says.key_absent (keys.is_null at)) = ap (λ (o : Option Data). is_empty_in (present o)) at
  empty_at d (says.key_given_empty at) = ap (λ (o : Option Data). is_empty_in (present o)) at

  empty_by : (d : Data) (o : Option Data) → get (codes "attributes") d ≡ o → HasNoAttributes d ⊎ (is_empty_in (present o) ≡ false)
  empty_by d None at = inl (says.key_absent (keys.nothing at))
  empty_by d (Some json.null) at = inl (says.key_absent (keys.is_null at))
  empty_by d (Some (json.boolean b)) at = inr refl
  empty_by d (Some (json.number n)) at = inr refl
  empty_by d (Some (json.string s)) at = inr refl
  empty_by d (Some (json.array ds)) at = inr refl
  empty_by d (Some (json.object no_members)) at = inl (says.key_given_empty at)
  empty_by d (Some (json.object (member k e ms))) at = inr refl

  abbrev EmptyKnown : Data → Type 0
  EmptyKnown d = HasNoAttributes d ⊎ (is_empty_in (optional (codes "attributes") d) ≡ false)

  empty_known : (d : Data) → EmptyKnown d
  empty_known d = empty_by d (get (codes "attributes") d) refl

  some_attribute : (d : Data) → EmptyKnown d → (HasNoAttributes d → ⊥) → demand BadShape (is_empty_in (optional (codes "attributes") d)) ≡ failed BadShape
  some_attribute d (inl h) none = absurd (none h)
  some_attribute d (inr e) none = ap (demand BadShape) e

  empty_read : (d : Data) (u : ⊤) → HasNoAttributes d → demand BadShape (is_empty_in (optional (codes "attributes") d)) ≡ done u
  empty_read d u h = ap (demand BadShape) (empty_at d h)

  empty_some : (d : Data) → EmptyKnown d → ((u : ⊤) × HasNoAttributes d) ⊎ (HasNoAttributes d → ⊥)
  empty_some d (inl h) = inl (tt, h)
  empty_some d (inr e) = inr (λ h. true_false (is_empty_in (optional (codes "attributes") d)) (empty_at d h) e)

  empty_agrees : (d : Data) → Agrees BadShape (demand BadShape (is_empty_in (optional (codes "attributes") d))) (λ u. HasNoAttributes d) (HasNoAttributes d → ⊥)
  empty_agrees d = record { states = empty_read d; fails = some_attribute d (empty_known d); known = empty_some d (empty_known d) }

  abbrev action_made : List ℕ → ⊤ → ⊤ → List StatedParent → Option AppliesToOf → ActionOf
  action_made k u v ps o = record { id = k; parents = ps; applies_to = o }

  abbrev ActionSteps : List ℕ → Data → ActionOf → Type 0
  ActionSteps k d a =
      (u : ⊤) × HasOnly action_keys d × ((v : ⊤) × HasNoAttributes d × ((ps : List StatedParent) × ListAt (IsArrayOf DescribesParent) (codes "memberOf") d ps
      × ((o : Option AppliesToOf) × MaybeAt DescribesAppliesTo (codes "appliesTo") d o × (action_made k u v ps o ≡ a))))

  action_to : (k : List ℕ) (d : Data) (a : ActionOf) → ActionSteps k d a → DescribesAction k d a
  action_to k d a (u, only, (v, empty, (ps, parents, (o, applied, same)))) =
      subst (DescribesAction k d) same (record { id = refl; only = only; no_attributes = empty; parents = parents; applies_to = applied })

  id_same : (k : List ℕ) (a : ActionOf) → a.id ≡ k → action_made k tt tt a.parents a.applies_to ≡ a
  id_same k a e = ap (λ (l : List ℕ). action_made l tt tt a.parents a.applies_to) (sym e)

  action_from : (k : List ℕ) (d : Data) (a : ActionOf) → DescribesAction k d a → ActionSteps k d a
  action_from k d a h = (tt, h.only, (tt, h.no_attributes, (a.parents, h.parents, (a.applies_to, h.applies_to, id_same k a h.id))))

  abbrev ActionCauses : Data → Type 0
  ActionCauses d = HasOther action_keys d ⊎ ((HasNoAttributes d → ⊥) ⊎ (WrongAt (IsNoArrayOf IsNoParent) (codes "memberOf") d ⊎ (WrongAt IsNoAppliesTo (codes "appliesTo") d ⊎ ⊥)))

  action_cause : (d : Data) → ActionCauses d → IsNoAction d
  action_cause d (inl n) = says.other_key n
  action_cause d (inr (inl n)) = says.has_attributes n
  action_cause d (inr (inr (inl n))) = says.wrong_parents n
  action_cause d (inr (inr (inr (inl n)))) = says.wrong_use n
  action_cause d (inr (inr (inr (inr h)))) = absurd h

  cause_action : (d : Data) → IsNoAction d → ActionCauses d
  cause_action d (says.other_key n) = inl n
  cause_action d (says.has_attributes n) = inr (inl n)
  cause_action d (says.wrong_parents n) = inr (inr (inl n))
  cause_action d (says.wrong_use n) = inr (inr (inr (inl n)))

  action_agrees : (k : List ℕ) (d : Data) → Agrees BadShape (action_of k d) (DescribesAction k d) (IsNoAction d)
  unfolding action_of
  action_agrees k d =
      said_as (DescribesAction k d) (IsNoAction d)
      (four_steps (action_made k) (keys_agree action_keys d) (empty_agrees d) (parents_in_agree (codes "memberOf") d) (use_in_agrees (codes "appliesTo") d))
      (action_to k d) (action_from k d) (action_cause d) (cause_action d)

  -- ---- namespaces

  abbrev HasNoNamespaceName : List ℕ → Type 0
  HasNoNamespaceName k = (n : Option (List ℕ)) → IsNamespace k n → ⊥

  named_states : (k : List ℕ) → IsPath k → namespace_name k ≡ done (Some k)
  unfolding namespace_name is_path pieces
  named_states [] path = absurd (no_path told.paths [] [] refl path refl)
  named_states (c ∷ cs) path = rw (is_name told.paths (c ∷ cs) path) refl

  namespace_name_states : (k : List ℕ) (n : Option (List ℕ)) → IsNamespace k n → namespace_name k ≡ done n
  unfolding namespace_name
  namespace_name_states k n says.empty_namespace = refl
  namespace_name_states k n (says.named l path) = named_states l path

  namespace_name_fails : (k : List ℕ) → HasNoNamespaceName k → namespace_name k ≡ failed BadShape
  unfolding namespace_name
  namespace_name_fails [] none = absurd (none None says.empty_namespace)
  namespace_name_fails (c ∷ cs) none = rw (is_unnamed told.paths (c ∷ cs) (λ path. none (Some (c ∷ cs)) (says.named (c ∷ cs) path))) refl

  pathless_namespace : (c : ℕ) (cs : List ℕ) (n : Option (List ℕ)) → (IsPath (c ∷ cs) → ⊥) → (k : List ℕ) → k ≡ c ∷ cs → IsNamespace k n → ⊥
  pathless_namespace c cs n none k e says.empty_namespace = absurd cc
  pathless_namespace c cs n none k e (says.named l path) = none (subst IsPath e path)

  namespace_name_known : (k : List ℕ) → IsPath k ⊎ (IsPath k → ⊥) → ((n : Option (List ℕ)) × IsNamespace k n) ⊎ HasNoNamespaceName k
  namespace_name_known [] path = inl (None, says.empty_namespace)
  namespace_name_known (c ∷ cs) (inl path) = inl (Some (c ∷ cs), says.named (c ∷ cs) path)
  namespace_name_known (c ∷ cs) (inr none) = inr (λ n h. pathless_namespace c cs n none (c ∷ cs) refl h)

  namespace_name_agrees : (k : List ℕ) → Agrees BadShape (namespace_name k) (IsNamespace k) (HasNoNamespaceName k)
  namespace_name_agrees k = record {
    states = namespace_name_states k;
    fails = namespace_name_fails k;
    known = namespace_name_known k (path_known told.paths k);
  }

  commons_agree : (k : List ℕ) (d : Data) → Agrees BadShape (commons_in (optional k d)) (ListAt (IsObjectOf DescribesCommonType) k d) (WrongAt (IsNoObjectOf IsNoCommon) k d)
  unfolding commons_of each_member
  commons_agree k d = list_agrees commons_in (IsObjectOf DescribesCommonType) (IsNoObjectOf IsNoCommon) refl k d (object_agrees common_of DescribesCommonType IsNoCommon common_agrees)

  entity_types_agree : (k : List ℕ) (d : Data) → Agrees BadShape (entity_types_in (optional k d)) (ListAt (IsObjectOf DescribesEntityType) k d) (WrongAt (IsNoObjectOf IsNoEntityType) k d)
  unfolding entity_types_of each_member
  entity_types_agree k d =
      list_agrees entity_types_in (IsObjectOf DescribesEntityType) (IsNoObjectOf IsNoEntityType) refl k d (object_agrees entity_type_of DescribesEntityType IsNoEntityType entity_agrees)

  abbrev IsNoActionAt : List ℕ → Data → Type 0
  IsNoActionAt k = IsNoAction

  actions_agree : (k : List ℕ) (d : Data) → Agrees BadShape (actions_in (optional k d)) (ListAt (IsObjectOf DescribesAction) k d) (WrongAt (IsNoObjectOf IsNoActionAt) k d)
  unfolding actions_of each_member
  actions_agree k d = list_agrees actions_in (IsObjectOf DescribesAction) (IsNoObjectOf IsNoActionAt) refl k d (object_agrees action_of DescribesAction IsNoActionAt action_agrees)

  abbrev namespace_made : Option (List ℕ) → ⊤ → List (List ℕ × Raw) → List EntityTypeOf → List ActionOf → NamespaceOf
  namespace_made n u cs es us = record { name = n; commons = cs; entity_types = es; actions = us }

  abbrev NamespaceSteps : List ℕ → Data → NamespaceOf → Type 0
  NamespaceSteps k d x =
      (n : Option (List ℕ)) × IsNamespace k n × ((u : ⊤) × HasOnly namespace_keys d
      × ((cs : List (List ℕ × Raw)) × ListAt (IsObjectOf DescribesCommonType) (codes "commonTypes") d cs
      × ((es : List EntityTypeOf) × ListAt (IsObjectOf DescribesEntityType) (codes "entityTypes") d es
      × ((us : List ActionOf) × ListAt (IsObjectOf DescribesAction) (codes "actions") d us × (namespace_made n u cs es us ≡ x)))))

  namespace_to : (k : List ℕ) (d : Data) (x : NamespaceOf) → NamespaceSteps k d x → DescribesNamespace k d x
  namespace_to k d x (n, name, (u, only, (cs, commons, (es, entity_types, (us, actions, same))))) =
      subst (DescribesNamespace k d) same (record { name = name; only = only; commons = commons; entity_types = entity_types; actions = actions })

  namespace_from : (k : List ℕ) (d : Data) (x : NamespaceOf) → DescribesNamespace k d x → NamespaceSteps k d x
  namespace_from k d x h = (x.name, h.name, (tt, h.only, (x.commons, h.commons, (x.entity_types, h.entity_types, (x.actions, h.actions, refl)))))

  abbrev NamespaceCauses : List ℕ → Data → Type 0
  NamespaceCauses k d =
      HasNoNamespaceName k ⊎ (HasOther namespace_keys d ⊎ (WrongAt (IsNoObjectOf IsNoCommon) (codes "commonTypes") d
      ⊎ (WrongAt (IsNoObjectOf IsNoEntityType) (codes "entityTypes") d ⊎ (WrongAt (IsNoObjectOf IsNoActionAt) (codes "actions") d ⊎ ⊥))))

  namespace_cause : (k : List ℕ) (d : Data) → NamespaceCauses k d → IsNoNamespace k d
  namespace_cause k d (inl n) = says.no_name n
  namespace_cause k d (inr (inl n)) = says.other_key n
  namespace_cause k d (inr (inr (inl n))) = says.wrong_commons n
  namespace_cause k d (inr (inr (inr (inl n)))) = says.wrong_entity_types n
  namespace_cause k d (inr (inr (inr (inr (inl n))))) = says.wrong_actions n
  namespace_cause k d (inr (inr (inr (inr (inr h))))) = absurd h

  cause_namespace : (k : List ℕ) (d : Data) → IsNoNamespace k d → NamespaceCauses k d
  cause_namespace k d (says.no_name n) = inl n
  cause_namespace k d (says.other_key n) = inr (inl n)
  cause_namespace k d (says.wrong_commons n) = inr (inr (inl n))
  cause_namespace k d (says.wrong_entity_types n) = inr (inr (inr (inl n)))
  cause_namespace k d (says.wrong_actions n) = inr (inr (inr (inr (inl n))))

  namespace_agrees : (k : List ℕ) (d : Data) → Agrees BadShape (namespace_of k d) (DescribesNamespace k d) (IsNoNamespace k d)
  unfolding namespace_of
  namespace_agrees k d =
      said_as (DescribesNamespace k d) (IsNoNamespace k d)
      (five_steps namespace_made (namespace_name_agrees k) (keys_agree namespace_keys d) (commons_agree (codes "commonTypes") d) (entity_types_agree (codes "entityTypes") d) (actions_agree (codes "actions") d))
      (namespace_to k d) (namespace_from k d) (namespace_cause k d) (cause_namespace k d)

  -- ---- files

  pub file_agrees : (d : Data) → Agrees BadShape (stated d) (DescribesNamespaces d) (IsNoFile d)
  unfolding stated namespaces_of
  file_agrees d = object_agrees namespace_of DescribesNamespace IsNoNamespace namespace_agrees d

  -- ---- the laws

  pub files_are_read : FilesAreRead
  files_are_read d = agreeing_gives BadShape (stated d) (DescribesNamespaces d) (IsNoFile d) (file_agrees d)

  pub one_file : FilesHaveOneOutcome
  one_file d = agreeing_has_one BadShape (stated d) (DescribesNamespaces d) (IsNoFile d) (file_agrees d)
