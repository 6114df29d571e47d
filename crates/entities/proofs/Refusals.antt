-- Why the reading function gives no value.
use Rattle.std.proofs.Common.{◌≡◌, ◌∙◌, ℕ, List, [], ◌∷◌, Bool, true, false, Option, Some, None, Result, Ok, Err, refl, sym, ap, subst}
use Rattle.std.specs.Prelude.{codes}
use Rattle.std.specs.Str.{bytes_eq}
use Rattle.serde_json.specs.Data.{Data, Items, no_items, item, Members, no_members, member}
use Rattle.serde_json.specs.Data as json
use Rattle.serde_json.specs.Find.{get, as_i64, as_bool, as_number, as_object, as_str}
use Rattle.json_words.specs.ReadsAs.{◌>>=◌, or_fault, demand}
use Rattle.json_words.specs.Keys.{has_only}
use Rattle.json_words.specs.Json.{text_at}
use Rattle.json_words.proofs.EachLemmas.{bind_ok}
use Rattle.values.specs.Values as value
use Rattle.values.specs.Values.{PlainValue, PlainFields, values_of, fields_of, pairs_of, pairs_of-fields_of}
use Rattle.values.specs.Fields.{Field}
use Rattle.values.specs.Sets.{set_list}
use Rattle.values.specs.extensions.TextsDecided.{decimal_of, network_of}
use Rattle.entity_uids.specs.Uids.{uid_in}
use Rattle.entities.specs.declared.fault.EntityFault.{EntityFault}
use Rattle.entities.specs.declared.fault.EntityFault.TheVariants.{WrongType, Undeclared, Missing}
use Rattle.schema_types.specs.Cedar as type
use Rattle.schema_types.specs.Cedar.{Cedar, CedarFields}
use Rattle.entities.specs.Parts.{declared_at, element_of, fields_in}
use Rattle.entities.specs.Typing.{all_there, inside, with_or, typed_value, typed_items, typed_members, record_in, leaf}
use Rattle.entities.specs.Typing.{under_key, plain_call, call_in, argument_or_call, argument_in, boolean_in, is_long, long_of, long_in}
use Rattle.entities.specs.Typing.{text_in, entity_in, decimal_in, ipaddr_in}
use Rattle.entities.specs.StatedValues.{Declares, Reads, ReadMembers, FaultyMember, RefusesRecord}
use Rattle.entities.specs.StatedValues as says
use Rattle.entities.specs.ParsingLaws.{ValuesAreRead, OneValue, OtherJsonIsOfWrongType, RecordsAreRead, RecordsAreRefused}
use Rattle.entities.proofs.ReadingSteps.{done, failed, ok_is, err_is, never, passes}
use Rattle.entities.proofs.Leaves.{Names}
use Rattle.entities.proofs.Only.{Within, Only, within_bind, only_ok, only_wrong, only_bind, only_demand, only_or}
use Rattle.entities.proofs.Fields.{declared_is, is_declared, required_is, is_required, lacks, is_lacking}
use Rattle.entities.proofs.ValuesRead.{value_is, members_are, is_value, are_members}

-- ---- what is wrong inside a value is of one kind

only_inside : {A : Type 0} (r : Result A EntityFault) → Only WrongType (inside r)
only_inside (Ok x) = only_ok WrongType x
only_inside (Err f) = only_wrong WrongType

only_with : {A B : Type 0} (o : Option A) (k : A → Result B EntityFault) (r : Result B EntityFault) → ((x : A) → Only WrongType (k x)) → Only WrongType r → Only WrongType (with_or o k r)
only_with (Some x) k r some none = some x
only_with None k r some none = none

only_call : (name : List ℕ) (d : Data) → Only WrongType (plain_call name d)
unfolding plain_call
only_call name d =
    only_bind (demand WrongType (has_only (codes "fn" ∷ codes "arg" ∷ []) d)) (λ u. or_fault WrongType (text_at (codes "fn") d) >>= λ given. or_fault WrongType (text_at (codes "arg") d) >>= λ x. demand WrongType (bytes_eq given name) >>= λ q. Ok x)
    (only_demand WrongType (has_only (codes "fn" ∷ codes "arg" ∷ []) d)) (λ u.
    only_bind (or_fault WrongType (text_at (codes "fn") d)) (λ given. or_fault WrongType (text_at (codes "arg") d) >>= λ x. demand WrongType (bytes_eq given name) >>= λ q. Ok x)
    (only_or WrongType (text_at (codes "fn") d)) (λ given.
    only_bind (or_fault WrongType (text_at (codes "arg") d)) (λ x. demand WrongType (bytes_eq given name) >>= λ q. Ok x)
    (only_or WrongType (text_at (codes "arg") d)) (λ x.
    only_bind (demand WrongType (bytes_eq given name)) (λ q. Ok x) (only_demand WrongType (bytes_eq given name)) (λ q. only_ok WrongType x))))

only_under : (d : Data) (o : Option Data) → Only WrongType (under_key (codes "__extn") d o)
only_under d None = only_ok WrongType d
only_under d (Some inner) = only_bind (demand WrongType (has_only (codes "__extn" ∷ []) d)) (λ u. Ok inner) (only_demand WrongType (has_only (codes "__extn" ∷ []) d)) (λ u. only_ok WrongType inner)

only_called : (name : List ℕ) (d : Data) → Only WrongType (call_in name d)
unfolding call_in
only_called name d = only_bind (under_key (codes "__extn") d (get (codes "__extn") d)) (λ inner. plain_call name inner) (only_under d (get (codes "__extn") d)) (only_call name)

only_argument_of : (name : List ℕ) (d : Data) (o : Option (List ℕ)) → Only WrongType (argument_or_call name d o)
only_argument_of name d (Some s) = only_ok WrongType s
only_argument_of name d None = only_called name d

only_argument : (name : List ℕ) (d : Data) → Only WrongType (argument_in name d)
unfolding argument_in
only_argument name d = only_argument_of name d (as_str d)

only_leaf : (t : Cedar) (d : Data) → Only WrongType (leaf t d)
unfolding boolean_in long_in text_in entity_in decimal_in ipaddr_in
only_leaf type.boolean d = only_bind (or_fault WrongType (as_bool d)) (λ b. Ok (value.boolean b)) (only_or WrongType (as_bool d)) (λ b. only_ok WrongType (value.boolean b))
only_leaf type.long d =
    only_bind (or_fault WrongType (as_number d)) (λ n. or_fault WrongType (as_i64 n) >>= λ z. long_of z) (only_or WrongType (as_number d)) (λ n.
    only_bind (or_fault WrongType (as_i64 n)) (λ z. long_of z) (only_or WrongType (as_i64 n)) (λ z.
    only_bind (demand WrongType (is_long z)) (λ u. Ok (value.long z)) (only_demand WrongType (is_long z)) (λ u. only_ok WrongType (value.long z))))
only_leaf type.text d = only_bind (or_fault WrongType (as_str d)) (λ s. Ok (value.text s)) (only_or WrongType (as_str d)) (λ s. only_ok WrongType (value.text s))
only_leaf (type.entity name) d =
    only_bind (or_fault WrongType (uid_in d)) (λ u. demand WrongType (bytes_eq u.type_name name) >>= λ q. Ok (value.entity u)) (only_or WrongType (uid_in d)) (λ u.
    only_bind (demand WrongType (bytes_eq u.type_name name)) (λ q. Ok (value.entity u)) (only_demand WrongType (bytes_eq u.type_name name)) (λ q. only_ok WrongType (value.entity u)))
only_leaf (type.set t) d = only_wrong WrongType
only_leaf (type.record_of fs) d = only_wrong WrongType
only_leaf type.decimal d =
    only_bind (argument_in (codes "decimal") d) (λ s. or_fault WrongType (decimal_of s) >>= λ z. Ok (value.decimal z)) (only_argument (codes "decimal") d) (λ s.
    only_bind (or_fault WrongType (decimal_of s)) (λ z. Ok (value.decimal z)) (only_or WrongType (decimal_of s)) (λ z. only_ok WrongType (value.decimal z)))
only_leaf type.ipaddr d =
    only_bind (argument_in (codes "ip") d) (λ s. or_fault WrongType (network_of s) >>= λ n. Ok (value.ipaddr n)) (only_argument (codes "ip") d) (λ s.
    only_bind (or_fault WrongType (network_of s)) (λ n. Ok (value.ipaddr n)) (only_or WrongType (network_of s)) (λ n. only_ok WrongType (value.ipaddr n)))

only_record : (fs : CedarFields) (ms : Members)
    → Only WrongType (inside (typed_members fs ms) >>= λ vs. demand WrongType (all_there fs (json.object ms)) >>= λ there. Ok (value.record_of (fields_of vs)))
only_record fs ms =
    only_bind (inside (typed_members fs ms)) (λ vs. demand WrongType (all_there fs (json.object ms)) >>= λ there. Ok (value.record_of (fields_of vs))) (only_inside (typed_members fs ms)) (λ vs.
    only_bind (demand WrongType (all_there fs (json.object ms))) (λ there. Ok (value.record_of (fields_of vs))) (only_demand WrongType (all_there fs (json.object ms))) (λ u. only_ok WrongType (value.record_of (fields_of vs))))

mutual
  unfolding typed_value

  only_value : (t : Cedar) (d : Data) → Only WrongType (typed_value t d)
  only_value t json.null = only_leaf t json.null
  only_value t (json.boolean b) = only_leaf t (json.boolean b)
  only_value t (json.number n) = only_leaf t (json.number n)
  only_value t (json.string s) = only_leaf t (json.string s)
  only_value t (json.array ds) =
      only_bind (or_fault WrongType (element_of t)) (λ x. typed_items x ds >>= λ vs. Ok (value.set (values_of (set_list vs)))) (only_or WrongType (element_of t)) (λ x.
      only_bind (typed_items x ds) (λ vs. Ok (value.set (values_of (set_list vs)))) (only_items x ds) (λ vs. only_ok WrongType (value.set (values_of (set_list vs)))))
  only_value t (json.object ms) =
      only_with (fields_in t) (λ fs. inside (typed_members fs ms) >>= λ vs. demand WrongType (all_there fs (json.object ms)) >>= λ there. Ok (value.record_of (fields_of vs)))
      (leaf t (json.object ms)) (λ fs. only_record fs ms) (only_leaf t (json.object ms))

  only_items : (t : Cedar) (ds : Items) → Only WrongType (typed_items t ds)
  only_items t no_items = only_ok WrongType []
  only_items t (item d ds) =
      only_bind (typed_value t d) (λ v. typed_items t ds >>= λ vs. Ok (v ∷ vs)) (only_value t d) (λ v.
      only_bind (typed_items t ds) (λ vs. Ok (v ∷ vs)) (only_items t ds) (λ vs. only_ok WrongType (v ∷ vs)))

-- ---- the faults of a record

pub data IsRecordFault : EntityFault → Type 0 where
  is_undeclared : IsRecordFault Undeclared
  is_missing : IsRecordFault Missing
  is_wrong_type : IsRecordFault WrongType

is_the_one : {A : Type 0} {w : EntityFault} {r : Result A EntityFault} → IsRecordFault w → Only w r → Within IsRecordFault r
is_the_one is only f e = subst IsRecordFault (sym (only f e)) is

members_within : (fs : CedarFields) (ms : Members) → Within IsRecordFault (typed_members fs ms)
unfolding typed_value
members_within fs no_members = λ f e. absurd (never [] f e)
members_within fs (member k d ms) =
    within_bind (or_fault Undeclared (declared_at k fs)) (λ t. typed_value t d >>= λ v. typed_members fs ms >>= λ vs. Ok ((k, v) ∷ vs)) (is_the_one is_undeclared (only_or Undeclared (declared_at k fs))) (λ t.
    within_bind (typed_value t d) (λ v. typed_members fs ms >>= λ vs. Ok ((k, v) ∷ vs)) (is_the_one is_wrong_type (only_value t d)) (λ v.
    within_bind (typed_members fs ms) (λ vs. Ok ((k, v) ∷ vs)) (members_within fs ms) (λ vs f e. absurd (never ((k, v) ∷ vs) f e))))

pub record_within : (t : Cedar) (d : Data) → Within IsRecordFault (record_in t d)
unfolding record_in
record_within t d =
    within_bind (or_fault WrongType (fields_in t)) (λ fs. or_fault WrongType (as_object d) >>= λ ms. typed_members fs ms >>= λ vs. demand Missing (all_there fs d) >>= λ u. Ok vs) (is_the_one is_wrong_type (only_or WrongType (fields_in t))) (λ fs.
    within_bind (or_fault WrongType (as_object d)) (λ ms. typed_members fs ms >>= λ vs. demand Missing (all_there fs d) >>= λ u. Ok vs) (is_the_one is_wrong_type (only_or WrongType (as_object d))) (λ ms.
    within_bind (typed_members fs ms) (λ vs. demand Missing (all_there fs d) >>= λ u. Ok vs) (members_within fs ms) (λ vs.
    within_bind (demand Missing (all_there fs d)) (λ u. Ok vs) (is_the_one is_missing (only_demand Missing (all_there fs d))) (λ u f e. absurd (never vs f e)))))

-- ---- no value

module _ (names : Names) where
  none_by : (t : Cedar) (d : Data) → ((v : PlainValue) → Reads t d v → ⊥) → (r : Result PlainValue EntityFault) → typed_value t d ≡ r → r ≡ failed WrongType
  none_by t d none (Ok v) e = absurd (none v (value_is names t d v e))
  none_by t d none (Err f) e = ap failed (only_value t d f e)

  no_value : (t : Cedar) (d : Data) → ((v : PlainValue) → Reads t d v → ⊥) → typed_value t d ≡ failed WrongType
  no_value t d none = none_by t d none (typed_value t d) refl

  value_none : (t : Cedar) (d : Data) (f : EntityFault) → typed_value t d ≡ failed f → (v : PlainValue) → Reads t d v → ⊥
  value_none t d f e v h = never v f (sym (is_value names t d v h) ∙ e)

  pub values_are_read : ValuesAreRead
  values_are_read t d v = (value_is names t d v, is_value names t d v)

  pub one_value : OneValue
  one_value t d v w a b = ok_is v w (sym (is_value names t d v a) ∙ is_value names t d w b)

  pub other_json : OtherJsonIsOfWrongType
  other_json t d = (value_none t d WrongType, no_value t d)

  -- ---- members

  rest_faulty : (fs : CedarFields) (k : List ℕ) (d : Data) (ms : Members) (t : Cedar) (v : PlainValue) (f : EntityFault) → Declares fs k t → Reads t d v
      → ((g : EntityFault) → typed_members fs ms ≡ failed g → FaultyMember fs ms g)
      → (r : Result (List Field) EntityFault) → typed_members fs ms ≡ r → (r >>= λ ws. Ok ((k, v) ∷ ws)) ≡ failed f → FaultyMember fs (member k d ms) f
  rest_faulty fs k d ms t v f here h rest (Ok ws) is e = absurd (never ((k, v) ∷ ws) f e)
  rest_faulty fs k d ms t v f here h rest (Err g) is e = says.later_fault k d ms f t v here h (subst (FaultyMember fs ms) (err_is g f e) (rest g is))

  value_faulty : (fs : CedarFields) (k : List ℕ) (d : Data) (ms : Members) (t : Cedar) (f : EntityFault) → Declares fs k t
      → ((g : EntityFault) → typed_members fs ms ≡ failed g → FaultyMember fs ms g)
      → (r : Result PlainValue EntityFault) → typed_value t d ≡ r → (r >>= λ v. typed_members fs ms >>= λ ws. Ok ((k, v) ∷ ws)) ≡ failed f → FaultyMember fs (member k d ms) f
  value_faulty fs k d ms t f here rest (Ok v) is e = rest_faulty fs k d ms t v f here (value_is names t d v is) rest (typed_members fs ms) refl e
  value_faulty fs k d ms t f here rest (Err g) is e =
      subst (FaultyMember fs (member k d ms)) (sym (only_value t d g is) ∙ err_is g f e) (says.wrong_type k d ms t here (value_none t d g is))

  absent : (fs : CedarFields) (k : List ℕ) → declared_at k fs ≡ None → (t : Cedar) → Declares fs k t → ⊥
  absent fs k e t h = let is : declared_at k fs ≡ Some t = is_declared fs k t h in absurd cc

  key_faulty : (fs : CedarFields) (k : List ℕ) (d : Data) (ms : Members) (f : EntityFault)
      → ((g : EntityFault) → typed_members fs ms ≡ failed g → FaultyMember fs ms g)
      → (o : Option Cedar) → declared_at k fs ≡ o → (or_fault Undeclared o >>= λ t. typed_value t d >>= λ v. typed_members fs ms >>= λ ws. Ok ((k, v) ∷ ws)) ≡ failed f
      → FaultyMember fs (member k d ms) f
  key_faulty fs k d ms f rest (Some t) is e = value_faulty fs k d ms t f (declared_is fs k t is) rest (typed_value t d) refl e
  key_faulty fs k d ms f rest None is e = subst (FaultyMember fs (member k d ms)) (err_is Undeclared f e) (says.undeclared k d ms (absent fs k is))

  faulty_is : (fs : CedarFields) (ms : Members) (f : EntityFault) → typed_members fs ms ≡ failed f → FaultyMember fs ms f
  unfolding typed_value
  faulty_is fs no_members f e = absurd (never [] f e)
  faulty_is fs (member k d ms) f e = key_faulty fs k d ms f (faulty_is fs ms) (declared_at k fs) refl e

  undeclared_by : (fs : CedarFields) (k : List ℕ) → ((t : Cedar) → Declares fs k t → ⊥) → (o : Option Cedar) → declared_at k fs ≡ o → o ≡ None
  undeclared_by fs k none (Some t) e = absurd (none t (declared_is fs k t e))
  undeclared_by fs k none None e = refl

  undeclared_step : (fs : CedarFields) (k : List ℕ) (d : Data) (ms : Members) → declared_at k fs ≡ None → typed_members fs (member k d ms) ≡ failed Undeclared
  unfolding typed_value
  undeclared_step fs k d ms e = rw e refl

  wrong_step : (fs : CedarFields) (k : List ℕ) (d : Data) (ms : Members) (t : Cedar) → declared_at k fs ≡ Some t → typed_value t d ≡ failed WrongType
      → typed_members fs (member k d ms) ≡ failed WrongType
  unfolding typed_value
  wrong_step fs k d ms t here e = rw (here, e) refl

  later_step : (fs : CedarFields) (k : List ℕ) (d : Data) (ms : Members) (f : EntityFault) (t : Cedar) (v : PlainValue) → declared_at k fs ≡ Some t → typed_value t d ≡ done v
      → typed_members fs ms ≡ failed f → typed_members fs (member k d ms) ≡ failed f
  unfolding typed_value
  later_step fs k d ms f t v here one e = rw (here, one, e) refl

  is_faulty : (fs : CedarFields) (ms : Members) (f : EntityFault) → FaultyMember fs ms f → typed_members fs ms ≡ failed f
  is_faulty fs ms f (says.undeclared k d ns none) = undeclared_step fs k d ns (undeclared_by fs k none (declared_at k fs) refl)
  is_faulty fs ms f (says.wrong_type k d ns t here none) = wrong_step fs k d ns t (is_declared fs k t here) (no_value t d none)
  is_faulty fs ms f (says.later_fault k d ns g t v here h rest) = later_step fs k d ns g t v (is_declared fs k t here) (is_value names t d v h) (is_faulty fs ns g rest)

  -- ---- records

  missing_by : (fs : CedarFields) (ms : Members) (vs : List Field) (f : EntityFault) → ReadMembers fs ms vs → (b : Bool) → all_there fs (json.object ms) ≡ b
      → (demand Missing b >>= λ u. done vs) ≡ failed f → RefusesRecord (type.record_of fs) ms f
  missing_by fs ms vs f read true is e = absurd (never vs f e)
  missing_by fs ms vs f read false is e = subst (RefusesRecord (type.record_of fs) ms) (err_is Missing f e) (says.missing fs ms vs read (lacks fs ms is))

  record_by : (fs : CedarFields) (ms : Members) (f : EntityFault) → (r : Result (List Field) EntityFault) → typed_members fs ms ≡ r
      → (r >>= λ vs. demand Missing (all_there fs (json.object ms)) >>= λ u. done vs) ≡ failed f → RefusesRecord (type.record_of fs) ms f
  record_by fs ms f (Ok vs) is e = missing_by fs ms vs f (members_are names fs ms vs is) (all_there fs (json.object ms)) refl e
  record_by fs ms f (Err g) is e = subst (RefusesRecord (type.record_of fs) ms) (err_is g f e) (says.faulty fs ms g (faulty_is fs ms g is))

  other_type : (t : Cedar) (ms : Members) (f : EntityFault) → ((fields : CedarFields) → t ≡ type.record_of fields → ⊥) → failed {A = List Field} WrongType ≡ failed f → RefusesRecord t ms f
  other_type t ms f none e = subst (RefusesRecord t ms) (err_is WrongType f e) (says.no_record t ms none)

  refused_is : (t : Cedar) (ms : Members) (f : EntityFault) → record_in t (json.object ms) ≡ failed f → RefusesRecord t ms f
  unfolding record_in
  refused_is type.text ms f e = other_type type.text ms f (λ fs h. absurd cc) e
  refused_is type.long ms f e = other_type type.long ms f (λ fs h. absurd cc) e
  refused_is type.boolean ms f e = other_type type.boolean ms f (λ fs h. absurd cc) e
  refused_is type.decimal ms f e = other_type type.decimal ms f (λ fs h. absurd cc) e
  refused_is type.ipaddr ms f e = other_type type.ipaddr ms f (λ fs h. absurd cc) e
  refused_is (type.set t) ms f e = other_type (type.set t) ms f (λ fs h. absurd cc) e
  refused_is (type.record_of fs) ms f e = record_by fs ms f (typed_members fs ms) refl e
  refused_is (type.entity name) ms f e = other_type (type.entity name) ms f (λ fs h. absurd cc) e

  no_record_step : (t : Cedar) (ms : Members) → ((fields : CedarFields) → t ≡ type.record_of fields → ⊥) → record_in t (json.object ms) ≡ failed WrongType
  unfolding record_in
  no_record_step type.text ms none = refl
  no_record_step type.long ms none = refl
  no_record_step type.boolean ms none = refl
  no_record_step type.decimal ms none = refl
  no_record_step type.ipaddr ms none = refl
  no_record_step (type.set t) ms none = refl
  no_record_step (type.record_of fs) ms none = absurd (none fs refl)
  no_record_step (type.entity name) ms none = refl

  faulty_step : (fs : CedarFields) (ms : Members) (f : EntityFault) → typed_members fs ms ≡ failed f → record_in (type.record_of fs) (json.object ms) ≡ failed f
  unfolding record_in
  faulty_step fs ms f e = rw e refl

  missing_step : (fs : CedarFields) (ms : Members) (vs : List Field) → typed_members fs ms ≡ done vs → all_there fs (json.object ms) ≡ false → record_in (type.record_of fs) (json.object ms) ≡ failed Missing
  unfolding record_in
  missing_step fs ms vs e there = rw (e, there) refl

  read_step : (fs : CedarFields) (ms : Members) (vs : List Field) → typed_members fs ms ≡ done vs → all_there fs (json.object ms) ≡ true → record_in (type.record_of fs) (json.object ms) ≡ done vs
  unfolding record_in
  read_step fs ms vs e there = rw (e, there) refl

  is_refused : (t : Cedar) (ms : Members) (f : EntityFault) → RefusesRecord t ms f → record_in t (json.object ms) ≡ failed f
  is_refused t ms f (says.no_record u ns none) = no_record_step u ns none
  is_refused t ms f (says.faulty fs ns g h) = faulty_step fs ns g (is_faulty fs ns g h)
  is_refused t ms f (says.missing fs ns stated read lack) = missing_step fs ns stated (are_members names fs ns stated read) (is_lacking fs ns lack)

  pub records_are_refused : RecordsAreRefused
  records_are_refused t ms f = (refused_is t ms f, is_refused t ms f)

  record_is : (t : Cedar) (ms : Members) (vs : List Field) → record_in t (json.object ms) ≡ done vs → Reads t (json.object ms) (value.record_of (fields_of vs))
  unfolding record_in
  record_is type.text ms vs e = absurd (never vs WrongType (sym e))
  record_is type.long ms vs e = absurd (never vs WrongType (sym e))
  record_is type.boolean ms vs e = absurd (never vs WrongType (sym e))
  record_is type.decimal ms vs e = absurd (never vs WrongType (sym e))
  record_is type.ipaddr ms vs e = absurd (never vs WrongType (sym e))
  record_is (type.set t) ms vs e = absurd (never vs WrongType (sym e))
  record_is (type.record_of fs) ms vs e =
      let a = bind_ok (typed_members fs ms) (λ ws. demand Missing (all_there fs (json.object ms)) >>= λ u. Ok ws) vs e in
      let b = bind_ok (demand Missing (all_there fs (json.object ms))) (λ u. Ok a.0) vs a.2 in
      subst (λ (ws : List Field). Reads (type.record_of fs) (json.object ms) (value.record_of (fields_of ws))) (ok_is a.0 vs b.2)
      (says.record_of fs ms a.0 (members_are names fs ms a.0 a.1) (required_is fs ms (passes Missing (all_there fs (json.object ms)) b.0 b.1)))
  record_is (type.entity name) ms vs e = absurd (never vs WrongType (sym e))

  same_members : (ms ns : Members) → json.object ms ≡ json.object ns → ms ≡ ns
  same_members ms ns e = cc

  same_fields : (a b : PlainFields) → value.record_of a ≡ value.record_of b → a ≡ b
  same_fields a b e = cc

  same_list : (a b : List Field) → value.record_of (fields_of a) ≡ value.record_of (fields_of b) → a ≡ b
  same_list a b e = sym (pairs_of-fields_of a) ∙ ap pairs_of (same_fields (fields_of a) (fields_of b) e) ∙ pairs_of-fields_of b

  record_read : (t : Cedar) (d : Data) (v : PlainValue) (ms : Members) (vs : List Field) → d ≡ json.object ms → v ≡ value.record_of (fields_of vs) → Reads t d v
      → record_in t (json.object ms) ≡ done vs
  record_read t d v ms vs at is (says.boolean b) = absurd cc
  record_read t d v ms vs at is (says.long n z h fits) = absurd cc
  record_read t d v ms vs at is (says.text s) = absurd cc
  record_read t d v ms vs at is (says.set x ds stated kept h of) = absurd cc
  record_read t d v ms vs at is (says.record_of fs ns stated h there) =
      ap (λ (m : Members). record_in (type.record_of fs) (json.object m)) (sym (same_members ns ms at))
      ∙ read_step fs ns stated (are_members names fs ns stated h) (is_required fs ns there) ∙ ap done (same_list stated vs is)
  record_read t d v ms vs at is (says.entity name e uid h same) = absurd cc
  record_read t d v ms vs at is (says.decimal e argument z h text) = absurd cc
  record_read t d v ms vs at is (says.ipaddr e argument n h text) = absurd cc

  pub records_are_read : RecordsAreRead
  records_are_read t ms vs = (record_is t ms vs, record_read t (json.object ms) (value.record_of (fields_of vs)) ms vs refl refl)
