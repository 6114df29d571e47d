-- The search in a JSON value finds the path to the part at fault, and no other.
use Rattle.std.proofs.Common.{◌≡◌, ◌∙◌, ℕ, ◌+◌, List, [], ◌∷◌, Bool, true, false, Option, Some, None, Result, Ok, Err, refl, sym, ap, subst}
use Rattle.std.specs.Prelude.{⊤, ◌&&◌, ◌||◌, not, is_some, if◌then◌else◌}
use Rattle.serde_json.specs.Data.{Data, Items, no_items, item, Members, no_members, member}
use Rattle.serde_json.specs.Data as json
use Rattle.serde_json.specs.Find.{get, as_object}
use Rattle.json_words.specs.ReadsAs.{◌>>=◌, or_fault, demand}
use Rattle.values.specs.Values.{PlainValue, record_of, fields_of, set, values_of}
use Rattle.values.specs.Fields.{Field}
use Rattle.values.specs.Sets.{set_list}
use Rattle.schema_types.specs.Cedar as type
use Rattle.schema_types.specs.Cedar.{Cedar, CedarFields}
use Rattle.entities.specs.declared.fault.EntityFault.{EntityFault}
use Rattle.entities.specs.declared.fault.EntityFault.TheVariants.{WrongType, Undeclared, Missing}
use Rattle.entities.specs.Parts.{declared_at}
use Rattle.entities.specs.Typing.{all_there, inside, with_or, typed_value, typed_items, typed_members, record_in}
use Rattle.explanations.specs.Steps.{Step, Key, Index}
use Rattle.explanations.specs.ValuePaths.{is_set, is_record, FirstAbsent, FaultAt, ItemFaultAt, MemberFaultAt, RecordFaultAt}
use Rattle.explanations.specs.ValuePaths as says
use Rattle.explanations.specs.PathLaws.{HasPath, ValuesHavePaths, RecordsHavePaths}
use Rattle.explanations.specs.inner.FoundPaths.{or_else, under, whole_path, absent_path, value_path, item_path, member_path, record_path}

-- a path where reading fails, and none where it gives a value
abbrev pub Found : {A F : Type 0} → (List Step → Type 0) → Result A F → Option (List Step) → Type 0
Found P (Ok v) None = ⊤
Found P (Ok v) (Some p) = ⊥
Found P (Err f) None = ⊥
Found P (Err f) (Some p) = P p

pub never : {A : Type 0} (x : A) (o : Option A) → o ≡ None → o ≡ Some x → ⊥
never x o e g = absurd cc

pub no_truth : (b : Bool) → b ≡ true → b ≡ false → ⊥
no_truth b e g = absurd cc

pub and_false : (b : Bool) → (b && false) ≡ false
and_false true = refl
and_false false = refl

pub some_is : {A : Type 0} (x y : A) → Some x ≡ Some y → x ≡ y
some_is x y e = cc

pub none_where_read : {A F : Type 0} (P : List Step → Type 0) (r : Result A F) (o : Option (List Step)) (v : A) → r ≡ Ok v → Found P r o → o ≡ None
none_where_read P (Ok w) None v e h = refl
none_where_read P (Ok w) (Some p) v e h = absurd h
none_where_read P (Err f) o v e h = absurd cc

pub has_path : {A F : Type 0} (P : List Step → Type 0) (r : Result A F) (o : Option (List Step)) → Found P r o → ((p : List Step) → P p → o ≡ Some p) → HasPath r P
has_path P (Ok v) None h only = λ p fault. never p None refl (only p fault)
has_path P (Ok v) (Some p) h only = absurd h
has_path P (Err f) None h only = absurd h
has_path P (Err f) (Some p) h only = (p, h, λ q fault. sym (some_is p q (only q fault)))

-- ---- absent keys

abbrev Lacks : CedarFields → Data → Bool → Option (List Step) → Type 0
Lacks fs d true None = ⊤
Lacks fs d true (Some p) = ⊥
Lacks fs d false None = ⊥
Lacks fs d false (Some p) = (k : List ℕ) × (p ≡ Key k ∷ []) × FirstAbsent fs d k

lift : (k : List ℕ) (t : Cedar) (r : Bool) (fs : CedarFields) (d : Data) → (not r || is_some (get k d)) ≡ true
    → (there : Bool) (o : Option (List Step)) → Lacks fs d there o → Lacks (type.field k t r fs) d there o
lift k t r fs d e true None h = h
lift k t r fs d e true (Some p) h = h
lift k t r fs d e false None h = h
lift k t r fs d e false (Some p) h = (h.0, h.1, says.later_absent k t r fs d h.0 e h.2)

at_field : (k : List ℕ) (t : Cedar) (fs : CedarFields) (d : Data) (g : Option Data) → get k d ≡ g → Lacks fs d (all_there fs d) (absent_path fs d)
    → Lacks (type.field k t true fs) d (is_some g && all_there fs d) (if is_some g then absent_path fs d else Some (Key k ∷ []))
at_field k t fs d (Some x) e h = lift k t true fs d (ap is_some e) (all_there fs d) (absent_path fs d) h
at_field k t fs d None e h = (k, refl, says.first_absent k t fs d e)

absent_found : (fs : CedarFields) (d : Data) → Lacks fs d (all_there fs d) (absent_path fs d)
absent_found type.no_fields d = tt
absent_found (type.field k t false fs) d = lift k t false fs d refl (all_there fs d) (absent_path fs d) (absent_found fs d)
absent_found (type.field k t true fs) d = at_field k t fs d (get k d) refl (absent_found fs d)

absent_only : (fs : CedarFields) (d : Data) (k : List ℕ) → FirstAbsent fs d k → absent_path fs d ≡ Some (Key k ∷ [])
absent_only fs d k (says.first_absent l t gs e none) = rw none refl
absent_only fs d k (says.later_absent other t r gs e l there rest) = rw there (absent_only gs e l rest)

-- ---- values

whole_found : (t : Cedar) (d : Data) (r : Result PlainValue EntityFault) → (is_set t d || is_record t d) ≡ false → typed_value t d ≡ r → Found (FaultAt t d) r (whole_path r)
whole_found t d (Ok v) apart e = tt
whole_found t d (Err f) apart e = says.whole t d f apart e

set_found : (t : Cedar) (ds : Items) (r : Result (List PlainValue) EntityFault) (o : Option (List Step)) (make : List PlainValue → PlainValue) → Found (ItemFaultAt t 0 ds) r o
    → Found (FaultAt (type.set t) (json.array ds)) (r >>= λ vs. Ok (make vs)) o
set_found t ds (Ok vs) None make h = h
set_found t ds (Ok vs) (Some p) make h = h
set_found t ds (Err f) None make h = h
set_found t ds (Err f) (Some p) make h = says.in_set t ds p h

record_found : (fs : CedarFields) (ms : Members) (r : Result (List Field) EntityFault) (o : Option (List Step)) (there : Bool) (p : Option (List Step)) (make : List Field → PlainValue)
    → typed_members fs ms ≡ r → Found (MemberFaultAt fs ms) r o → Lacks fs (json.object ms) there p
    → Found (FaultAt (type.record_of fs) (json.object ms)) (inside r >>= λ vs. demand WrongType there >>= λ u. Ok (make vs)) (or_else o p)
record_found fs ms (Ok vs) None true None make e h l = l
record_found fs ms (Ok vs) None true (Some p) make e h l = l
record_found fs ms (Ok vs) None false None make e h l = l
record_found fs ms (Ok vs) None false (Some p) make e h l =
    subst (FaultAt (type.record_of fs) (json.object ms)) (sym l.1) (says.lacks_key fs ms vs l.0 e l.2)
record_found fs ms (Ok vs) (Some q) there p make e h l = absurd h
record_found fs ms (Err f) None there p make e h l = absurd h
record_found fs ms (Err f) (Some q) there p make e h l = says.in_record fs ms q h

item_step : (t : Cedar) (i : ℕ) (d : Data) (ds : Items) (r : Result PlainValue EntityFault) (o : Option (List Step)) (rest : Result (List PlainValue) EntityFault) (more : Option (List Step))
    → typed_value t d ≡ r → Found (FaultAt t d) r o → Found (ItemFaultAt t (i + 1) ds) rest more
    → Found (ItemFaultAt t i (item d ds)) (r >>= λ v. rest >>= λ vs. Ok (v ∷ vs)) (or_else (under (Index i) o) more)
item_step t i d ds (Ok v) None (Ok vs) None e h k = k
item_step t i d ds (Ok v) None (Ok vs) (Some p) e h k = k
item_step t i d ds (Ok v) None (Err f) None e h k = k
item_step t i d ds (Ok v) None (Err f) (Some p) e h k = says.later_item t i d ds v p e k
item_step t i d ds (Ok v) (Some p) rest more e h k = absurd h
item_step t i d ds (Err f) None rest more e h k = absurd h
item_step t i d ds (Err f) (Some p) rest more e h k = says.this_item t i d ds p h

known_step : (fs : CedarFields) (k : List ℕ) (d : Data) (ms : Members) (t : Cedar) (r : Result PlainValue EntityFault) (o : Option (List Step)) (rest : Result (List Field) EntityFault)
    (more : Option (List Step)) → declared_at k fs ≡ Some t → typed_value t d ≡ r → Found (FaultAt t d) r o → Found (MemberFaultAt fs ms) rest more
    → Found (MemberFaultAt fs (member k d ms)) (r >>= λ v. rest >>= λ vs. Ok ((k, v) ∷ vs)) (or_else (under (Key k) o) more)
known_step fs k d ms t (Ok v) None (Ok vs) None here e h l = l
known_step fs k d ms t (Ok v) None (Ok vs) (Some p) here e h l = l
known_step fs k d ms t (Ok v) None (Err f) None here e h l = l
known_step fs k d ms t (Ok v) None (Err f) (Some p) here e h l = says.later_member fs k d ms t v p here e l
known_step fs k d ms t (Ok v) (Some p) rest more here e h l = absurd h
known_step fs k d ms t (Err f) None rest more here e h l = absurd h
known_step fs k d ms t (Err f) (Some p) rest more here e h l = says.this_member fs k d ms t p here h

member_step : (fs : CedarFields) (k : List ℕ) (d : Data) (ms : Members) (o : Option Cedar) (rest : Result (List Field) EntityFault) (more : Option (List Step))
    → declared_at k fs ≡ o → ((t : Cedar) → Found (FaultAt t d) (typed_value t d) (value_path t d)) → Found (MemberFaultAt fs ms) rest more
    → Found (MemberFaultAt fs (member k d ms)) (or_fault Undeclared o >>= λ t. typed_value t d >>= λ v. rest >>= λ vs. Ok ((k, v) ∷ vs))
    (or_else (under (Key k) (with_or o (λ t. value_path t d) (Some []))) more)
member_step fs k d ms (Some t) rest more here found l = known_step fs k d ms t (typed_value t d) (value_path t d) rest more here refl (found t) l
member_step fs k d ms None rest more here found l = says.undeclared fs k d ms here

mutual
  unfolding typed_value value_path

  pub value_found : (t : Cedar) (d : Data) → Found (FaultAt t d) (typed_value t d) (value_path t d)
  value_found t json.null = whole_found t json.null (typed_value t json.null) refl refl
  value_found t (json.boolean b) = whole_found t (json.boolean b) (typed_value t (json.boolean b)) refl refl
  value_found t (json.number n) = whole_found t (json.number n) (typed_value t (json.number n)) refl refl
  value_found t (json.string s) = whole_found t (json.string s) (typed_value t (json.string s)) refl refl
  value_found (type.set t) (json.array ds) = set_found t ds (typed_items t ds) (item_path t 0 ds) (λ vs. set (values_of (set_list vs))) (items_found t 0 ds)
  value_found type.text (json.array ds) = says.whole type.text (json.array ds) WrongType refl refl
  value_found type.long (json.array ds) = says.whole type.long (json.array ds) WrongType refl refl
  value_found type.boolean (json.array ds) = says.whole type.boolean (json.array ds) WrongType refl refl
  value_found type.decimal (json.array ds) = says.whole type.decimal (json.array ds) WrongType refl refl
  value_found type.ipaddr (json.array ds) = says.whole type.ipaddr (json.array ds) WrongType refl refl
  value_found (type.record_of fs) (json.array ds) = says.whole (type.record_of fs) (json.array ds) WrongType refl refl
  value_found (type.entity name) (json.array ds) = says.whole (type.entity name) (json.array ds) WrongType refl refl
  value_found (type.record_of fs) (json.object ms) = record_found fs ms (typed_members fs ms) (member_path fs ms) (all_there fs (json.object ms)) (absent_path fs (json.object ms))
      (λ vs. record_of (fields_of vs)) refl (members_found fs ms) (absent_found fs (json.object ms))
  value_found type.text (json.object ms) = whole_found type.text (json.object ms) (typed_value type.text (json.object ms)) refl refl
  value_found type.long (json.object ms) = whole_found type.long (json.object ms) (typed_value type.long (json.object ms)) refl refl
  value_found type.boolean (json.object ms) = whole_found type.boolean (json.object ms) (typed_value type.boolean (json.object ms)) refl refl
  value_found type.decimal (json.object ms) = whole_found type.decimal (json.object ms) (typed_value type.decimal (json.object ms)) refl refl
  value_found type.ipaddr (json.object ms) = whole_found type.ipaddr (json.object ms) (typed_value type.ipaddr (json.object ms)) refl refl
  value_found (type.set t) (json.object ms) = whole_found (type.set t) (json.object ms) (typed_value (type.set t) (json.object ms)) refl refl
  value_found (type.entity name) (json.object ms) = whole_found (type.entity name) (json.object ms) (typed_value (type.entity name) (json.object ms)) refl refl

  pub items_found : (t : Cedar) (i : ℕ) (ds : Items) → Found (ItemFaultAt t i ds) (typed_items t ds) (item_path t i ds)
  items_found t i no_items = tt
  items_found t i (item d ds) = item_step t i d ds (typed_value t d) (value_path t d) (typed_items t ds) (item_path t (i + 1) ds) refl (value_found t d) (items_found t (i + 1) ds)

  pub members_found : (fs : CedarFields) (ms : Members) → Found (MemberFaultAt fs ms) (typed_members fs ms) (member_path fs ms)
  members_found fs no_members = tt
  members_found fs (member k d ms) =
      member_step fs k d ms (declared_at k fs) (typed_members fs ms) (member_path fs ms) refl (λ t. value_found t d) (members_found fs ms)

-- ---- only this path

whole_only : (t : Cedar) (d : Data) (f : EntityFault) → (is_set t d || is_record t d) ≡ false → typed_value t d ≡ Err f → value_path t d ≡ Some []
unfolding value_path
whole_only t json.null f apart e = ap whole_path e
whole_only t (json.boolean b) f apart e = ap whole_path e
whole_only t (json.number n) f apart e = ap whole_path e
whole_only t (json.string s) f apart e = ap whole_path e
whole_only (type.set t) (json.array ds) f apart e = absurd cc
whole_only type.text (json.array ds) f apart e = refl
whole_only type.long (json.array ds) f apart e = refl
whole_only type.boolean (json.array ds) f apart e = refl
whole_only type.decimal (json.array ds) f apart e = refl
whole_only type.ipaddr (json.array ds) f apart e = refl
whole_only (type.record_of fs) (json.array ds) f apart e = refl
whole_only (type.entity name) (json.array ds) f apart e = refl
whole_only (type.record_of fs) (json.object ms) f apart e = absurd cc
whole_only type.text (json.object ms) f apart e = ap whole_path e
whole_only type.long (json.object ms) f apart e = ap whole_path e
whole_only type.boolean (json.object ms) f apart e = ap whole_path e
whole_only type.decimal (json.object ms) f apart e = ap whole_path e
whole_only type.ipaddr (json.object ms) f apart e = ap whole_path e
whole_only (type.set t) (json.object ms) f apart e = ap whole_path e
whole_only (type.entity name) (json.object ms) f apart e = ap whole_path e

set_only : (t : Cedar) (ds : Items) (p : List Step) → item_path t 0 ds ≡ Some p → value_path (type.set t) (json.array ds) ≡ Some p
unfolding value_path
set_only t ds p e = e

record_only_member : (fs : CedarFields) (ms : Members) (p : List Step) → member_path fs ms ≡ Some p → value_path (type.record_of fs) (json.object ms) ≡ Some p
unfolding value_path
record_only_member fs ms p e = ap (λ (o : Option (List Step)). or_else o (absent_path fs (json.object ms))) e

record_only_absent : (fs : CedarFields) (ms : Members) (read : List Field) (k : List ℕ) → typed_members fs ms ≡ Ok read → FirstAbsent fs (json.object ms) k
    → value_path (type.record_of fs) (json.object ms) ≡ Some (Key k ∷ [])
unfolding value_path
record_only_absent fs ms read k e absent =
    ap (λ (o : Option (List Step)). or_else o (absent_path fs (json.object ms)))
    (none_where_read (MemberFaultAt fs ms) (typed_members fs ms) (member_path fs ms) read e (members_found fs ms))
    ∙ absent_only fs (json.object ms) k absent

this_item_only : (t : Cedar) (i : ℕ) (d : Data) (ds : Items) (p : List Step) → value_path t d ≡ Some p → item_path t i (item d ds) ≡ Some (Index i ∷ p)
unfolding value_path
this_item_only t i d ds p e = ap (λ (o : Option (List Step)). or_else (under (Index i) o) (item_path t (i + 1) ds)) e

later_item_only : (t : Cedar) (i : ℕ) (d : Data) (ds : Items) (v : PlainValue) (p : List Step) → typed_value t d ≡ Ok v → item_path t (i + 1) ds ≡ Some p → item_path t i (item d ds) ≡ Some p
unfolding value_path
later_item_only t i d ds v p e rest =
    ap (λ (o : Option (List Step)). or_else (under (Index i) o) (item_path t (i + 1) ds))
    (none_where_read (FaultAt t d) (typed_value t d) (value_path t d) v e (value_found t d))
    ∙ rest

undeclared_only : (fs : CedarFields) (k : List ℕ) (d : Data) (ms : Members) → declared_at k fs ≡ None → member_path fs (member k d ms) ≡ Some (Key k ∷ [])
unfolding value_path
undeclared_only fs k d ms none = ap (λ (o : Option Cedar). or_else (under (Key k) (with_or o (λ t. value_path t d) (Some []))) (member_path fs ms)) none

declared_path : (fs : CedarFields) (k : List ℕ) (d : Data) (ms : Members) (t : Cedar) → declared_at k fs ≡ Some t
    → member_path fs (member k d ms) ≡ or_else (under (Key k) (value_path t d)) (member_path fs ms)
unfolding value_path
declared_path fs k d ms t here = ap (λ (o : Option Cedar). or_else (under (Key k) (with_or o (λ t. value_path t d) (Some []))) (member_path fs ms)) here

this_member_only : (fs : CedarFields) (k : List ℕ) (d : Data) (ms : Members) (t : Cedar) (p : List Step) → declared_at k fs ≡ Some t → value_path t d ≡ Some p
    → member_path fs (member k d ms) ≡ Some (Key k ∷ p)
this_member_only fs k d ms t p here e = declared_path fs k d ms t here ∙ ap (λ (o : Option (List Step)). or_else (under (Key k) o) (member_path fs ms)) e

later_member_only : (fs : CedarFields) (k : List ℕ) (d : Data) (ms : Members) (t : Cedar) (v : PlainValue) (p : List Step) → declared_at k fs ≡ Some t → typed_value t d ≡ Ok v
    → member_path fs ms ≡ Some p → member_path fs (member k d ms) ≡ Some p
later_member_only fs k d ms t v p here e rest =
    declared_path fs k d ms t here
    ∙ ap (λ (o : Option (List Step)). or_else (under (Key k) o) (member_path fs ms)) (none_where_read (FaultAt t d) (typed_value t d) (value_path t d) v e (value_found t d))
    ∙ rest

mutual
  pub value_only : (t : Cedar) (d : Data) (p : List Step) → FaultAt t d p → value_path t d ≡ Some p
  value_only t d p (says.whole u e f apart fails) = whole_only u e f apart fails
  value_only t d p (says.in_set u ds q h) = set_only u ds q (items_only u 0 ds q h)
  value_only t d p (says.in_record fs ms q h) = record_only_member fs ms q (members_only fs ms q h)
  value_only t d p (says.lacks_key fs ms read k e absent) = record_only_absent fs ms read k e absent

  pub items_only : (t : Cedar) (i : ℕ) (ds : Items) (p : List Step) → ItemFaultAt t i ds p → item_path t i ds ≡ Some p
  items_only t i ds p (says.this_item u j d es q h) = this_item_only u j d es q (value_only u d q h)
  items_only t i ds p (says.later_item u j d es v q e h) = later_item_only u j d es v q e (items_only u (j + 1) es q h)

  pub members_only : (fs : CedarFields) (ms : Members) (p : List Step) → MemberFaultAt fs ms p → member_path fs ms ≡ Some p
  members_only fs ms p (says.undeclared gs k d ns none) = undeclared_only gs k d ns none
  members_only fs ms p (says.this_member gs k d ns t q here h) = this_member_only gs k d ns t q here (value_only t d q h)
  members_only fs ms p (says.later_member gs k d ns t v q here e h) = later_member_only gs k d ns t v q here e (members_only gs ns q h)

pub values_have_paths : ValuesHavePaths
values_have_paths t d = has_path (FaultAt t d) (typed_value t d) (value_path t d) (value_found t d) (value_only t d)

-- ---- records

fields_found : (fs : CedarFields) (ms : Members) (r : Result (List Field) EntityFault) (o : Option (List Step)) (there : Bool) (p : Option (List Step))
    → typed_members fs ms ≡ r → Found (MemberFaultAt fs ms) r o → Lacks fs (json.object ms) there p
    → Found (RecordFaultAt (type.record_of fs) (json.object ms)) (r >>= λ vs. demand Missing there >>= λ u. Ok vs) (or_else o p)
fields_found fs ms (Ok vs) None true None e h l = l
fields_found fs ms (Ok vs) None true (Some p) e h l = l
fields_found fs ms (Ok vs) None false None e h l = l
fields_found fs ms (Ok vs) None false (Some p) e h l =
    subst (RecordFaultAt (type.record_of fs) (json.object ms)) (sym l.1)
    (says.within_record (type.record_of fs) (json.object ms) (Key l.0 ∷ []) refl (says.lacks_key fs ms vs l.0 e l.2))
fields_found fs ms (Ok vs) (Some q) there p e h l = absurd h
fields_found fs ms (Err f) None there p e h l = absurd h
fields_found fs ms (Err f) (Some q) there p e h l = says.within_record (type.record_of fs) (json.object ms) q refl (says.in_record fs ms q h)

pub record_is_found : (t : Cedar) (d : Data) → Found (RecordFaultAt t d) (record_in t d) (record_path t d)
unfolding record_in record_path
record_is_found type.text d = says.no_record type.text d (and_false (is_some (as_object d)))
record_is_found type.long d = says.no_record type.long d (and_false (is_some (as_object d)))
record_is_found type.boolean d = says.no_record type.boolean d (and_false (is_some (as_object d)))
record_is_found type.decimal d = says.no_record type.decimal d (and_false (is_some (as_object d)))
record_is_found type.ipaddr d = says.no_record type.ipaddr d (and_false (is_some (as_object d)))
record_is_found (type.set t) d = says.no_record (type.set t) d (and_false (is_some (as_object d)))
record_is_found (type.entity name) d = says.no_record (type.entity name) d (and_false (is_some (as_object d)))
record_is_found (type.record_of fs) json.null = says.no_record (type.record_of fs) json.null refl
record_is_found (type.record_of fs) (json.boolean b) = says.no_record (type.record_of fs) (json.boolean b) refl
record_is_found (type.record_of fs) (json.number n) = says.no_record (type.record_of fs) (json.number n) refl
record_is_found (type.record_of fs) (json.string s) = says.no_record (type.record_of fs) (json.string s) refl
record_is_found (type.record_of fs) (json.array ds) = says.no_record (type.record_of fs) (json.array ds) refl
record_is_found (type.record_of fs) (json.object ms) = fields_found fs ms (typed_members fs ms) (member_path fs ms) (all_there fs (json.object ms)) (absent_path fs (json.object ms))
    refl (members_found fs ms) (absent_found fs (json.object ms))

no_record_only : (t : Cedar) (d : Data) → is_record t d ≡ false → record_path t d ≡ Some []
unfolding record_path
no_record_only type.text d apart = refl
no_record_only type.long d apart = refl
no_record_only type.boolean d apart = refl
no_record_only type.decimal d apart = refl
no_record_only type.ipaddr d apart = refl
no_record_only (type.set t) d apart = refl
no_record_only (type.entity name) d apart = refl
no_record_only (type.record_of fs) json.null apart = refl
no_record_only (type.record_of fs) (json.boolean b) apart = refl
no_record_only (type.record_of fs) (json.number n) apart = refl
no_record_only (type.record_of fs) (json.string s) apart = refl
no_record_only (type.record_of fs) (json.array ds) apart = refl
no_record_only (type.record_of fs) (json.object ms) apart = absurd cc

same_path : (t : Cedar) (d : Data) → is_record t d ≡ true → record_path t d ≡ value_path t d
unfolding record_path value_path
same_path type.text d is = absurd (no_truth (is_record type.text d) is (and_false (is_some (as_object d))))
same_path type.long d is = absurd (no_truth (is_record type.long d) is (and_false (is_some (as_object d))))
same_path type.boolean d is = absurd (no_truth (is_record type.boolean d) is (and_false (is_some (as_object d))))
same_path type.decimal d is = absurd (no_truth (is_record type.decimal d) is (and_false (is_some (as_object d))))
same_path type.ipaddr d is = absurd (no_truth (is_record type.ipaddr d) is (and_false (is_some (as_object d))))
same_path (type.set t) d is = absurd (no_truth (is_record (type.set t) d) is (and_false (is_some (as_object d))))
same_path (type.entity name) d is = absurd (no_truth (is_record (type.entity name) d) is (and_false (is_some (as_object d))))
same_path (type.record_of fs) json.null is = absurd cc
same_path (type.record_of fs) (json.boolean b) is = absurd cc
same_path (type.record_of fs) (json.number n) is = absurd cc
same_path (type.record_of fs) (json.string s) is = absurd cc
same_path (type.record_of fs) (json.array ds) is = absurd cc
same_path (type.record_of fs) (json.object ms) is = refl

pub record_path_only : (t : Cedar) (d : Data) (p : List Step) → RecordFaultAt t d p → record_path t d ≡ Some p
record_path_only t d p (says.no_record u e apart) = no_record_only u e apart
record_path_only t d p (says.within_record u e q is h) = same_path u e is ∙ value_only u e q h

pub records_have_paths : RecordsHavePaths
records_have_paths t d = has_path (RecordFaultAt t d) (record_in t d) (record_path t d) (record_is_found t d) (record_path_only t d)
