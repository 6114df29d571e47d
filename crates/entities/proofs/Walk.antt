-- Reading the rest of a list, behind what was read before.
use Rattle.std.proofs.Common.{◌≡◌, ◌∙◌, ℕ, ◌+◌, ◌<◌, ◌≤◌, drop, get_or, length, Some, None, String, Global, string_bytes, string_cmp, List, [], ◌∷◌, ◌++◌, Result, Ok, Err, Less, Greater, refl, sym, ap, append_assoc}
use Rattle.std.specs.Prelude.{⊤}
use Rattle.std.specs.List.{AllByRecursion}
use Rattle.std.specs.List.Sorted.{IsStrictlySortedBy}
use Rattle.std.specs.Map.{keys_of}
use Rattle.std.specs.Ordering.{ordering_reverse}
use Rattle.std.proofs.lemmas.List.{drop_more, drop_all, append-nil}
use Rattle.serde_json.specs.View.{view, items_view, members_view}
use Rattle.serde_json.specs.declared.value.Value.{Value}
use Rattle.json_words.specs.ReadsAs.{◌>>=◌, Fails}
use Rattle.values.specs.Values.{PlainValue}
use Rattle.values.specs.Fields.{Field, put}
use Rattle.values.specs.Uids.{text_cmp, text_cmp-IsTotalOrder}
use Rattle.entities.specs.declared.fault.EntityFault.{EntityFault}
use Rattle.entities.specs.declared.fault.EntityFault.TheVariants.{NoMemory, BadShape, UnknownType, ActionEntity, Undeclared}
use Rattle.entities.specs.declared.fault.EntityFault.TheVariants.{Missing, WrongType, BadParent, SelfParent, TagsLeftOut, NotApplicable}
use Rattle.schema_types.specs.Cedar.{Cedar, CedarFields}
use Rattle.entities.specs.Parts.{declared_at}
use Rattle.entities.specs.Typing.{inside, typed_value, typed_items, typed_members}
use Rattle.entities.specs.inner.InnerErrors.{inside_fault}

abbrev pub with_front : {A F : Type 0} → List A → Result (List A) F → Result (List A) F
with_front front read = read >>= λ xs. Ok (front ++ xs)

regroup : {A F : Type 0} (front : List A) (x : A) (read : Result (List A) F) → with_front front (read >>= λ xs. Ok (x ∷ xs)) ≡ with_front (front ++ x ∷ []) read
regroup {A = A} front x (Ok xs) = ap (λ (l : List A). Ok l) (simp append_assoc)
regroup front x (Err f) = refl

-- one more was read
goes_on : {A F : Type 0} (front : List A) (x : A) (first : Result A F) (rest total : Result (List A) F) → first ≡ Ok x
    → total ≡ with_front front (first >>= λ y. rest >>= λ ys. Ok (y ∷ ys)) → total ≡ with_front (front ++ x ∷ []) rest
goes_on front x first rest total one so_far = so_far ∙ rw one (regroup front x rest)

-- the next is refused
ends : {A F : Type 0} (front : List A) (first : Result A F) (rest total : Result (List A) F) (memory e : F) → Fails memory e first
    → total ≡ with_front front (first >>= λ y. rest >>= λ ys. Ok (y ∷ ys)) → Fails memory e total
ends front first rest total memory e one so_far = λ other. so_far ∙ rw (one other) refl

cut : (vs : List Value) (i : ℕ) (v : Value) → i < length vs → v ≡ get_or vs i v → drop i vs ≡ v ∷ drop (i + 1) vs
cut vs i v lt at = drop_more vs i v lt ∙ ap (λ (w : Value). w ∷ drop (i + 1) vs) (sym at)

pub item_goes : (t : Cedar) (vs : List Value) (i : ℕ) (v : Value) (front : List PlainValue) (y : PlainValue) (total : Result (List PlainValue) EntityFault) → i < length vs → v ≡ get_or vs i v → typed_value t (view v) ≡ Ok y
    → total ≡ with_front front (typed_items t (items_view (drop i vs))) → total ≡ with_front (front ++ y ∷ []) (typed_items t (items_view (drop (i + 1) vs)))
unfolding typed_value
item_goes t vs i v front y total lt at one so_far =
    goes_on front y (typed_value t (view v)) (typed_items t (items_view (drop (i + 1) vs))) total one (so_far ∙ ap (λ (l : List Value). with_front front (typed_items t (items_view l))) (cut vs i v lt at))

pub item_ends : (t : Cedar) (vs : List Value) (i : ℕ) (v : Value) (front : List PlainValue) (total : Result (List PlainValue) EntityFault) (e : EntityFault) → i < length vs → v ≡ get_or vs i v → Fails NoMemory e (typed_value t (view v))
    → total ≡ with_front front (typed_items t (items_view (drop i vs))) → Fails NoMemory e total
unfolding typed_value
item_ends t vs i v front total e lt at one so_far =
    ends front (typed_value t (view v)) (typed_items t (items_view (drop (i + 1) vs))) total NoMemory e one (so_far ∙ ap (λ (l : List Value). with_front front (typed_items t (items_view l))) (cut vs i v lt at))

pub items_done : (t : Cedar) (vs : List Value) (n : ℕ) (front : List PlainValue) (total : Result (List PlainValue) EntityFault) → length vs ≤ n
    → total ≡ with_front front (typed_items t (items_view (drop n vs))) → total ≡ Ok front
unfolding typed_value
items_done t vs n front total le so_far =
    so_far ∙ ap (λ (l : List Value). with_front front (typed_items t (items_view l))) (drop_all n vs le) ∙ ap (λ (l : List PlainValue). Ok l) (append-nil front)

-- ---- members

abbrev pub Entry : Type 0
Entry = String Global × Value

-- each key is below k
abbrev AreBelow : List Field → List ℕ → Type 0
AreBelow [] k = ⊤
AreBelow (f ∷ fs) k = (text_cmp f.0 k ≡ Less) × AreBelow fs k

-- each key of the fields is below each key of the entries
abbrev Behind : List Field → List Entry → Type 0
Behind fs [] = ⊤
Behind fs (e ∷ es) = AreBelow fs (string_bytes e.0) × Behind fs es

-- the fields come before the entries, whose keys ascend
abbrev pub Ordered : List Field → List Entry → Type 0
Ordered fs es = IsStrictlySortedBy string_cmp (keys_of es) × Behind fs es

none_behind : (es : List Entry) → Behind [] es
none_behind [] = tt
none_behind (e ∷ es) = (tt, none_behind es)

pub ordered_first : (es : List Entry) → IsStrictlySortedBy string_cmp (keys_of es) → Ordered [] es
ordered_first es h = (h, none_behind es)

put_last : (fs : List Field) (k : List ℕ) (v : PlainValue) → AreBelow fs k → put k v fs ≡ fs ++ (k, v) ∷ []
put_last [] k v h = refl
put_last (f ∷ fs) k v h =
    let above : text_cmp k f.0 ≡ Greater = text_cmp-IsTotalOrder.antisymm k f.0 ∙ ap ordering_reverse h.0 in
    rw above (ap (λ (l : List Field). f ∷ l) (put_last fs k v h.1))

below_push : (fs : List Field) (k l : List ℕ) (v : PlainValue) → AreBelow fs l → text_cmp k l ≡ Less → AreBelow (fs ++ (k, v) ∷ []) l
below_push [] k l v h lt = (lt, tt)
below_push (f ∷ fs) k l v h lt = (h.0, below_push fs k l v h.1 lt)

behind_push : (fs : List Field) (k : String Global) (v : PlainValue) (es : List Entry) → Behind fs es → AllByRecursion (λ y. string_cmp k y ≡ Less) (keys_of es) → Behind (fs ++ (string_bytes k, v) ∷ []) es
behind_push fs k v [] h a = tt
behind_push fs k v (e ∷ es) h a = (below_push fs (string_bytes k) (string_bytes e.0) v h.0 a.0, behind_push fs k v es h.1 a.1)

-- putting the next one puts it last,
pub next_put : (fs : List Field) (e : Entry) (left : List Entry) (v : PlainValue) → Ordered fs (e ∷ left) → put (string_bytes e.0) v fs ≡ fs ++ (string_bytes e.0, v) ∷ []
next_put fs e left v h = put_last fs (string_bytes e.0) v h.1.0

-- and the rest comes behind it
pub next_ordered : (fs : List Field) (e : Entry) (left : List Entry) (v : PlainValue) → Ordered fs (e ∷ left) → Ordered (fs ++ (string_bytes e.0, v) ∷ []) left
unfolding IsStrictlySortedBy
next_ordered fs e left v h = (h.0.1, behind_push fs e.0 v left h.1.1 h.0.0)

pub member_goes : (fs : CedarFields) (e : Entry) (left : List Entry) (t : Cedar) (front : List Field) (y : PlainValue) (total : Result (List Field) EntityFault)
    → Some t ≡ declared_at (string_bytes e.0) fs → typed_value t (view e.1) ≡ Ok y
    → total ≡ with_front front (typed_members fs (members_view (e ∷ left))) → total ≡ with_front (front ++ (string_bytes e.0, y) ∷ []) (typed_members fs (members_view left))
unfolding typed_value
member_goes fs e left t front y total here one so_far =
    goes_on front (string_bytes e.0, y) (Ok (string_bytes e.0, y)) (typed_members fs (members_view left)) total refl (so_far ∙ rw (← here, one) refl)

pub member_ends : (fs : CedarFields) (e : Entry) (left : List Entry) (t : Cedar) (front : List Field) (total : Result (List Field) EntityFault) (f : EntityFault)
    → Some t ≡ declared_at (string_bytes e.0) fs → Fails NoMemory f (typed_value t (view e.1))
    → total ≡ with_front front (typed_members fs (members_view (e ∷ left))) → Fails NoMemory f total
unfolding typed_value
member_ends fs e left t front total f here one so_far = λ other. so_far ∙ rw (← here, one other) refl

pub member_unknown : (fs : CedarFields) (e : Entry) (left : List Entry) (front : List Field) (total : Result (List Field) EntityFault)
    → None ≡ declared_at (string_bytes e.0) fs → total ≡ with_front front (typed_members fs (members_view (e ∷ left))) → total ≡ Err Undeclared
unfolding typed_value
member_unknown fs e left front total here so_far = so_far ∙ rw (← here) refl

pub members_done : (fs : CedarFields) (front : List Field) (total : Result (List Field) EntityFault) → total ≡ with_front front (typed_members fs (members_view [])) → total ≡ Ok front
unfolding typed_value
members_done fs front total so_far = so_far ∙ ap (λ (l : List Field). Ok l) (append-nil front)

pub front_none : {A F : Type 0} (read : Result (List A) F) → read ≡ with_front [] read
front_none (Ok xs) = refl
front_none (Err e) = refl

-- what a record has once the next field was set
pub pushed : (fs gs : List Field) (e : Entry) (left : List Entry) (k : List ℕ) (v : PlainValue) → gs ≡ put k v fs → k ≡ string_bytes e.0 → Ordered fs (e ∷ left) → gs ≡ fs ++ (string_bytes e.0, v) ∷ []
pushed fs gs e left k v set named h = set ∙ ap (λ (l : List ℕ). put l v fs) named ∙ next_put fs e left v h

-- a fault inside, which is told of the whole
pub inside_fails : {A B : Type 0} (read : Result A EntityFault) (f : A → Result B EntityFault) (e : EntityFault) → Fails NoMemory e read → Fails NoMemory (inside_fault e) (inside read >>= f)
inside_fails read f NoMemory fails = λ other. absurd (other refl)
inside_fails read f BadShape fails = λ other. let here : read ≡ Err BadShape = fails (λ same. absurd cc) in rw here refl
inside_fails read f UnknownType fails = λ other. let here : read ≡ Err UnknownType = fails (λ same. absurd cc) in rw here refl
inside_fails read f ActionEntity fails = λ other. let here : read ≡ Err ActionEntity = fails (λ same. absurd cc) in rw here refl
inside_fails read f Undeclared fails = λ other. let here : read ≡ Err Undeclared = fails (λ same. absurd cc) in rw here refl
inside_fails read f Missing fails = λ other. let here : read ≡ Err Missing = fails (λ same. absurd cc) in rw here refl
inside_fails read f WrongType fails = λ other. let here : read ≡ Err WrongType = fails (λ same. absurd cc) in rw here refl
inside_fails read f BadParent fails = λ other. let here : read ≡ Err BadParent = fails (λ same. absurd cc) in rw here refl
inside_fails read f SelfParent fails = λ other. let here : read ≡ Err SelfParent = fails (λ same. absurd cc) in rw here refl
inside_fails read f TagsLeftOut fails = λ other. let here : read ≡ Err TagsLeftOut = fails (λ same. absurd cc) in rw here refl
inside_fails read f NotApplicable fails = λ other. let here : read ≡ Err NotApplicable = fails (λ same. absurd cc) in rw here refl
