-- Where the keys of a schema's types ascend, those of each expression's type do.
use Rattle.std.specs.Prelude.{◌≡◌, ℕ, List, [], ◌∷◌, Bool, true, false, ◌&&◌, Option, Some, None, Ok, Err}
use Rattle.std.specs.Prelude.{if◌then◌else◌, refl}
use Rattle.std.proofs.Common.{ap, ◌∙◌, subst}
use Rattle.std.specs.Option.{option_map, option_and_then}
use Rattle.std.specs.Ordering.{match_ordering, ordering_reverse}
use Rattle.std.specs.Str.{bytes_eq}
use Rattle.std.specs.declared.cmp.Ordering.{Ordering}
use Rattle.std.specs.declared.cmp.Ordering.TheVariants as order
use Rattle.values.specs.Uids.{text_cmp, text_cmp-IsTotalOrder}
use Rattle.grammar_core.specs.declared.leaf.Literal.{Literal}
use Rattle.grammar_core.specs.declared.leaf.Literal.TheVariants as literal
use Rattle.grammar_core.specs.declared.leaf.Variable.{Variable}
use Rattle.grammar_core.specs.declared.leaf.Variable.TheVariants as variable
use Rattle.grammar_core.specs.declared.operator.Unary.{Unary}
use Rattle.grammar_core.specs.declared.operator.Unary.TheVariants as unary
use Rattle.grammar_core.specs.declared.operator.Binary.{Binary}
use Rattle.grammar_core.specs.declared.operator.Binary.TheVariants as binary
use Rattle.grammar_core.specs.declared.operator.UnaryCall.{UnaryCall}
use Rattle.grammar_core.specs.declared.operator.BinaryCall.{BinaryCall}
use Rattle.grammar_core.specs.declared.operator.BinaryCall.TheVariants as call
use Rattle.grammar_core.specs.declared.expr.Expr.{Expr}
use Rattle.typing.specs.Types
use Rattle.typing.specs.Types.{StaticType, FieldTypes, Declared, IsBoolean, common, common_fields, common_of}
use Rattle.typing.specs.Types.{declared_as, field_declared_at, put_required, put_each, field_before, same_requirement}
use Rattle.typing.specs.Types.{truth_type}
use Rattle.typing.specs.Environment.{Environment}
use Rattle.typing.specs.Gained.{CapabilityList}
use Rattle.typing.specs.Literals
use Rattle.typing.specs.Literals.{ReadsLiteral}
use Rattle.typing.specs.Rows
use Rattle.typing.specs.Rows.{Row}
use Rattle.typing.specs.Typing
use Rattle.typing.specs.Typing.{Types, TypesEach}
use Rattle.typing.specs.Ordered.{IsBefore, IsOrdered, AreOrdered, HasOrderedTypes}
use Rattle.typing.specs.Laws.{TypesAreOrdered}

-- ---- fields that are put

before_put : (j k : List ℕ) (t : StaticType) (ts : FieldTypes) → IsBefore j ts → text_cmp j k ≡ order.Less → IsBefore j (put_required k t ts)
before_put j k t Types.no_field_types h e = e
before_put j k t (Types.field_type l s r ts) h e = by_order (text_cmp k l)
  where
    by_order : (o : Ordering) → IsBefore j (match_ordering o (Types.field_type k t true (Types.field_type l s r ts)) (Types.field_type l t true ts) (Types.field_type l s r (put_required k t ts)))
    by_order order.Less = e
    by_order order.Equal = h
    by_order order.Greater = h

put_ordered : (k : List ℕ) (t : StaticType) (ts : FieldTypes) → IsOrdered t → AreOrdered ts → AreOrdered (put_required k t ts)
put_ordered k t Types.no_field_types h g = (h, tt, tt)
put_ordered k t (Types.field_type l s r ts) h g = by_order (text_cmp k l) refl (put_ordered k t ts h g.2)
  where
    by_order : (o : Ordering) → text_cmp k l ≡ o → AreOrdered (put_required k t ts)
        → AreOrdered (match_ordering o (Types.field_type k t true (Types.field_type l s r ts)) (Types.field_type l t true ts) (Types.field_type l s r (put_required k t ts)))
    by_order order.Less e p = (h, e, g)
    by_order order.Equal e p = (h, g.1, g.2)
    by_order order.Greater e p = (g.0, before_put l k t ts g.1 (text_cmp-IsTotalOrder.antisymm l k ∙ ap ordering_reverse e), p)

EachOrdered : List StaticType → Type 0
EachOrdered [] = Unit {0}
EachOrdered (t ∷ ts) = IsOrdered t × EachOrdered ts

put_each_ordered : (ks : List (List ℕ)) (ts : List StaticType) (us : FieldTypes) → EachOrdered ts → AreOrdered us → AreOrdered (put_each ks ts us)
unfolding EachOrdered
put_each_ordered (k ∷ ks) (t ∷ ts) us h g = put_each_ordered ks ts (put_required k t us) h.1 (put_ordered k t us h.0 g)
put_each_ordered (k ∷ ks) [] us h g = g
put_each_ordered [] ts us h g = g

-- ---- common types

OrNone : Option StaticType → Type 0
OrNone None = Unit {0}
OrNone (Some t) = IsOrdered t

FieldsOrNone : FieldTypes → Option FieldTypes → Type 0
FieldsOrNone ss None = Unit {0}
FieldsOrNone ss (Some ts) = AreOrdered ts × ((j : List ℕ) → IsBefore j ss → IsBefore j ts)

set_case : (o : Option StaticType) → OrNone o → OrNone (option_map Types.set_type o)
unfolding OrNone
set_case None h = tt
set_case (Some t) h = h

record_case : (ss : FieldTypes) (o : Option FieldTypes) → FieldsOrNone ss o → OrNone (option_map Types.record_type o)
unfolding OrNone FieldsOrNone
record_case ss None h = tt
record_case ss (Some ts) h = h.0

entity_case : (n : List ℕ) (b : Bool) → OrNone (if b then Some (Types.entity_type n) else None)
unfolding OrNone
entity_case n true = tt
entity_case n false = tt

before_case : (k : List ℕ) (r : Bool) (s : StaticType) (ss : FieldTypes) (o : Option StaticType) (p : Option FieldTypes) → OrNone o → FieldsOrNone ss p → IsBefore k ss
    → FieldsOrNone (Types.field_type k s r ss) (field_before k r o p)
unfolding OrNone FieldsOrNone
before_case k r s ss (Some t) (Some ts) h g b = ((h, g.1 k b, g.0), λ j c. c)
before_case k r s ss (Some t) None h g b = tt
before_case k r s ss None p h g b = tt

fields_case : (b : Bool) (ss : FieldTypes) (p : Option FieldTypes) → FieldsOrNone ss p → FieldsOrNone ss (if b then p else None)
unfolding FieldsOrNone
fields_case true ss p h = h
fields_case false ss p h = tt

mutual
  unfolding OrNone FieldsOrNone

  common_ordered : (s t : StaticType) → IsOrdered s → OrNone (common s t)
  common_ordered Types.true_type Types.true_type h = tt
  common_ordered Types.true_type Types.false_type h = tt
  common_ordered Types.true_type Types.boolean_type h = tt
  common_ordered Types.false_type Types.true_type h = tt
  common_ordered Types.false_type Types.false_type h = tt
  common_ordered Types.false_type Types.boolean_type h = tt
  common_ordered Types.boolean_type Types.true_type h = tt
  common_ordered Types.boolean_type Types.false_type h = tt
  common_ordered Types.boolean_type Types.boolean_type h = tt
  common_ordered Types.long_type Types.long_type h = tt
  common_ordered Types.text_type Types.text_type h = tt
  common_ordered (Types.entity_type m) (Types.entity_type n) h = entity_case m (bytes_eq m n)
  common_ordered (Types.set_type s) (Types.set_type t) h = set_case (common s t) (common_ordered s t h)
  common_ordered (Types.record_type ss) (Types.record_type ts) h = record_case ss (common_fields ss ts) (fields_ordered ss ts h)
  common_ordered Types.decimal_type Types.decimal_type h = tt
  common_ordered Types.ipaddr_type Types.ipaddr_type h = tt
  common_ordered s t h = tt

  fields_ordered : (ss ts : FieldTypes) → AreOrdered ss → FieldsOrNone ss (common_fields ss ts)
  fields_ordered Types.no_field_types Types.no_field_types h = (tt, λ j b. b)
  fields_ordered (Types.field_type k s r ss) (Types.field_type l t q ts) h =
      fields_case (bytes_eq k l && same_requirement r q) (Types.field_type k s r ss) (field_before k r (common s t) (common_fields ss ts))
      (before_case k r s ss (common s t) (common_fields ss ts) (common_ordered s t h.0) (fields_ordered ss ts h.2) h.1)
  fields_ordered ss ts h = tt

next_ordered : (o : Option StaticType) (ss : List StaticType) → OrNone o → ((u : StaticType) → IsOrdered u → OrNone (common_of u ss))
    → OrNone (option_and_then (λ u. common_of u ss) o)
unfolding OrNone
next_ordered None ss h f = tt
next_ordered (Some u) ss h f = f u h

common_of_ordered : (t : StaticType) (ss : List StaticType) → IsOrdered t → OrNone (common_of t ss)
unfolding OrNone
common_of_ordered t [] h = h
common_of_ordered t (s ∷ ss) h = next_ordered (common t s) ss (common_ordered t s h) (λ u i. common_of_ordered u ss i)

-- ---- rows

RowOrdered : Row → Type 0
RowOrdered (Ok t) = IsOrdered t
RowOrdered (Err n) = Unit {0}

row_of : (row : Row) (t : StaticType) → RowOrdered row → row ≡ Ok t → IsOrdered t
unfolding RowOrdered
row_of row t h e = subst RowOrdered e h

truth_ordered : (b : Bool) → IsOrdered (truth_type b)
truth_ordered true = tt
truth_ordered false = tt

boolean_ordered : {t : StaticType} → IsBoolean t → IsOrdered t
boolean_ordered Types.is_true = tt
boolean_ordered Types.is_false = tt
boolean_ordered Types.is_either = tt

either_ordered : (b : Bool) (s t : StaticType) → IsOrdered s → IsOrdered t → IsOrdered (if b then s else t)
either_ordered true s t h g = h
either_ordered false s t h g = g

unary_ordered : (op : Unary) (s : StaticType) → RowOrdered (Rows.unary_type op s)
unfolding RowOrdered
unary_ordered unary.Not Types.true_type = tt
unary_ordered unary.Not Types.false_type = tt
unary_ordered unary.Not Types.boolean_type = tt
unary_ordered unary.Negate Types.long_type = tt
unary_ordered (unary.Like p) Types.text_type = tt
unary_ordered (unary.Is n) (Types.entity_type m) = truth_ordered (bytes_eq m n)
unary_ordered op s = tt

if_common_ordered : (o : Option StaticType) → RowOrdered (Rows.if_common o)
unfolding RowOrdered
if_common_ordered None = tt
if_common_ordered (Some t) = tt

equal_ordered : (s t : StaticType) → RowOrdered (Rows.equal_type s t)
unfolding RowOrdered
equal_ordered (Types.entity_type m) (Types.entity_type n) = either_ordered (bytes_eq m n) Types.boolean_type Types.false_type tt tt
equal_ordered s t = if_common_ordered (common s t)

numbers_ordered : (u s t : StaticType) → IsOrdered u → RowOrdered (Rows.of_numbers u s t)
unfolding RowOrdered
numbers_ordered u Types.long_type Types.long_type h = h
numbers_ordered u s t h = tt

binary_ordered : (env : Environment) (op : Binary) (s t : StaticType) → RowOrdered (Rows.binary_type env op s t)
unfolding RowOrdered
binary_ordered env binary.Equal s t = equal_ordered s t
binary_ordered env binary.In (Types.entity_type m) (Types.entity_type n) = either_ordered (Rows.may_be_in env m n) Types.boolean_type Types.false_type tt tt
binary_ordered env binary.In (Types.entity_type m) (Types.set_type (Types.entity_type n)) = either_ordered (Rows.may_be_in env m n) Types.boolean_type Types.false_type tt tt
binary_ordered env binary.Less s t = numbers_ordered Types.boolean_type s t tt
binary_ordered env binary.LessOrEqual s t = numbers_ordered Types.boolean_type s t tt
binary_ordered env binary.Add s t = numbers_ordered Types.long_type s t tt
binary_ordered env binary.Subtract s t = numbers_ordered Types.long_type s t tt
binary_ordered env binary.Multiply s t = numbers_ordered Types.long_type s t tt
binary_ordered env binary.Contains (Types.set_type s) t = if_common_ordered (common s t)
binary_ordered env binary.ContainsAll (Types.set_type s) (Types.set_type t) = if_common_ordered (common s t)
binary_ordered env binary.ContainsAny (Types.set_type s) (Types.set_type t) = if_common_ordered (common s t)
binary_ordered env op s t = tt

DeclaredOrdered : Declared → Type 0
DeclaredOrdered Types.undeclared = Unit {0}
DeclaredOrdered (Types.optional t) = IsOrdered t
DeclaredOrdered (Types.required t) = IsOrdered t

first_declared : (b r : Bool) (t : StaticType) (d : Declared) → IsOrdered t → DeclaredOrdered d → DeclaredOrdered (if b then declared_as r t else d)
unfolding DeclaredOrdered
first_declared true true t d h g = h
first_declared true false t d h g = h
first_declared false r t d h g = g

declared_ordered : (k : List ℕ) (ts : FieldTypes) → AreOrdered ts → DeclaredOrdered (field_declared_at k ts)
unfolding DeclaredOrdered
declared_ordered k Types.no_field_types h = tt
declared_ordered k (Types.field_type l t r ts) h = first_declared (bytes_eq k l) r t (field_declared_at k ts) h.0 (declared_ordered k ts h.2)

access_ordered : (b : Bool) (d : Declared) → DeclaredOrdered d → RowOrdered (Rows.access_type b d)
unfolding DeclaredOrdered RowOrdered
access_ordered b Types.undeclared h = tt
access_ordered b (Types.required t) h = h
access_ordered true (Types.optional t) h = h
access_ordered false (Types.optional t) h = tt

field_ordered : (env : Environment) → HasOrderedTypes env → (b : Bool) (k : List ℕ) (s : StaticType) → IsOrdered s → RowOrdered (Rows.field_type_of env b k s)
unfolding RowOrdered
field_ordered env o b k (Types.record_type ts) h = access_ordered b (field_declared_at k ts) (declared_ordered k ts h)
field_ordered env o b k (Types.entity_type n) h = access_ordered b (field_declared_at k (env.attributes n)) (declared_ordered k (env.attributes n) (o.attributes n))
field_ordered env o b k s h = tt

record_has_ordered : (d : Declared) → IsOrdered (Rows.record_has d)
record_has_ordered Types.undeclared = tt
record_has_ordered (Types.required t) = tt
record_has_ordered (Types.optional t) = tt

entity_has_ordered : (d : Declared) → IsOrdered (Rows.entity_has d)
entity_has_ordered Types.undeclared = tt
entity_has_ordered (Types.required t) = tt
entity_has_ordered (Types.optional t) = tt

has_ordered : (env : Environment) (b : Bool) (k : List ℕ) (s : StaticType) → RowOrdered (Rows.has_type env b k s)
unfolding RowOrdered
has_ordered env b k (Types.record_type ts) = either_ordered b Types.true_type _ tt (record_has_ordered (field_declared_at k ts))
has_ordered env b k (Types.entity_type n) = either_ordered b Types.true_type _ tt (entity_has_ordered (field_declared_at k (env.attributes n)))
has_ordered env b k s = tt

set_of_ordered : (o : Option StaticType) → OrNone o → RowOrdered (Rows.set_of_common o)
unfolding OrNone RowOrdered
set_of_ordered None h = tt
set_of_ordered (Some t) h = h

set_ordered : (ts : List StaticType) → EachOrdered ts → RowOrdered (Rows.set_literal_type ts)
unfolding EachOrdered RowOrdered
set_ordered [] h = tt
set_ordered (t ∷ ts) h = set_of_ordered (common_of t ts) (common_of_ordered t ts h.0)

address_ordered : (s : StaticType) → RowOrdered (Rows.address_test_type s)
unfolding RowOrdered
address_ordered Types.ipaddr_type = tt
address_ordered s = tt

decimals_ordered : (s t : StaticType) → RowOrdered (Rows.of_decimals s t)
unfolding RowOrdered
decimals_ordered Types.decimal_type Types.decimal_type = tt
decimals_ordered s t = tt

addresses_ordered : (s t : StaticType) → RowOrdered (Rows.of_addresses s t)
unfolding RowOrdered
addresses_ordered Types.ipaddr_type Types.ipaddr_type = tt
addresses_ordered s t = tt

call_ordered : (called : BinaryCall) (s t : StaticType) → RowOrdered (Rows.call_type called s t)
unfolding RowOrdered
call_ordered call.LessThan s t = decimals_ordered s t
call_ordered call.LessThanOrEqual s t = decimals_ordered s t
call_ordered call.GreaterThan s t = decimals_ordered s t
call_ordered call.GreaterThanOrEqual s t = decimals_ordered s t
call_ordered call.IsInRange s t = addresses_ordered s t

and_ordered : {s t : StaticType} → Rows.MayBeTrue s → IsBoolean t → IsOrdered (Rows.and_type s t)
and_ordered Rows.surely Types.is_true = tt
and_ordered Rows.surely Types.is_false = tt
and_ordered Rows.surely Types.is_either = tt
and_ordered Rows.perhaps Types.is_true = tt
and_ordered Rows.perhaps Types.is_false = tt
and_ordered Rows.perhaps Types.is_either = tt

or_ordered : {t : StaticType} → IsBoolean t → IsOrdered (Rows.or_type t)
or_ordered Types.is_true = tt
or_ordered Types.is_false = tt
or_ordered Types.is_either = tt

literal_ordered : (l : Literal) → IsOrdered (Rows.literal_type l)
literal_ordered (literal.Boolean b) = truth_ordered b
literal_ordered (literal.Long z) = tt
literal_ordered (literal.Text t) = tt
literal_ordered (literal.Entity u) = tt

reading_ordered : {called : UnaryCall} {x : Expr} {t : StaticType} → ReadsLiteral called x t → IsOrdered t
reading_ordered (Literals.reads_decimal h) = tt
reading_ordered (Literals.reads_address h) = tt

common_type : (s t u : StaticType) → IsOrdered s → common s t ≡ Some u → IsOrdered u
unfolding OrNone
common_type s t u h e = subst OrNone e (common_ordered s t h)

module _ (env : Environment) (o : HasOrderedTypes env) where
  variable_ordered : (x : Variable) → IsOrdered (Rows.variable_type env x)
  variable_ordered variable.Principal = tt
  variable_ordered variable.Action = tt
  variable_ordered variable.Resource = tt
  variable_ordered variable.Context = o.context

  mutual
    unfolding EachOrdered

    ordered : {K L : CapabilityList} {x : Expr} {t : StaticType} → Types env K x t L → IsOrdered t
    ordered (Typing.types_literal l) = literal_ordered l
    ordered (Typing.types_variable x) = variable_ordered x
    ordered (Typing.types_unary op a {s} {t} h e) = row_of (Rows.unary_type op s) t (unary_ordered op s) e
    ordered (Typing.and_of_false a b h) = tt
    ordered (Typing.and_of_both a b h p g i) = and_ordered p i
    ordered (Typing.or_of_true a b h) = tt
    ordered (Typing.or_of_false a b h g i) = ordered g
    ordered (Typing.or_of_both a b h g i l) = or_ordered i
    ordered (Typing.if_of_true a b c h g) = ordered g
    ordered (Typing.if_of_false a b c h g) = ordered g
    ordered (Typing.if_of_both a b c {s} {t} {u} h g i e l) = common_type s t u (ordered g) e
    ordered (Typing.types_decided op a b {r} h) = truth_ordered r
    ordered (Typing.types_binary op a b {s} {t} {u} n h g e) = row_of (Rows.binary_type env op s t) u (binary_ordered env op s t) e
    ordered (Typing.types_field a k {is_known} {s} {t} h d e) = row_of (Rows.field_type_of env is_known k s) t (field_ordered env o is_known k s (ordered h)) e
    ordered (Typing.types_has a k {is_known} {s} {t} h d e) = row_of (Rows.has_type env is_known k s) t (has_ordered env is_known k s) e
    ordered (Typing.types_set xs {ts} {t} h e) = row_of (Rows.set_literal_type ts) t (set_ordered ts (each_ordered h)) e
    ordered (Typing.types_record xs {ts} h) = put_each_ordered _ ts Types.no_field_types (each_ordered h) tt
    ordered (Typing.types_literal_call called a h g) = reading_ordered g
    ordered (Typing.types_address_test called a {s} {t} i h e) = row_of (Rows.address_test_type s) t (address_ordered s) e
    ordered (Typing.types_call called a b {s} {t} {u} h g e) = row_of (Rows.call_type called s t) u (call_ordered called s t) e

    each_ordered : {K : CapabilityList} {xs : List Expr} {ts : List StaticType} → TypesEach env K xs ts → EachOrdered ts
    each_ordered Typing.types_none = tt
    each_ordered (Typing.types_more h hs) = (ordered h, each_ordered hs)

pub types_are_ordered : TypesAreOrdered
types_are_ordered env o K L x t h = ordered env o h
