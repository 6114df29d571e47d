-- Defines the order of values.
-- Rules of this product: values are ordered by kind, in the order of `kind_rank`. Within a kind, false comes before
-- true. Integers and decimals are ordered by value, strings by bytes, entities by uid, and IP addresses by version,
-- address and prefix. Sets are ordered member by member, and records field by field, where a prefix comes first.
use Rattle.std.specs.Prelude.{◌≡◌, ℕ, pos, List, [], ◌∷◌, ◌++◌, Bool, true, false, refl}
use Rattle.std.proofs.Common.{ap, sym, ◌∙◌, append_assoc}
use Rattle.std.proofs.lemmas.List.{append-nil}
use Rattle.std.specs.declared.cmp.Ordering.{Ordering}
use Rattle.std.specs.declared.cmp.Ordering.TheVariants.{Less, Equal, Greater}
use Rattle.std.specs.Ordering.{ordering_then, ordering_reverse, nat_cmp, int_cmp, bool_cmp, on, then_cmp}
use Rattle.std.specs.Cmp.{IsTotalOrder}
use Rattle.std.specs.Cmp.Lexicographic.{slice_cmp}
use Rattle.std.specs.FinMap.{IsAntisymmetric, nat_cmp-IsAntisymmetric, int_cmp-IsAntisymmetric}
use Rattle.std.specs.FinMap.{slice_cmp-IsAntisymmetric}
use Rattle.std.proofs.lemmas.Cmp.{on_total, lists_total, nat_cmp_total, int_cmp_total, nat_list_cmp_total, then_total}
use Rattle.values.specs.Values.{PlainValue, boolean, long, text, entity, set, record_of, decimal, ipaddr, PlainValues}
use Rattle.values.specs.Values.{no_values, value, PlainFields, no_fields, field, list_of, pairs_of, values_of}
use Rattle.values.specs.Values.{fields_of, list_of-values_of, pairs_of-fields_of}
use Rattle.extensions.specs.Network.{Network}
use Rattle.extensions.specs.Order.{version_number, network_cmp}
use Rattle.values.specs.Uids.{text_cmp, uid_cmp}
use Rattle.values.specs.ValueCode.{network_list, Token, as_number, tokens, set_tokens, record_tokens, same_from_tokens}

-- `kind_rank v` is the rank of the kind of `v` in the order of values.
abbrev pub kind_rank : PlainValue → ℕ
kind_rank (boolean b) = 1
kind_rank (long z) = 2
kind_rank (text s) = 3
kind_rank (entity u) = 4
kind_rank (set vs) = 5
kind_rank (record_of fs) = 6
kind_rank (decimal z) = 7
kind_rank (ipaddr n) = 8

-- `value_cmp v w` compares two values. `values_cmp vs ws` compares two lists of members, and `fields_cmp fs gs` two
-- lists of fields, item by item, where a prefix comes first. Fields are compared by the key, then by the value.
abbrev mutual
  pub value_cmp : PlainValue → PlainValue → Ordering
  value_cmp (boolean a) (boolean b) = bool_cmp a b
  value_cmp (boolean a) w = nat_cmp 1 (kind_rank w)
  value_cmp (long x) (long y) = int_cmp x y
  value_cmp (long x) w = nat_cmp 2 (kind_rank w)
  value_cmp (text s) (text t) = text_cmp s t
  value_cmp (text s) w = nat_cmp 3 (kind_rank w)
  value_cmp (entity u) (entity v) = uid_cmp u v
  value_cmp (entity u) w = nat_cmp 4 (kind_rank w)
  value_cmp (set vs) (set ws) = values_cmp vs ws
  value_cmp (set vs) w = nat_cmp 5 (kind_rank w)
  value_cmp (record_of fs) (record_of gs) = fields_cmp fs gs
  value_cmp (record_of fs) w = nat_cmp 6 (kind_rank w)
  value_cmp (decimal y) (decimal z) = int_cmp y z
  value_cmp (decimal y) w = nat_cmp 7 (kind_rank w)
  value_cmp (ipaddr m) (ipaddr n) = network_cmp m n
  value_cmp (ipaddr m) w = nat_cmp 8 (kind_rank w)

  pub values_cmp : PlainValues → PlainValues → Ordering
  values_cmp no_values no_values = Equal
  values_cmp no_values (value w ws) = Less
  values_cmp (value v vs) no_values = Greater
  values_cmp (value v vs) (value w ws) = ordering_then (value_cmp v w) (values_cmp vs ws)

  pub fields_cmp : PlainFields → PlainFields → Ordering
  fields_cmp no_fields no_fields = Equal
  fields_cmp no_fields (field l w gs) = Less
  fields_cmp (field k v fs) no_fields = Greater
  fields_cmp (field k v fs) (field l w gs) =
      ordering_then (text_cmp k l) (ordering_then (value_cmp v w) (fields_cmp fs gs))

-- ---- the same order by the tokens of ValueCode, from which it follows that the order is total

-- `token_cmp x y` compares two tokens part by part, and `tokens_cmp xs ys` two lists of tokens.
abbrev token_cmp : Token → Token → Ordering
token_cmp = then_cmp (on (λ t. t.0) nat_cmp)
    (then_cmp (on (λ t. t.1.0) int_cmp) (then_cmp (on (λ t. t.1.1.0) text_cmp) (on (λ t. t.1.1.1) text_cmp)))

abbrev tokens_cmp : List Token → List Token → Ordering
tokens_cmp = slice_cmp token_cmp

then_equal : (o : Ordering) → ordering_then o Equal ≡ o
then_equal Less = refl
then_equal Equal = refl
then_equal Greater = refl

then_assoc : (o p q : Ordering) → ordering_then (ordering_then o p) q ≡ ordering_then o (ordering_then p q)
then_assoc Less p q = refl
then_assoc Equal p q = refl
then_assoc Greater p q = refl

then_into : (o : Ordering) (p q : Ordering) → p ≡ q → ordering_then o p ≡ ordering_then o q
then_into o p q e = ap (ordering_then o) e

then_same : (o p q : Ordering) → o ≡ p → ordering_then o q ≡ ordering_then p q
then_same o p q e = ap (λ r. ordering_then r q) e

-- `end_first w s t`: an end token followed by `s` comes before the tokens of `w` followed by `t`, so a prefix comes
-- first. `end_last w s t` compares the same two lists the other way round.
end_first : (w : PlainValue) (s t : List Token) → tokens_cmp ((0, (pos 0, ([], []))) ∷ s) (tokens w ++ t) ≡ Less
end_first (boolean b) s t = refl
end_first (long z) s t = refl
end_first (text x) s t = refl
end_first (entity u) s t = refl
end_first (set vs) s t = refl
end_first (record_of fs) s t = refl
end_first (decimal z) s t = refl
end_first (ipaddr n) s t = refl

end_last : (w : PlainValue) (s t : List Token) → tokens_cmp (tokens w ++ t) ((0, (pos 0, ([], []))) ∷ s) ≡ Greater
end_last (boolean b) s t = refl
end_last (long z) s t = refl
end_last (text x) s t = refl
end_last (entity u) s t = refl
end_last (set vs) s t = refl
end_last (record_of fs) s t = refl
end_last (decimal z) s t = refl
end_last (ipaddr n) s t = refl

bool_by_number : (a b : Bool) → bool_cmp a b ≡ int_cmp (as_number a) (as_number b)
bool_by_number false false = refl
bool_by_number false true = refl
bool_by_number true false = refl
bool_by_number true true = refl

network_by_numbers : (m n : Network)
    → network_cmp m n ≡ ordering_then (text_cmp (network_list m) (network_list n)) Equal
network_by_numbers m n =
    ap (λ o. ordering_then (nat_cmp (version_number m.version) (version_number n.version))
    (ordering_then (nat_cmp m.address n.address) o)) (sym (then_equal (nat_cmp m.prefix n.prefix)))
    ∙ sym (then_equal (text_cmp (network_list m) (network_list n)))

mutual
  -- `value_by_tokens v w s t`: the tokens of `v` followed by `s` compare with the tokens of `w` followed by `t` as `v`
  -- does with `w`, and, if `v` and `w` compare as equal, as `s` does with `t`. The next two lemmas state the same of
  -- members and of fields.
  value_by_tokens : (v w : PlainValue) (s t : List Token)
      → ordering_then (value_cmp v w) (tokens_cmp s t) ≡ tokens_cmp (tokens v ++ s) (tokens w ++ t)
  value_by_tokens (boolean b) (boolean b') s t = then_same _ _ _ (bool_by_number b b' ∙ sym (then_equal _))
  value_by_tokens (boolean b) (long z) s t = refl
  value_by_tokens (boolean b) (text x) s t = refl
  value_by_tokens (boolean b) (entity u) s t = refl
  value_by_tokens (boolean b) (set vs) s t = refl
  value_by_tokens (boolean b) (record_of fs) s t = refl
  value_by_tokens (boolean b) (decimal d) s t = refl
  value_by_tokens (boolean b) (ipaddr n) s t = refl
  value_by_tokens (long z) (boolean b) s t = refl
  value_by_tokens (long z) (long z') s t = then_same _ _ _ (sym (then_equal (int_cmp z z')))
  value_by_tokens (long z) (text x) s t = refl
  value_by_tokens (long z) (entity u) s t = refl
  value_by_tokens (long z) (set vs) s t = refl
  value_by_tokens (long z) (record_of fs) s t = refl
  value_by_tokens (long z) (decimal d) s t = refl
  value_by_tokens (long z) (ipaddr n) s t = refl
  value_by_tokens (text x) (boolean b) s t = refl
  value_by_tokens (text x) (long z) s t = refl
  value_by_tokens (text x) (text x') s t = then_same _ _ _ (sym (then_equal (text_cmp x x')))
  value_by_tokens (text x) (entity u) s t = refl
  value_by_tokens (text x) (set vs) s t = refl
  value_by_tokens (text x) (record_of fs) s t = refl
  value_by_tokens (text x) (decimal d) s t = refl
  value_by_tokens (text x) (ipaddr n) s t = refl
  value_by_tokens (entity u) (boolean b) s t = refl
  value_by_tokens (entity u) (long z) s t = refl
  value_by_tokens (entity u) (text x) s t = refl
  value_by_tokens (entity u) (entity u') s t = refl
  value_by_tokens (entity u) (set vs) s t = refl
  value_by_tokens (entity u) (record_of fs) s t = refl
  value_by_tokens (entity u) (decimal d) s t = refl
  value_by_tokens (entity u) (ipaddr n) s t = refl
  value_by_tokens (set vs) (boolean b) s t = refl
  value_by_tokens (set vs) (long z) s t = refl
  value_by_tokens (set vs) (text x) s t = refl
  value_by_tokens (set vs) (entity u) s t = refl
  value_by_tokens (set vs) (set vs') s t = values_by_tokens vs vs' s t
  value_by_tokens (set vs) (record_of fs) s t = refl
  value_by_tokens (set vs) (decimal d) s t = refl
  value_by_tokens (set vs) (ipaddr n) s t = refl
  value_by_tokens (record_of fs) (boolean b) s t = refl
  value_by_tokens (record_of fs) (long z) s t = refl
  value_by_tokens (record_of fs) (text x) s t = refl
  value_by_tokens (record_of fs) (entity u) s t = refl
  value_by_tokens (record_of fs) (set vs) s t = refl
  value_by_tokens (record_of fs) (record_of fs') s t = fields_by_tokens fs fs' s t
  value_by_tokens (record_of fs) (decimal d) s t = refl
  value_by_tokens (record_of fs) (ipaddr n) s t = refl
  value_by_tokens (decimal d) (boolean b) s t = refl
  value_by_tokens (decimal d) (long z) s t = refl
  value_by_tokens (decimal d) (text x) s t = refl
  value_by_tokens (decimal d) (entity u) s t = refl
  value_by_tokens (decimal d) (set vs) s t = refl
  value_by_tokens (decimal d) (record_of fs) s t = refl
  value_by_tokens (decimal d) (decimal d') s t = then_same _ _ _ (sym (then_equal (int_cmp d d')))
  value_by_tokens (decimal d) (ipaddr n) s t = refl
  value_by_tokens (ipaddr n) (boolean b) s t = refl
  value_by_tokens (ipaddr n) (long z) s t = refl
  value_by_tokens (ipaddr n) (text x) s t = refl
  value_by_tokens (ipaddr n) (entity u) s t = refl
  value_by_tokens (ipaddr n) (set vs) s t = refl
  value_by_tokens (ipaddr n) (record_of fs) s t = refl
  value_by_tokens (ipaddr n) (decimal d) s t = refl
  value_by_tokens (ipaddr n) (ipaddr n') s t = then_same _ _ _ (network_by_numbers n n')

  values_by_tokens : (vs ws : PlainValues) (s t : List Token)
      → ordering_then (values_cmp vs ws) (tokens_cmp s t) ≡ tokens_cmp (set_tokens vs ++ s) (set_tokens ws ++ t)
  values_by_tokens no_values no_values s t = refl
  values_by_tokens no_values (value w ws) s t =
      sym (rw (append_assoc (tokens w) (set_tokens ws) t) (end_first w s (set_tokens ws ++ t)))
  values_by_tokens (value v vs) no_values s t =
      sym (rw (append_assoc (tokens v) (set_tokens vs) s) (end_last v t (set_tokens vs ++ s)))
  values_by_tokens (value v vs) (value w ws) s t =
      then_assoc (value_cmp v w) (values_cmp vs ws) (tokens_cmp s t)
      ∙ (then_into (value_cmp v w) _ _ (values_by_tokens vs ws s t)
      ∙ (value_by_tokens v w (set_tokens vs ++ s) (set_tokens ws ++ t)
      ∙ sym (rw (append_assoc (tokens v) (set_tokens vs) s, append_assoc (tokens w) (set_tokens ws) t))))

  fields_by_tokens : (fs gs : PlainFields) (s t : List Token)
      → ordering_then (fields_cmp fs gs) (tokens_cmp s t) ≡ tokens_cmp (record_tokens fs ++ s) (record_tokens gs ++ t)
  fields_by_tokens no_fields no_fields s t = refl
  fields_by_tokens no_fields (field l w gs) s t = refl
  fields_by_tokens (field k v fs) no_fields s t = refl
  fields_by_tokens (field k v fs) (field l w gs) s t =
      then_assoc (text_cmp k l) (ordering_then (value_cmp v w) (fields_cmp fs gs)) (tokens_cmp s t)
      ∙ (then_into (text_cmp k l) _ _ (then_assoc (value_cmp v w) (fields_cmp fs gs) (tokens_cmp s t)
      ∙ (then_into (value_cmp v w) _ _ (fields_by_tokens fs gs s t)
      ∙ value_by_tokens v w (record_tokens fs ++ s) (record_tokens gs ++ t)))
      ∙ sym (rw (append_assoc (tokens v) (record_tokens fs) s, append_assoc (tokens w) (record_tokens gs) t)
      (then_same _ _ _ (then_equal (text_cmp k l)))))

-- Values compare as their tokens do.
by_tokens : (v w : PlainValue) → value_cmp v w ≡ tokens_cmp (tokens v) (tokens w)
by_tokens v w =
    sym (then_equal (value_cmp v w)) ∙ (value_by_tokens v w [] [] ∙ rw (append-nil (tokens v), append-nil (tokens w)))

token_cmp_total : IsTotalOrder token_cmp
token_cmp_total = then_total (on_total (λ t. t.0) nat_cmp_total)
    (then_total (on_total (λ t. t.1.0) int_cmp_total)
    (then_total (on_total (λ t. t.1.1.0) nat_list_cmp_total) (on_total (λ t. t.1.1.1) nat_list_cmp_total)))

by_tokens_total : IsTotalOrder (on tokens tokens_cmp)
by_tokens_total = on_total tokens (lists_total token_cmp_total)

-- `value_cmp-IsTotalOrder`: the order of values is total.
pub value_cmp-IsTotalOrder : IsTotalOrder value_cmp
value_cmp-IsTotalOrder = record {
  antisymm = λ x y. by_tokens x y ∙ (by_tokens_total.antisymm x y ∙ ap ordering_reverse (sym (by_tokens y x)));
  trans = λ x y z h k. by_tokens x z ∙ by_tokens_total.trans x y z (sym (by_tokens x y) ∙ h) (sym (by_tokens y z) ∙ k);
  congr = λ x y z h. by_tokens x z ∙ (by_tokens_total.congr x y z (sym (by_tokens x y) ∙ h) ∙ sym (by_tokens y z));
}

both_equal : (o p : Ordering) → ordering_then o p ≡ Equal → (o ≡ Equal) × (p ≡ Equal)
both_equal Less p e = absurd (cc)
both_equal Equal p e = (refl, e)
both_equal Greater p e = absurd (cc)

same_token : (x y : Token) → x.0 ≡ y.0 → x.1.0 ≡ y.1.0 → x.1.1.0 ≡ y.1.1.0 → x.1.1.1 ≡ y.1.1.1 → x ≡ y
same_token x y p q r s =
    ap (λ n. (n, x.1)) p ∙ (ap (λ n. (y.0, (n, x.1.1))) q
    ∙ (ap (λ n. (y.0, (y.1.0, (n, x.1.1.1)))) r ∙ ap (λ n. (y.0, (y.1.0, (y.1.1.0, n)))) s))

token_same : IsAntisymmetric token_cmp
token_same x y e =
    let a = both_equal (nat_cmp x.0 y.0) _ e in
    let b = both_equal (int_cmp x.1.0 y.1.0) _ a.1 in
    let c = both_equal (text_cmp x.1.1.0 y.1.1.0) _ b.1 in
    let p = nat_cmp-IsAntisymmetric x.0 y.0 a.0 in
    let q = int_cmp-IsAntisymmetric x.1.0 y.1.0 b.0 in
    let r = slice_cmp-IsAntisymmetric nat_cmp-IsAntisymmetric x.1.1.0 y.1.1.0 c.0 in
    let s = slice_cmp-IsAntisymmetric nat_cmp-IsAntisymmetric x.1.1.1 y.1.1.1 c.1 in
    same_token x y p q r s

-- `value_cmp-IsAntisymmetric`: only equal values compare as equal.
pub value_cmp-IsAntisymmetric : IsAntisymmetric value_cmp
value_cmp-IsAntisymmetric v w e =
    same_from_tokens v w (slice_cmp-IsAntisymmetric token_same (tokens v) (tokens w) (sym (by_tokens v w) ∙ e))

-- ---- sets and records

-- `set_cmp a b` compares two sets, member by member.
abbrev pub set_cmp : List PlainValue → List PlainValue → Ordering
set_cmp a b = values_cmp (values_of a) (values_of b)

-- `record_cmp a b` compares two records, field by field.
abbrev pub record_cmp : List (List ℕ × PlainValue) → List (List ℕ × PlainValue) → Ordering
record_cmp a b = fields_cmp (fields_of a) (fields_of b)

-- `field_cmp f g` compares two fields by the key, and then by the value.
abbrev pub field_cmp : List ℕ × PlainValue → List ℕ × PlainValue → Ordering
field_cmp f g = ordering_then (text_cmp f.0 g.0) (value_cmp f.1 g.1)

-- `set_cmp` and `record_cmp` are the lexicographic orders of lists in std, by `value_cmp` and by `field_cmp`.
pub set_cmp-is : (a b : List PlainValue) → set_cmp a b ≡ slice_cmp value_cmp a b
set_cmp-is [] [] = refl
set_cmp-is [] (w ∷ b) = refl
set_cmp-is (v ∷ a) [] = refl
set_cmp-is (v ∷ a) (w ∷ b) = ap (ordering_then (value_cmp v w)) (set_cmp-is a b)

pub record_cmp-is : (a b : List (List ℕ × PlainValue)) → record_cmp a b ≡ slice_cmp field_cmp a b
record_cmp-is [] [] = refl
record_cmp-is [] (g ∷ b) = refl
record_cmp-is (f ∷ a) [] = refl
record_cmp-is (f ∷ a) (g ∷ b) =
    sym (then_assoc (text_cmp f.0 g.0) (value_cmp f.1 g.1) (record_cmp a b))
    ∙ ap (ordering_then (field_cmp f g)) (record_cmp-is a b)

-- `set_cmp` and `record_cmp` are total, and only equal lists compare as equal.
pub set_cmp-IsTotalOrder : IsTotalOrder set_cmp
set_cmp-IsTotalOrder = on_total (λ vs. set (values_of vs)) value_cmp-IsTotalOrder

pub record_cmp-IsTotalOrder : IsTotalOrder record_cmp
record_cmp-IsTotalOrder = on_total (λ fs. record_of (fields_of fs)) value_cmp-IsTotalOrder

pub set_cmp-IsAntisymmetric : IsAntisymmetric set_cmp
set_cmp-IsAntisymmetric a b h =
    let same : set (values_of a) ≡ set (values_of b) =
    value_cmp-IsAntisymmetric (set (values_of a)) (set (values_of b)) h in
    let members : values_of a ≡ values_of b = cc in
    sym (list_of-values_of a) ∙ ap list_of members ∙ list_of-values_of b

pub record_cmp-IsAntisymmetric : IsAntisymmetric record_cmp
record_cmp-IsAntisymmetric a b h =
    let same : record_of (fields_of a) ≡ record_of (fields_of b) =
    value_cmp-IsAntisymmetric (record_of (fields_of a)) (record_of (fields_of b)) h in
    let fields : fields_of a ≡ fields_of b = cc in
    sym (pairs_of-fields_of a) ∙ ap pairs_of fields ∙ pairs_of-fields_of b
