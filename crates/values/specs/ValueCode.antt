-- Defines an encoding of values as lists of tokens. The list determines the value, and the order of these lists is the
-- order of values.
use Rattle.std.specs.Prelude.{◌≡◌, ℕ, ℤ, pos, List, [], ◌∷◌, ◌++◌, Bool, true, false, cond, ◌==◌, refl}
use Rattle.std.specs.Coded.{Coded, code_by, coded×, coded_ℕ, coded_ℤ, coded_list}
use Rattle.std.proofs.Common.{ap, sym, ◌∙◌, append_assoc}
use Rattle.std.proofs.lemmas.List.{append-nil}
use Rattle.extensions.specs.Network.{Network}
use Rattle.extensions.specs.Order.{version_number, network_from_numbers, network_from_numbers-network_numbers}
use Rattle.values.specs.Values.{PlainValue, boolean, long, text, entity, set, record_of, decimal, ipaddr, PlainValues}
use Rattle.values.specs.Values.{no_values, value, PlainFields, no_fields, field}

-- A `Token` is a tag, a number, and two lists of numbers, which are the bytes of strings except in the token of an IP
-- address. A tag from 1 to 8 is the rank of a kind of values (`kind_rank` of ValueOrder): 5 begins a set, 6 begins a
-- record, and the others are whole values. The tag 0 ends a set or record; 9 is a key of a record.
abbrev pub Token : Type 0
Token = ℕ × (ℤ × (List ℕ × List ℕ))

-- `as_number b` is 1 if `b` is true, else 0.
abbrev pub as_number : Bool → ℤ
as_number false = pos 0
as_number true = pos 1

-- `is_one z` tests whether `z` is 1.
abbrev pub is_one : ℤ → Bool
is_one (pos n) = n == 1
is_one z = false

-- `network_list n` is the network `n` as a list of its version, its address and its prefix.
abbrev pub network_list : Network → List ℕ
network_list n = version_number n.version ∷ n.address ∷ n.prefix ∷ []

-- `list_network ns` is the network that the list `ns` represents, where a missing number is 0.
abbrev pub list_network : List ℕ → Network
list_network [] = network_from_numbers (0, (0, 0))
list_network (v ∷ []) = network_from_numbers (v, (0, 0))
list_network (v ∷ a ∷ []) = network_from_numbers (v, (a, 0))
list_network (v ∷ a ∷ p ∷ more) = network_from_numbers (v, (a, p))

abbrev mutual
  -- `tokens v` are the tokens of the value `v`. `set_tokens vs` are those of the members `vs`, and `record_tokens fs`
  -- those of the fields `fs`; an end token is the last of each of these two lists.
  pub tokens : PlainValue → List Token
  tokens (boolean b) = (1, (as_number b, ([], []))) ∷ []
  tokens (long z) = (2, (z, ([], []))) ∷ []
  tokens (text s) = (3, (pos 0, (s, []))) ∷ []
  tokens (entity u) = (4, (pos 0, (u.type_name, u.id))) ∷ []
  tokens (set vs) = (5, (pos 0, ([], []))) ∷ set_tokens vs
  tokens (record_of fs) = (6, (pos 0, ([], []))) ∷ record_tokens fs
  tokens (decimal z) = (7, (z, ([], []))) ∷ []
  tokens (ipaddr n) = (8, (pos 0, (network_list n, []))) ∷ []

  pub set_tokens : PlainValues → List Token
  set_tokens no_values = (0, (pos 0, ([], []))) ∷ []
  set_tokens (value v vs) = tokens v ++ set_tokens vs

  pub record_tokens : PlainFields → List Token
  record_tokens no_fields = (0, (pos 0, ([], []))) ∷ []
  record_tokens (field k v fs) = (9, (pos 0, (k, []))) ∷ (tokens v ++ record_tokens fs)

-- An `Item` is the result of reading some tokens: the end of a set or record, a key of a record, or a whole value.
pub data Item : Type 0 where
  end : Item
  key : List ℕ → Item
  whole : PlainValue → Item

-- `members st` are the values that the items `st` begin with. `fields st` are the fields that the items `st` begin
-- with: each a key, then its value. `behind st` are the items after the first end in `st`.
abbrev pub members : List Item → PlainValues
members [] = no_values
members (end ∷ st) = no_values
members (key k ∷ st) = no_values
members (whole v ∷ st) = value v (members st)

abbrev pub fields : List Item → PlainFields
fields [] = no_fields
fields (end ∷ st) = no_fields
fields (whole v ∷ st) = no_fields
fields (key k ∷ []) = no_fields
fields (key k ∷ end ∷ st) = no_fields
fields (key k ∷ key l ∷ st) = no_fields
fields (key k ∷ whole v ∷ st) = field k v (fields st)

abbrev pub behind : List Item → List Item
behind [] = []
behind (end ∷ st) = st
behind (key k ∷ st) = behind st
behind (whole v ∷ st) = behind st

-- `read_one n z s t st` are the items of a token with the tag `n`, the number `z` and the lists `s` and `t`, followed
-- by tokens with the items `st`. A token that begins a set or record takes its members or fields from `st`.
abbrev pub read_one : ℕ → ℤ → List ℕ → List ℕ → List Item → List Item
read_one n z s t st =
    cond (n == 0) (end ∷ st) (cond (n == 1) (whole (boolean (is_one z)) ∷ st)
    (cond (n == 2) (whole (long z) ∷ st) (cond (n == 3) (whole (text s) ∷ st)
    (cond (n == 4) (whole (entity (record { type_name = s; id = t })) ∷ st)
    (cond (n == 5) (whole (set (members st)) ∷ behind st)
    (cond (n == 6) (whole (record_of (fields st)) ∷ behind st)
    (cond (n == 7) (whole (decimal z) ∷ st)
    (cond (n == 8) (whole (ipaddr (list_network s)) ∷ st) (key s ∷ st)))))))))

-- `read ts` are the items of the tokens `ts`, in order. The tokens are read from the last to the first.
abbrev pub read : List Token → List Item
read [] = []
read (t ∷ ts) = read_one t.0 t.1.0 t.1.1.0 t.1.1.1 (read ts)

-- `items_of vs st` are the members `vs` as items, then an end and `st`; `field_items fs st` are the fields `fs` as
-- items, then an end and `st`. The lemmas below prove that reading the tokens of a value gives that value.
abbrev items_of : PlainValues → List Item → List Item
items_of no_values st = end ∷ st
items_of (value v vs) st = whole v ∷ items_of vs st

abbrev field_items : PlainFields → List Item → List Item
field_items no_fields st = end ∷ st
field_items (field k v fs) st = key k ∷ whole v ∷ field_items fs st

members-items_of : (vs : PlainValues) (st : List Item) → members (items_of vs st) ≡ vs
members-items_of no_values st = refl
members-items_of (value v vs) st = ap (value v) (members-items_of vs st)

behind-items_of : (vs : PlainValues) (st : List Item) → behind (items_of vs st) ≡ st
behind-items_of no_values st = refl
behind-items_of (value v vs) st = behind-items_of vs st

fields-field_items : (fs : PlainFields) (st : List Item) → fields (field_items fs st) ≡ fs
fields-field_items no_fields st = refl
fields-field_items (field k v fs) st = ap (field k v) (fields-field_items fs st)

behind-field_items : (fs : PlainFields) (st : List Item) → behind (field_items fs st) ≡ st
behind-field_items no_fields st = refl
behind-field_items (field k v fs) st = behind-field_items fs st

is_one-as_number : (b : Bool) → is_one (as_number b) ≡ b
is_one-as_number false = refl
is_one-as_number true = refl

mutual
  pub read-tokens : (v : PlainValue) (ts : List Token) → read (tokens v ++ ts) ≡ whole v ∷ read ts
  read-tokens (boolean b) ts = ap (λ x. whole (boolean x) ∷ read ts) (is_one-as_number b)
  read-tokens (long z) ts = refl
  read-tokens (text s) ts = refl
  read-tokens (entity u) ts = refl
  read-tokens (decimal z) ts = refl
  read-tokens (ipaddr n) ts = ap (λ m. whole (ipaddr m) ∷ read ts) (network_from_numbers-network_numbers n)
  read-tokens (set vs) ts =
      rw (read-set_tokens vs ts, members-items_of vs (read ts), behind-items_of vs (read ts))
  read-tokens (record_of fs) ts =
      rw (read-record_tokens fs ts, fields-field_items fs (read ts), behind-field_items fs (read ts))

  pub read-set_tokens : (vs : PlainValues) (ts : List Token) → read (set_tokens vs ++ ts) ≡ items_of vs (read ts)
  read-set_tokens no_values ts = refl
  read-set_tokens (value v vs) ts =
      ap read (append_assoc (tokens v) (set_tokens vs) ts)
      ∙ (read-tokens v (set_tokens vs ++ ts) ∙ ap (λ st. whole v ∷ st) (read-set_tokens vs ts))

  pub read-record_tokens : (fs : PlainFields) (ts : List Token)
      → read (record_tokens fs ++ ts) ≡ field_items fs (read ts)
  read-record_tokens no_fields ts = refl
  read-record_tokens (field k v fs) ts =
      ap (λ w. key k ∷ read w) (append_assoc (tokens v) (record_tokens fs) ts)
      ∙ ap (λ st. key k ∷ st) (read-tokens v (record_tokens fs ++ ts)
      ∙ ap (λ st. whole v ∷ st) (read-record_tokens fs ts))

-- `first_of st` is the first item of `st` if that item is a value, else false; `from_tokens ts` is the value of the
-- tokens `ts`.
abbrev first_of : List Item → PlainValue
first_of [] = boolean false
first_of (end ∷ st) = boolean false
first_of (key k ∷ st) = boolean false
first_of (whole v ∷ st) = v

abbrev from_tokens : List Token → PlainValue
from_tokens ts = first_of (read ts)

-- `from_tokens` is a left inverse of `tokens`.
pub from_tokens-tokens : (v : PlainValue) → from_tokens (tokens v) ≡ v
from_tokens-tokens v =
    ap from_tokens (sym (append-nil (tokens v))) ∙ ap first_of (read-tokens v [])

-- `value_code` encodes values by their tokens.
abbrev pub value_code : Coded PlainValue
value_code =
    code_by (List Token) (coded_list
    (coded× coded_ℕ (coded× coded_ℤ (coded× (coded_list coded_ℕ) (coded_list coded_ℕ))))) tokens from_tokens
    from_tokens-tokens

-- Values with the same tokens are equal.
pub same_from_tokens : (v w : PlainValue) → tokens v ≡ tokens w → v ≡ w
same_from_tokens v w e = sym (from_tokens-tokens v) ∙ (ap from_tokens e ∙ from_tokens-tokens w)
