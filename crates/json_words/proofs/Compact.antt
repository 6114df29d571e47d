-- The compact text of a plain value reads back as it.
use Rattle.std.proofs.Common.{◌≡◌, ◌∙◌, ℕ, suc, ◌≤◌, pos, negsuc, List, [], Option, Some, option_and_then, append-nil, refl, sym, ap, Less, Greater}
use Rattle.std.specs.Prelude.{⊤}
use Rattle.std.specs.Ordering.{nat_cmp, ordering_reverse}
use Rattle.std.specs.Cmp.Lexicographic.{slice_cmp}
use Rattle.std.proofs.lemmas.Cmp.{nat_list_cmp_total}
use Rattle.json.specs.Json as json
use Rattle.json.specs.Tree as tree
use Rattle.json.specs.Tree.{json_tokens, HasNumbers, ItemsHaveNumbers, MembersHaveNumbers}
use Rattle.json.specs.Print.{print}
use Rattle.json.specs.Lex.{tokens}
use Rattle.json.proofs.Printed.Trees.{value-json_tokens, ArePrintable-json_tokens}
use Rattle.json.proofs.Printed.Tokens.{tokens-print}
use Rattle.json.specs.Token.{Token}
use Rattle.json.proofs.Printed.Decimals.{IsNumber-decimal, IsNumber-signed_decimal}
use Rattle.serde_json.specs.Data.{Num, unsigned, negative, float, Data, null, boolean, number, string, array, object, Items, no_items, item, Members, no_members, member, put, depth, items_depth, members_depth}
use Rattle.serde_json.specs.Read.{of_json, of_items, of_members, number_of, max_depth, read}
use Rattle.serde_json.specs.Written.{outline, items_outline, members_outline, number_text, compact_text}
use Rattle.serde_json.proofs.Numbers.{number_of-decimal, number_of-negative}
use Rattle.serde_json.proofs.Texts.{print-outline}
use Rattle.json_words.specs.Plain.{IsWhole, AreAbove, IsPlain, ArePlain, HasPlain}

abbrev whole : Option (json.Json × List Token) → Option Data
whole o = option_and_then of_json (option_and_then (λ p. json.if_last p.0 p.1) o)

abbrev some : Data → Option Data
some d = Some d

some_is : (d e : Data) → some d ≡ some e → d ≡ e
some_is d e h = cc

-- ---- the numbers

number_reads : (n : Num) → IsWhole n → number_of (number_text n) ≡ Some n
number_reads (unsigned n) h = number_of-decimal n h
number_reads (negative (pos n)) h = absurd h
number_reads (negative (negsuc n)) h = number_of-negative n h
number_reads (float x) h = absurd h

mutual
  numbers : (d : Data) → IsPlain d → HasNumbers (outline d)
  numbers null h = tt
  numbers (boolean b) h = tt
  numbers (number (unsigned n)) h = IsNumber-decimal n h
  numbers (number (negative (pos n))) h = absurd h
  numbers (number (negative (negsuc n))) h = IsNumber-signed_decimal (negsuc n) h
  numbers (number (float x)) h = absurd h
  numbers (string s) h = tt
  numbers (array ds) h = items_numbers ds h
  numbers (object ms) h = members_numbers ms h

  items_numbers : (ds : Items) → ArePlain ds → ItemsHaveNumbers (items_outline ds)
  items_numbers no_items h = tt
  items_numbers (item d ds) h = (numbers d h.0, items_numbers ds h.1)

  members_numbers : (ms : Members) → HasPlain ms → MembersHaveNumbers (members_outline ms)
  members_numbers no_members h = tt
  members_numbers (member k d ms) h = (numbers d h.1, members_numbers ms h.3)

-- ---- the depth

mutual
  outline_depth : (d : Data) → tree.depth (outline d) ≡ depth d
  outline_depth null = refl
  outline_depth (boolean b) = refl
  outline_depth (number n) = refl
  outline_depth (string s) = refl
  outline_depth (array ds) = ap suc (items_outline_depth ds)
  outline_depth (object ms) = ap suc (members_outline_depth ms)

  items_outline_depth : (ds : Items) → tree.items_depth (items_outline ds) ≡ items_depth ds
  items_outline_depth no_items = refl
  items_outline_depth (item d ds) = rw (outline_depth d, items_outline_depth ds) refl

  members_outline_depth : (ms : Members) → tree.members_depth (members_outline ms) ≡ members_depth ms
  members_outline_depth no_members = refl
  members_outline_depth (member k d ms) = rw (outline_depth d, members_outline_depth ms) refl

-- ---- the members go in one after another

infixl 10 ◌+++◌
◌+++◌ : Members → Members → Members
no_members +++ ms = ms
(member k d ns) +++ ms = member k d (ns +++ ms)

-- each key of ns is below k
abbrev AreBelow : Members → List ℕ → Type 0
AreBelow no_members k = ⊤
AreBelow (member l e ns) k = (slice_cmp nat_cmp l k ≡ Less) × AreBelow ns k

put_last : (ns : Members) (k : List ℕ) (d : Data) → AreBelow ns k → put k d ns ≡ ns +++ member k d no_members
unfolding ◌+++◌
put_last no_members k d h = refl
put_last (member l e ns) k d h =
    let above : slice_cmp nat_cmp k l ≡ Greater = nat_list_cmp_total.antisymm k l ∙ ap ordering_reverse h.0 in
    rw above (ap (member l e) (put_last ns k d h.1))

-- each key of ns is below each of ms
abbrev AreOrdered : Members → Members → Type 0
AreOrdered ns no_members = ⊤
AreOrdered ns (member k d ms) = AreBelow ns k × AreOrdered ns ms

below_push : (ns : Members) (k : List ℕ) (d : Data) (l : List ℕ) → AreBelow ns l → slice_cmp nat_cmp k l ≡ Less → AreBelow (ns +++ member k d no_members) l
unfolding ◌+++◌
below_push no_members k d l h lt = (lt, tt)
below_push (member m e ns) k d l h lt = (h.0, below_push ns k d l h.1 lt)

ordered_push : (ns : Members) (k : List ℕ) (d : Data) (ms : Members) → AreOrdered ns ms → AreAbove k ms → AreOrdered (ns +++ member k d no_members) ms
ordered_push ns k d no_members h above = tt
ordered_push ns k d (member l e ms) h above = (below_push ns k d l h.0 above.0, ordered_push ns k d ms h.1 above.1)

moved : (ns : Members) (k : List ℕ) (d : Data) (ms : Members) → (ns +++ member k d no_members) +++ ms ≡ ns +++ member k d ms
unfolding ◌+++◌
moved no_members k d ms = refl
moved (member l e ns) k d ms = ap (member l e) (moved ns k d ms)

after_all : (ns : Members) → ns +++ no_members ≡ ns
unfolding ◌+++◌
after_all no_members = refl
after_all (member l e ns) = ap (member l e) (after_all ns)

none_below : (ms : Members) → AreOrdered no_members ms
none_below no_members = tt
none_below (member k d ms) = (tt, none_below ms)

mutual
  unfolding ◌+++◌

  outline_reads : (d : Data) → IsPlain d → of_json (outline d) ≡ Some d
  outline_reads null h = refl
  outline_reads (boolean b) h = refl
  outline_reads (number n) h = rw (number_reads n h) refl
  outline_reads (string s) h = refl
  outline_reads (array ds) h = rw (items_read ds h) refl
  outline_reads (object ms) h = rw (members_read ms no_members h (none_below ms)) refl

  items_read : (ds : Items) → ArePlain ds → of_items (items_outline ds) ≡ Some ds
  items_read no_items h = refl
  items_read (item d ds) h = rw (outline_reads d h.0, items_read ds h.1) refl

  members_read : (ms found : Members) → HasPlain ms → AreOrdered found ms → of_members (members_outline ms) found ≡ Some (found +++ ms)
  members_read no_members found h o = ap (λ (l : Members). Some l) (sym (after_all found))
  members_read (member k d ms) found h o =
      rw (outline_reads d h.1, put_last found k d o.0)
      (members_read ms (found +++ member k d no_members) h.3 (ordered_push found k d ms o.1 h.2) ∙ ap (λ (l : Members). Some l) (moved found k d ms))

-- the round trip
pub read_compact : (d : Data) → IsPlain d → depth d ≤ max_depth → read (compact_text d) ≡ Some d
read_compact d plain shallow =
    let j = outline d in
    let seen : json.value max_depth (tokens (print (json_tokens j))) ≡ Some (j, []) =
    ap (json.value max_depth) (tokens-print (json_tokens j) (ArePrintable-json_tokens j (numbers d plain)) ∙ sym (append-nil (json_tokens j))) ∙ value-json_tokens j max_depth [] (rw outline_depth shallow) in
    ap read (sym (print-outline d)) ∙ ap whole seen ∙ outline_reads d plain

-- two plain values of one text are one
pub compact_one : (d e : Data) → IsPlain d → IsPlain e → depth d ≤ max_depth → depth e ≤ max_depth → compact_text d ≡ compact_text e → d ≡ e
compact_one d e p q m n same =
    let both : some d ≡ some e = sym (read_compact d p m) ∙ ap read same ∙ read_compact e q n in
    some_is d e both
