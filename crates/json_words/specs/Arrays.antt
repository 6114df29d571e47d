-- Defines the members of a JSON array, and those that remain after some of them were read.
-- Source: RFC 8259, section 5 (an array is brackets around values with commas between) and section 2 (a text is one
-- value, with only whitespace around it).
-- Rules of this product: which error is reported (`each_of`, `reported_error`).
use Rattle.std.specs.Prelude.{◌≡◌, ◌<◌, ◌-◌, ⊤, ℕ, List, [], ◌∷◌, length, if◌then◌else◌, Result}
use Rattle.std.specs.Prelude.{Option, Some, None, option_map, option_and_then, is_some}
use Rattle.json.specs.Json as json
use Rattle.json.specs.Token.{Token}
use Rattle.serde_json.specs.Data.{Data}
use Rattle.serde_json.specs.Find.{as_array}
use Rattle.serde_json.specs.Read.{max_depth, of_json, converted}
use Rattle.serde_json.specs.View.{view}
use Rattle.json_words.specs.Each.{each, list_of}
use Rattle.json_words.specs.Json.{json_of}
use Rattle.json_words.specs.ReadsAs.{◌>>=◌, or_fault}
use Rattle.json_words.specs.declared.array_members.Member.{Member}
use Rattle.json_words.specs.declared.array_members.Member.TheVariants.{Value, End, NotJson}
use Rattle.json_words.specs.declared.array_members.ArrayMembers.{ArrayMembers}

-- `members_in value` are the members of `value`; `None` if `value` is `None` or not an array.
abbrev pub members_in : Option Data → Option (List Data)
members_in value = option_map list_of (option_and_then as_array value)

-- `array_of bytes` are the members of `bytes` as a JSON array; `None` if `json_of bytes` is `None` or not an array.
unfoldable pub array_of : List ℕ → Option (List Data)
array_of bytes = members_in (json_of bytes)

-- `array_at deep ts` is an array with the tokens after it, where `ts` are the tokens after the array's opening bracket.
-- It is `None` if `ts` do not complete an array, or if `serde_json` rejects a member or a member nests more than `deep`
-- levels.
abbrev pub array_at : ℕ → List Token → Option (Data × List Token)
array_at deep ts = converted of_json (json.parse_map json.array (json.items (json.value deep) (length ts) ts))

-- `whole o`, where `o` is a parsed value with the tokens after it, is the value if there are no tokens after it; else
-- `None`.
abbrev pub whole : Option (Data × List Token) → Option Data
whole None = None
whole (Some (d, [])) = Some d
whole (Some (d, t ∷ ts)) = None

-- `rest_of_array tokens` are the remaining members of a text that is one array, where `tokens` are the tokens of the
-- text that are not yet read. It is `None` if `tokens` do not complete the array, if a token follows the array, or if
-- `array_at` rejects a member.
unfoldable pub rest_of_array : List Token → Option (List Data)
rest_of_array tokens = members_in (whole (array_at (max_depth - 1) tokens))

-- `unread_members members` are the members of the array that the reader of `members` has not yet read; `None` if the
-- rest of the text is not JSON (`rest_of_array`).
abbrev pub unread_members : ArrayMembers → Option (List Data)
unread_members members = rest_of_array members.reader

-- `IsNextMember member before behind` holds if a call of `ArrayMembers::next` may return `member`, where `before` and
-- `behind` are the members that remain before and after the call: `member` is the first of `before`, and `behind` are
-- the others; or it is `End`, and `before` is empty; or it is `NotJson`, and the text is not JSON. While the rest of
-- the text has an error that is not yet found, both lists are `None`, and a returned value is not specified.
abbrev pub IsNextMember : Member → Option (List Data) → Option (List Data) → Type 0
IsNextMember (Value v) before behind = before ≡ option_map (λ ds. view v ∷ ds) behind
IsNextMember End before behind = before ≡ Some []
IsNextMember NotJson before behind = before ≡ None

-- `IsFewer member before behind` holds if `behind` is less than `before`, or `member` is not a value. `before` and
-- `behind` are the numbers of tokens that remain before and after the call that returns `member`.
abbrev pub IsFewer : Member → ℕ → ℕ → Type 0
IsFewer (Value v) before behind = behind < before
IsFewer End before behind = ⊤
IsFewer NotJson before behind = ⊤

-- `each_of none f members` lists the value of `f ds i d` for each member `d`, where `ds` are all members and `i` is the
-- index of `d`. It is the first error of these if there is one, and the error `none` if `members` is `None`.
abbrev pub each_of : {B F : Type 0} → F → (List Data → ℕ → Data → Result B F) → Option (List Data) → Result (List B) F
each_of none f members = do
  ds ← or_fault none members
  each (f ds) 0 ds

-- `reported_error none fault behind` is the reported error. It is `fault`, the error of a member, if the remaining
-- members `behind` are JSON; else it is `none`, since the text is not JSON.
abbrev pub reported_error : {F : Type 0} → F → F → Option (List Data) → F
reported_error none fault behind = if is_some behind then fault else none
