-- Defines the JSON value that a reader's tokens begin with, and the value of an object whose opening brace was read.
-- Source: RFC 8259, sections 2 to 7, as the crate `json` parses tokens and the crate `serde_json` converts its values.
use Rattle.std.specs.Prelude.{◌≡◌, ℕ, List, [], ◌∷◌, length, Bool, true, false, Option, Some, None, option_map}
use Rattle.json.specs.Token.{Token}
use Rattle.json.specs.Token as token
use Rattle.json.specs.Json as json
use Rattle.serde_json.specs.Data.{Data, null, boolean, number, string}
use Rattle.serde_json.specs.Read.{number_of, of_json, converted}
use Rattle.serde_json.specs.View.{view}
use Rattle.serde_json.specs.declared.value.Value.{Value}

-- `value_at deep ts` is the value that the tokens `ts` begin with, with the tokens after it; `None` if `ts` begin with
-- no value that `serde_json` accepts and that nests at most `deep` levels.
abbrev pub value_at : ℕ → List Token → Option (Data × List Token)
value_at deep ts = converted of_json (json.value deep ts)

-- `object_at deep ts` is an object with the tokens after it, where `ts` are the tokens after the object's opening
-- brace. It is `None` if `ts` do not complete an object, or if `serde_json` rejects a member or a member nests more
-- than `deep` levels.
abbrev pub object_at : ℕ → List Token → Option (Data × List Token)
object_at deep ts = converted of_json (json.parse_map json.object (json.members (json.value deep) (length ts) ts))

-- `IsGiven given r left` holds if `r` and `given` are both `None`, or `given` has the value of `r` with the tokens
-- `left` after it.
abbrev pub IsGiven : Option (Data × List Token) → Option Value → List Token → Type 0
IsGiven given None left = given ≡ None
IsGiven given (Some v) left = given ≡ Some (view v, left)

-- `scalar t` is the value that the token `t` alone denotes: a string, a number, a boolean or `null`; `None` if `t` is
-- another token, or a number too large for a double.
abbrev pub scalar : Token → Option Data
scalar token.begin_object = None
scalar token.end_object = None
scalar token.begin_array = None
scalar token.end_array = None
scalar (token.key s) = None
scalar (token.string s) = Some (string s)
scalar (token.number s) = option_map number (number_of s)
scalar (token.boolean b) = Some (boolean b)
scalar token.null = Some null
scalar token.bad = None

-- `is_array_start t` tests whether `t` is the opening bracket of an array.
abbrev pub is_array_start : Token → Bool
is_array_start token.begin_object = false
is_array_start token.end_object = false
is_array_start token.begin_array = true
is_array_start token.end_array = false
is_array_start (token.key s) = false
is_array_start (token.string s) = false
is_array_start (token.number s) = false
is_array_start (token.boolean b) = false
is_array_start token.null = false
is_array_start token.bad = false

-- `is_object_start t` tests whether `t` is the opening brace of an object.
abbrev pub is_object_start : Token → Bool
is_object_start token.begin_object = true
is_object_start token.end_object = false
is_object_start token.begin_array = false
is_object_start token.end_array = false
is_object_start (token.key s) = false
is_object_start (token.string s) = false
is_object_start (token.number s) = false
is_object_start (token.boolean b) = false
is_object_start token.null = false
is_object_start token.bad = false
