-- The value that a whole text is: no token stands behind it.
use Rattle.std.proofs.Common.{◌≡◌, ◌≤◌, ℕ, List, [], ◌∷◌, Option, Some, None, IfSome, Result, Ok, Err, IfOk, option_map, option_and_then, refl, sym, ap, ◌∙◌}
use Rattle.std.specs.Str.{IsUtf8}
use Rattle.json.specs.Token.{Token}
use Rattle.json.specs.Json as json
use Rattle.json.specs.Lex.{tokens}
use Rattle.serde_json.specs.Data.{Data, depth}
use Rattle.serde_json.specs.Read.{of_json, converted, max_depth, read}
use Rattle.serde_json.specs.View.{view}
use Rattle.serde_json.specs.declared.value.Value.{Value}
use Rattle.serde_json.proofs.Nesting.{depth-read}
use Rattle.json_words.specs.Json.{json_of}
use Rattle.json_words.proofs.JsonLemmas.{json_of-text}
use Rattle.json_words.specs.Arrays.{whole}
use Rattle.json_words.specs.inner.Given.{value_at, IsGiven}

alone : (x : Option Data) → x ≡ whole (option_map (λ b. (b, [])) x)
alone None = refl
alone (Some d) = refl

followed : (t : Token) (ts : List Token) (x : Option Data) → None ≡ whole (option_map (λ b. (b, t ∷ ts)) x)
followed t ts None = refl
followed t ts (Some d) = refl

last : (o : Option (json.Json × List Token)) → option_and_then of_json (option_and_then (λ p. json.if_last p.0 p.1) o) ≡ whole (converted of_json o)
last None = refl
last (Some (j, [])) = alone (of_json j)
last (Some (j, t ∷ ts)) = followed t ts (of_json j)

pub read_is : (text : List ℕ) → read text ≡ whole (value_at max_depth (tokens text))
read_is text = last (json.value max_depth (tokens text))

pub ended : (text : List ℕ) (o : Option Value) (left : List Token) → IsGiven (value_at max_depth (tokens text)) o left → left ≡ [] → option_map view o ≡ read text
ended text None left e end = sym (read_is text ∙ ap whole e)
ended text (Some v) left e end = sym (read_is text ∙ ap whole (e ∙ ap (λ ts. Some (view v, ts)) end))

pub goes_on : (text : List ℕ) (o : Option Value) (left : List Token) (t : Token) (ts : List Token) → IsGiven (value_at max_depth (tokens text)) o left → left ≡ t ∷ ts → None ≡ read text
goes_on text None left t ts e more = sym (read_is text ∙ ap whole e)
goes_on text (Some v) left t ts e more = sym (read_is text ∙ ap whole (e ∙ ap (λ rest. Some (view v, rest)) more))

pub nests : (text : List ℕ) (o : Option Value) → option_map view o ≡ read text → IfSome o (λ v. depth (view v) ≤ max_depth)
nests text None e = tt
nests text (Some v) e = depth-read text (view v) (sym e)

-- what a text is, bytes are that are that text
pub of_bytes : {E : Type 0} (bytes text : List ℕ) (r : Result (Option Value) E) → IsUtf8 bytes → text ≡ bytes → IfOk r (λ o. option_map view o ≡ read text) → IfOk r (λ o. option_map view o ≡ json_of bytes)
of_bytes bytes text (Ok o) utf8 same e = e ∙ ap read same ∙ sym (json_of-text bytes utf8)
of_bytes bytes text (Err f) utf8 same e = tt
