-- What JSON writes has no line feed, and each line of a log one, at its end.
use Rattle.std.proofs.Common.{◌≡◌, ◌∙◌, ◌+◌, ◌/◌, ◌%◌, ℕ, zero, suc, pos, negsuc, Bool, true, false, cond, ◌||◌, ◌==◌}
use Rattle.std.proofs.Common.{List, [], ◌∷◌, ◌++◌, drop, Option, Some, None, Ok, Err, refl, sym, ap, ap₂, arith, inl, inr, ne_eqb, eqb-true, ltb-false}
use Rattle.std.proofs.Common.{append_assoc, option_and_then, subst, ◌⊎◌}
use Rattle.std.specs.Prelude.{codes, decimal, nat_lt, nat_le, if◌then◌else◌, length}
use Rattle.std.specs.Char.{digit_char}
use Rattle.std.specs.Fmt.{digit_glyph, digits, digits_onto}
use Rattle.std.specs.List.{list_any}
use Rattle.std.proofs.lemmas.Bool.{false≢true, true≢false}
use Rattle.std.proofs.lemmas.List.Folds.{list_any-append}
use Rattle.json.specs.Print.{escape, escape_byte, escape_letter, quoted}
use Rattle.json_words.specs.Json.{json_of, text_at}
use Rattle.serde_json.specs.Data.{unsigned, negative, float, Data, null, boolean, number, string, array, object}
use Rattle.serde_json.specs.Data.{Items, no_items, item, Members, no_members, member}
use Rattle.serde_json.specs.Find.{as_str, get}
use Rattle.serde_json.specs.Written.{comma_if, compact_text, items_text, members_text}
use Rattle.http.specs.declared.status.StatusCode.{StatusCode}
use Rattle.http_service.specs.Routes.{Asked, route_stated}
use Rattle.http_replies.specs.site.Inputs.{Input}
use Rattle.http_replies.specs.site.Inputs as input
use Rattle.http_service.specs.LogLines.{decision_tail, head_text, inner_text, IsLogLine, IsUndone, log_line, made_tail}
use Rattle.http_service.specs.LogLines.{member_text, members_text as asked_text, name_text, named_text, object_text, plain_tail}
use Rattle.http_service.specs.LogLines.{stamp_tail, status_text, string_or_null, tail_of, text_of, uid_text, unread_line}
use Rattle.http_service.specs.OneLine.{HasNoLineFeed, IsOneLine, is_line_feed}

-- ---- pieces

pub joined : (a b : List ℕ) → HasNoLineFeed a → HasNoLineFeed b → HasNoLineFeed (a ++ b)
joined a b f g = list_any-append is_line_feed a b ∙ ap₂ (λ (x y : Bool). x || y) f g

pub first : (x : ℕ) (xs : List ℕ) → (x == 10) ≡ false → HasNoLineFeed xs → HasNoLineFeed (x ∷ xs)
first x xs f g = ap₂ (λ (a b : Bool). a || b) f g

behind : (a b : Bool) → (a || b) ≡ false → b ≡ false
behind true b h = absurd (true≢false h)
behind false b h = h

pub dropped : (bytes : List ℕ) → HasNoLineFeed bytes → HasNoLineFeed (drop 1 bytes)
dropped [] h = h
dropped (x ∷ xs) h = behind (x == 10) (list_any is_line_feed xs) h

-- ---- numbers

glyph_at : (small : Bool) (d : ℕ) → ((cond small (48 + d) (87 + d)) == 10) ≡ false
glyph_at true d = ne_eqb (48 + d) 10 (λ e. omega (arith, e))
glyph_at false d = ne_eqb (87 + d) 10 (λ e. omega (arith, e))

onto_at : (last : Bool) (d : ℕ) (acc more : List ℕ) → HasNoLineFeed (d ∷ acc) → HasNoLineFeed more
    → HasNoLineFeed (cond last (d ∷ acc) more)
onto_at true d acc more f g = f
onto_at false d acc more f g = g

onto : (k n : ℕ) (acc : List ℕ) → HasNoLineFeed acc → HasNoLineFeed (digits_onto k 10 false n acc)
onto zero n acc h = h
onto (suc k) n acc h =
    let d = digit_glyph false (n % 10) in
    let here = first d acc (glyph_at (nat_lt (n % 10) 10) (n % 10)) h in
    onto_at (n / 10 == 0) d acc (digits_onto k 10 false (n / 10) (d ∷ acc)) here (onto k (n / 10) (d ∷ acc) here)

pub decimal_free : (n : ℕ) → HasNoLineFeed (decimal n)
unfolding digits
decimal_free n = onto 64 n [] refl

-- ---- strings

pick : (a b c d e f : Bool) (x : ℕ) → (a ≡ true → (x == 10) ≡ false)
    → ((cond a x (cond b 98 (cond c 102 (cond d 110 (cond e 114 (cond f 116 0)))))) == 10) ≡ false
pick true b c d e f x h = h refl
pick false true c d e f x h = refl
pick false false true d e f x h = refl
pick false false false true e f x h = refl
pick false false false false true f x h = refl
pick false false false false false true x h = refl
pick false false false false false false x h = refl

quote_is_none : (x : ℕ) (a b : Bool) → (x == 34) ≡ a → (x == 92) ≡ b → (a || b) ≡ true → (x == 10) ≡ false
quote_is_none x true b e f h = ne_eqb x 10 (λ g. absurd (omega (arith, eqb-true x 34 e, g)))
quote_is_none x false true e f h = ne_eqb x 10 (λ g. absurd (omega (arith, eqb-true x 92 f, g)))
quote_is_none x false false e f h = absurd (false≢true h)

letter_free : (x : ℕ) → (escape_letter x == 10) ≡ false
letter_free x = pick ((x == 34) || (x == 92)) (x == 8) (x == 12) (x == 10) (x == 13) (x == 9) x
    (quote_is_none x (x == 34) (x == 92) refl refl)

digit_free : (d : ℕ) → (digit_char d == 10) ≡ false
digit_free d = glyph_at (nat_lt d 10) d

byte_at : (x : ℕ) (short low : Bool) → nat_lt x 32 ≡ low → HasNoLineFeed (cond short (92 ∷ escape_letter x ∷ [])
    (cond low (92 ∷ 117 ∷ 48 ∷ 48 ∷ digit_char (x / 16) ∷ digit_char (x % 16) ∷ []) (x ∷ [])))
byte_at x true low e = first (escape_letter x) [] (letter_free x) refl
byte_at x false true e =
    first (digit_char (x / 16)) (digit_char (x % 16) ∷ []) (digit_free (x / 16)) (first (digit_char (x % 16)) [] (digit_free (x % 16)) refl)
byte_at x false false e = first x [] (ne_eqb x 10 (λ f. absurd (omega (arith, ltb-false x 32 e, f)))) refl

escape_free : (s : List ℕ) → HasNoLineFeed (escape s)
unfolding escape_byte
escape_free [] = refl
escape_free (x ∷ xs) = joined (escape_byte x) (escape xs) (byte_at x (nat_lt 0 (escape_letter x)) (nat_lt x 32) refl) (escape_free xs)

pub quoted_free : (s : List ℕ) → HasNoLineFeed (quoted s)
quoted_free s = joined (escape s) (34 ∷ []) (escape_free s) refl

-- ---- values

comma_free : (later : Bool) → HasNoLineFeed (comma_if later)
comma_free true = refl
comma_free false = refl

mutual
  pub compact_free : (d : Data) → HasNoLineFeed (compact_text d)
  compact_free null = refl
  compact_free (boolean true) = refl
  compact_free (boolean false) = refl
  compact_free (number (unsigned n)) = decimal_free n
  compact_free (number (negative (pos n))) = decimal_free n
  compact_free (number (negative (negsuc n))) = decimal_free (suc n)
  compact_free (number (float x)) = refl
  compact_free (string s) = quoted_free s
  compact_free (array ds) = items_free false ds
  compact_free (object ms) = members_free false ms

  items_free : (later : Bool) (ds : Items) → HasNoLineFeed (items_text later ds)
  items_free later no_items = refl
  items_free later (item d ds) = joined (comma_if later) (compact_text d ++ items_text true ds) (comma_free later)
      (joined (compact_text d) (items_text true ds) (compact_free d) (items_free true ds))

  members_free : (later : Bool) (ms : Members) → HasNoLineFeed (members_text later ms)
  members_free later no_members = refl
  members_free later (member k d ms) = joined (comma_if later) (quoted k ++ 58 ∷ (compact_text d ++ members_text true ms)) (comma_free later)
      (joined (quoted k) (58 ∷ (compact_text d ++ members_text true ms)) (quoted_free k)
      (joined (compact_text d) (members_text true ms) (compact_free d) (members_free true ms)))

-- ---- parts of a line

text_free : (o : Option (List ℕ)) → HasNoLineFeed (string_or_null o)
text_free (Some text) = quoted_free text
text_free None = refl

pub head_free : (method target : Option (List ℕ)) → HasNoLineFeed (head_text method target)
head_free method target =
    joined (codes "{\"method\":" ++ string_or_null method ++ codes ",\"target\":") (string_or_null target)
    (joined (codes "{\"method\":" ++ string_or_null method) (codes ",\"target\":")
    (joined (codes "{\"method\":") (string_or_null method) refl (text_free method)) refl) (text_free target)

status_free : (status : StatusCode) → HasNoLineFeed (status_text status)
status_free status = joined (codes ",\"status\":") (decimal status) refl (decimal_free status)

uid_free : (type id : Option (List ℕ)) → HasNoLineFeed (uid_text type id)
uid_free (Some type) (Some id) =
    joined (codes "{\"id\":" ++ quoted id ++ codes ",\"type\":" ++ quoted type) (codes "}")
    (joined (codes "{\"id\":" ++ quoted id ++ codes ",\"type\":") (quoted type)
    (joined (codes "{\"id\":" ++ quoted id) (codes ",\"type\":")
    (joined (codes "{\"id\":") (quoted id) refl (quoted_free id)) refl) (quoted_free type)) refl
uid_free (Some type) None = refl
uid_free None id = refl

object_free : (d : Data) → HasNoLineFeed (object_text d)
object_free d = uid_free (text_at (codes "type") d) (text_at (codes "id") d)

inner_free : (d : Data) (inner : Option Data) → HasNoLineFeed (inner_text d inner)
inner_free d None = object_free d
inner_free d (Some inner) = object_free inner

name_free : (d : Data) (text : Option (List ℕ)) → HasNoLineFeed (name_text d text)
name_free d (Some text) = quoted_free text
name_free d None = inner_free d (get (codes "__entity") d)

named_free : (found : Option Data) → HasNoLineFeed (named_text found)
named_free (Some d) = name_free d (as_str d)
named_free None = refl

member_free : (label key : List ℕ) (json : Option Data) → HasNoLineFeed label → HasNoLineFeed (member_text label key json)
unfolding member_text
member_free label key json h = joined label (named_text (option_and_then (get key) json)) h (named_free (option_and_then (get key) json))

asked_free : (json : Option Data) → HasNoLineFeed (asked_text json)
asked_free json =
    let principal = member_text (codes ",\"principal\":") (codes "principal") json in
    let action = member_text (codes ",\"action\":") (codes "action") json in
    let resource = member_text (codes ",\"resource\":") (codes "resource") json in
    joined (principal ++ action) resource
    (joined principal action (member_free (codes ",\"principal\":") (codes "principal") json refl)
    (member_free (codes ",\"action\":") (codes "action") json refl))
    (member_free (codes ",\"resource\":") (codes "resource") json refl)

-- ---- a whole line

led : (a b : List ℕ) → HasNoLineFeed a → IsOneLine b → IsOneLine (a ++ b)
led a b f (front, is, g) =
    (a ++ front, ap (λ (t : List ℕ). a ++ t) is ∙ sym (append_assoc a front (codes "\n")), joined a front f g)

closed : IsOneLine (codes "}\n")
closed = (codes "}", refl, refl)

pub plain_one : (status : StatusCode) → IsOneLine (plain_tail status)
plain_one status = led (status_text status) (codes "}\n") (status_free status) closed

stamp_at : (short : Bool) (status : StatusCode) (reply : List ℕ) → HasNoLineFeed reply
    → IsOneLine (if short then status_text status ++ codes ",\"stamp\":" ++ reply ++ codes "}\n" else plain_tail status)
stamp_at true status reply h = led (status_text status ++ codes ",\"stamp\":" ++ reply) (codes "}\n")
    (joined (status_text status ++ codes ",\"stamp\":") reply
    (joined (status_text status) (codes ",\"stamp\":") (status_free status) refl) h) closed
stamp_at false status reply h = plain_one status

stamp_one : (status : StatusCode) (reply : List ℕ) → HasNoLineFeed reply → IsOneLine (stamp_tail status reply)
stamp_one status reply h = stamp_at (nat_le (length reply) 128) status reply h

decision_one : (status : StatusCode) (json : Option Data) (reply : List ℕ) → HasNoLineFeed reply → IsOneLine (decision_tail status json reply)
decision_one status json reply h =
    led (status_text status ++ asked_text json ++ codes "," ++ drop 1 reply) (codes "\n")
    (joined (status_text status ++ asked_text json ++ codes ",") (drop 1 reply)
    (joined (status_text status ++ asked_text json) (codes ",")
    (joined (status_text status) (asked_text json) (status_free status) (asked_free json)) refl) (dropped reply h))
    ([], refl, refl)

pub made_one : (i : Input) (status : StatusCode) (reply : List ℕ) → HasNoLineFeed reply → IsOneLine (made_tail i status reply)
made_one (input.Authorize body) status reply h = decision_one status (json_of body) reply h
made_one (input.PutPolicy id text) status reply h = stamp_one status reply h
made_one (input.DeletePolicy id) status reply h = stamp_one status reply h
made_one (input.PutEntity body) status reply h = stamp_one status reply h
made_one (input.DeleteEntity body) status reply h = stamp_one status reply h
made_one _ status reply h = plain_one status

one_of : (made : Bool) (a b : List ℕ) → IsOneLine a → IsOneLine b → IsOneLine (if made then a else b)
one_of true a b f g = f
one_of false a b f g = g

pub input_one : (i : Input) (status : StatusCode) (reply : List ℕ) → IsOneLine (made_tail i status reply)
    → IsOneLine (tail_of (Ok i) status reply)
input_one i status reply h = one_of (status == 200) (made_tail i status reply) (plain_tail status) h (plain_one status)

tail_one : (asked : Asked) (status : StatusCode) (reply : List ℕ) → HasNoLineFeed reply → IsOneLine (tail_of asked status reply)
tail_one (Ok i) status reply h = input_one i status reply (made_one i status reply h)
tail_one (Err s) status reply h = plain_one status

pub unread_one : (status : StatusCode) → IsOneLine (unread_line status)
unread_one status = led (head_text None None) (plain_tail status) (head_free None None) (plain_one status)

same_line : (line other : List ℕ) → line ≡ other → IsOneLine other → IsOneLine line
same_line line other e (front, is, h) = (front, e ∙ is, h)

pub log_line_one : (method target body : List ℕ) (status : StatusCode) (reply line : List ℕ)
    → IsOneLine (tail_of (route_stated method target body) status reply)
    → line ≡ log_line method target body status reply → IsOneLine line
log_line_one method target body status reply line h is = same_line line _ is
    (led (head_text (text_of method) (text_of target)) (tail_of (route_stated method target body) status reply)
    (head_free (text_of method) (text_of target)) h)

pub line_of_free : (method target body : List ℕ) (status : StatusCode) (reply line : List ℕ) → HasNoLineFeed reply
    → line ≡ log_line method target body status reply → IsOneLine line
line_of_free method target body status reply line h is =
    log_line_one method target body status reply line (tail_one (route_stated method target body) status reply h) is

pub line_unread : (status : StatusCode) (line : List ℕ) → line ≡ unread_line status → IsOneLine line
line_unread status line is = same_line line (unread_line status) is (unread_one status)

-- ---- a decision that was made

other_status : (s : ℕ) → s ≡ 200 → s ≡ 503 → ⊥
other_status s e f = omega (arith, e, f)

decided_at : (asked : Asked) (method target body reply line : List ℕ) → asked ≡ Ok (input.Authorize body)
    → (line ≡ head_text (text_of method) (text_of target) ++ tail_of asked 200 reply)
    ⊎ ((line ≡ unread_line 200) × IsUndone asked 200 reply)
    → line ≡ head_text (text_of method) (text_of target) ++ decision_tail 200 (json_of body) reply
decided_at asked method target body reply line is (inl e) =
    e ∙ ap (λ (a : Asked). head_text (text_of method) (text_of target) ++ tail_of a 200 reply) is
decided_at asked method target body reply line is (inr (e, undone)) =
    absurd (other_status 200 refl (subst (λ (a : Asked). IsUndone a 200 reply) is undone).0)

pub decision_tells : (method target body reply line : List ℕ) → route_stated method target body ≡ Ok (input.Authorize body)
    → IsLogLine method target body 200 reply line
    → line ≡ head_text (text_of method) (text_of target) ++ decision_tail 200 (json_of body) reply
decision_tells method target body reply line is h =
    decided_at (route_stated method target body) method target body reply line is h
