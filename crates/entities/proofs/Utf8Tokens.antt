-- The texts of the tokens of JSON are UTF-8 where its bytes are.
use Rattle.std.proofs.Common.{◌≡◌, ℕ, ◌+◌, ◌-◌, Bool, true, false, cond, ◌&&◌, ◌==◌, nat_eq, eqb-true}
use Rattle.std.proofs.Common.{List, [], ◌∷◌, ◌++◌, length, take, drop, Option, Some, None}
use Rattle.std.proofs.Common.{refl, sym, subst, arith, append_assoc}
use Rattle.std.specs.Bool.{⊤}
use Rattle.std.specs.List.{AllByRecursion, starts_with}
use Rattle.std.specs.Str.{IsUtf8}
use Rattle.json.specs.Lex as lexing
use Rattle.json.specs.Lex.{Lexeme, Class, Mode, Place, tokens, lex, punctuate}
use Rattle.json.specs.Text.{content, plain}
use Rattle.json.specs.Token as token
use Rattle.json.specs.Word.{word, number_before, literal, after_number, ends_word, head, is_operator, is_space}
use Rattle.json.specs.Ascii as ascii
use Rattle.serde_json.specs.Data.{null, boolean, number, string}
use Rattle.entities.proofs.Utf8Strings.{some, behind, between, plain_utf8}

-- ---- tokens

abbrev pub TokenUtf8 : token.Token → Type 0
TokenUtf8 token.begin_object = ⊤
TokenUtf8 token.end_object = ⊤
TokenUtf8 token.begin_array = ⊤
TokenUtf8 token.end_array = ⊤
TokenUtf8 (token.key s) = IsUtf8 s
TokenUtf8 (token.string s) = IsUtf8 s
TokenUtf8 (token.number s) = ⊤
TokenUtf8 (token.boolean b) = ⊤
TokenUtf8 token.null = ⊤
TokenUtf8 token.bad = ⊤

abbrev pub LexemeUtf8 : Lexeme → Type 0
LexemeUtf8 (lexing.token t) = TokenUtf8 t
LexemeUtf8 lexing.comma = ⊤
LexemeUtf8 lexing.colon = ⊤

abbrev pub TokensUtf8 : List token.Token → Type 0
TokensUtf8 ts = AllByRecursion TokenUtf8 ts

abbrev pub LexemesUtf8 : List Lexeme → Type 0
LexemesUtf8 ls = AllByRecursion LexemeUtf8 ls

string_token_utf8 : (o : Option (List ℕ)) → ((s : List ℕ) → o ≡ some s → IsUtf8 s) → TokenUtf8 (lexing.string_token o)
string_token_utf8 None h = tt
string_token_utf8 (Some s) h = h s refl

chosen_utf8 : (b : Bool) (t u : token.Token) → TokenUtf8 t → TokenUtf8 u → TokenUtf8 (cond b t u)
chosen_utf8 true t u h k = h
chosen_utf8 false t u h k = k

number_utf8 : (t : List ℕ) (o : Option (List ℕ)) → TokenUtf8 (number_before t o)
number_utf8 t None = tt
number_utf8 t (Some rest) =
    chosen_utf8 (ends_word rest) (token.number (take (length t - length rest) t)) token.bad tt tt

literal_utf8 : (name : List ℕ) (one : token.Token) (t : List ℕ) → TokenUtf8 one → TokenUtf8 (literal name one t)
literal_utf8 name one t h =
    chosen_utf8 (starts_with nat_eq t name && ends_word (drop (length name) t)) one token.bad h tt

word_utf8 : (t : List ℕ) → TokenUtf8 (word t)
unfolding word
word_utf8 t =
    let when_true = literal ascii.true_text (token.boolean true) t in
    let when_false = literal ascii.false_text (token.boolean false) t in
    let when_null = literal ascii.null_text token.null t in
    let other = number_before t (after_number t) in
    let is_false = head t == ascii.lower_f in
    let is_null = head t == ascii.lower_n in
    let last = cond is_null when_null other in
    let first_utf8 = literal_utf8 ascii.true_text (token.boolean true) t tt in
    let second_utf8 = literal_utf8 ascii.false_text (token.boolean false) t tt in
    let third_utf8 = literal_utf8 ascii.null_text token.null t tt in
    let last_utf8 = chosen_utf8 is_null when_null other third_utf8 (number_utf8 t (after_number t)) in
    let rest_utf8 = chosen_utf8 is_false when_false last second_utf8 last_utf8 in
    chosen_utf8 (head t == ascii.lower_t) when_true (cond is_false when_false last) first_utf8 rest_utf8

-- no operator has a text
operator_utf8 : (x : ℕ) → LexemeUtf8 (lexing.operator_lexeme x)
operator_utf8 x = by (x == 123) (x == 125) (x == 91) (x == 93) (x == 44)
  where
    by : (a b c d e : Bool) → LexemeUtf8
        (cond a (lexing.token token.begin_object) (cond b (lexing.token token.end_object)
        (cond c (lexing.token token.begin_array) (cond d (lexing.token token.end_array)
        (cond e lexing.comma lexing.colon)))))
    by true b c d e = tt
    by false true c d e = tt
    by false false true d e = tt
    by false false false true e = tt
    by false false false false true = tt
    by false false false false false = tt

-- behind a quote stands UTF-8
abbrev pub AtClass : List ℕ → Class → Type 0
AtClass xs lexing.quote = IsUtf8 xs
AtClass xs lexing.backslash = ⊤
AtClass xs lexing.operator = ⊤
AtClass xs lexing.space = ⊤
AtClass xs lexing.other = ⊤

at_class : (x : ℕ) (xs : List ℕ) → (x ≡ 34 → IsUtf8 xs) → AtClass xs (lexing.class x)
at_class x xs h = by (x == 34) (x == 92) (is_operator x) (is_space x) (λ e. h (eqb-true x 34 e))
  where
    by : (a b c d : Bool) → (a ≡ true → IsUtf8 xs)
        → AtClass xs (cond a lexing.quote (cond b lexing.backslash
        (cond c lexing.operator (cond d lexing.space lexing.other))))
    by true b c d k = k refl
    by false true c d k = tt
    by false false true d k = tt
    by false false false true k = tt
    by false false false false k = tt

byte_utf8 : (m : Mode) (c : Class) (x : ℕ) (xs : List ℕ) (k : Mode → List Lexeme) → AtClass xs c
    → ((n : Mode) → LexemesUtf8 (k n)) → LexemesUtf8 (lexing.lex_byte m c x xs k)
byte_utf8 lexing.between lexing.quote x xs k at more =
    (string_token_utf8 (content plain xs) (λ s e. plain_utf8 xs [] s at e), more lexing.in_string)
byte_utf8 lexing.between lexing.backslash x xs k at more = (tt, more lexing.in_word)
byte_utf8 lexing.between lexing.operator x xs k at more = (operator_utf8 x, more lexing.between)
byte_utf8 lexing.between lexing.space x xs k at more = more lexing.between
byte_utf8 lexing.between lexing.other x xs k at more = (word_utf8 (x ∷ xs), more lexing.in_word)
byte_utf8 lexing.in_word lexing.quote x xs k at more = more lexing.in_word
byte_utf8 lexing.in_word lexing.backslash x xs k at more = more lexing.in_word
byte_utf8 lexing.in_word lexing.operator x xs k at more = (operator_utf8 x, more lexing.between)
byte_utf8 lexing.in_word lexing.space x xs k at more = more lexing.between
byte_utf8 lexing.in_word lexing.other x xs k at more = more lexing.in_word
byte_utf8 lexing.in_string lexing.quote x xs k at more = more lexing.between
byte_utf8 lexing.in_string lexing.backslash x xs k at more = more lexing.in_escape
byte_utf8 lexing.in_string lexing.operator x xs k at more = more lexing.in_string
byte_utf8 lexing.in_string lexing.space x xs k at more = more lexing.in_string
byte_utf8 lexing.in_string lexing.other x xs k at more = more lexing.in_string
byte_utf8 lexing.in_escape c x xs k at more = more lexing.in_string

-- fs is what was passed
lex_utf8 : (m : Mode) (fs xs : List ℕ) → IsUtf8 (fs ++ xs) → LexemesUtf8 (lex m xs)
unfolding lex
lex_utf8 m fs [] u = tt
lex_utf8 m fs (x ∷ xs) u =
    let at = at_class x xs (λ is. behind fs x xs (omega arith) u) in
    let more = subst IsUtf8 (sym (append_assoc fs (x ∷ []) xs)) u in
    byte_utf8 m (lexing.class x) x xs (λ next. lex next xs) at (λ next. lex_utf8 next (fs ++ x ∷ []) xs more)

allowed_utf8 : (b : Bool) (t : token.Token) (k : Place → List token.Token) (next : Place) → TokenUtf8 t
    → TokensUtf8 (k next) → TokensUtf8 (lexing.if_allowed b t k next)
allowed_utf8 true t k next h more = (h, more)
allowed_utf8 false t k next h more = (tt, tt)

place_utf8 : (p : Place) (t : token.Token) (b : Bool) (k : Place → List token.Token) → TokenUtf8 t
    → ((next : Place) → TokensUtf8 (k next)) → TokensUtf8 (lexing.place_token p t b k)
place_utf8 p token.begin_object b k h more = allowed_utf8 _ token.begin_object k lexing.fresh h (more _)
place_utf8 p token.end_object b k h more = allowed_utf8 _ token.end_object k lexing.after_value h (more _)
place_utf8 p token.begin_array b k h more = allowed_utf8 _ token.begin_array k lexing.fresh h (more _)
place_utf8 p token.end_array b k h more = allowed_utf8 _ token.end_array k lexing.after_value h (more _)
place_utf8 p (token.key s) b k h more = (tt, tt)
place_utf8 p (token.string s) true k h more = allowed_utf8 _ (token.key s) k lexing.after_key h (more _)
place_utf8 p (token.string s) false k h more = allowed_utf8 _ (token.string s) k lexing.after_value h (more _)
place_utf8 p (token.number s) b k h more = allowed_utf8 _ (token.number s) k lexing.after_value h (more _)
place_utf8 p (token.boolean v) b k h more = allowed_utf8 _ (token.boolean v) k lexing.after_value h (more _)
place_utf8 p token.null b k h more = allowed_utf8 _ token.null k lexing.after_value h (more _)
place_utf8 p token.bad b k h more = (tt, tt)

punctuate_utf8 : (p : Place) (ls : List Lexeme) → LexemesUtf8 ls → TokensUtf8 (punctuate p ls)
unfolding punctuate
punctuate_utf8 lexing.fresh [] h = tt
punctuate_utf8 lexing.after_value [] h = tt
punctuate_utf8 lexing.after_comma [] h = (tt, tt)
punctuate_utf8 lexing.after_key [] h = (tt, tt)
punctuate_utf8 lexing.fresh (lexing.token t ∷ ls) h =
    place_utf8 lexing.fresh t _ (λ next. punctuate next ls) h.0 (λ next. punctuate_utf8 next ls h.1)
punctuate_utf8 lexing.after_value (lexing.token t ∷ ls) h =
    place_utf8 lexing.after_value t _ (λ next. punctuate next ls) h.0 (λ next. punctuate_utf8 next ls h.1)
punctuate_utf8 lexing.after_comma (lexing.token t ∷ ls) h =
    place_utf8 lexing.after_comma t _ (λ next. punctuate next ls) h.0 (λ next. punctuate_utf8 next ls h.1)
punctuate_utf8 lexing.after_key (lexing.token t ∷ ls) h =
    place_utf8 lexing.after_key t _ (λ next. punctuate next ls) h.0 (λ next. punctuate_utf8 next ls h.1)
punctuate_utf8 lexing.fresh (lexing.comma ∷ ls) h = (tt, tt)
punctuate_utf8 lexing.after_value (lexing.comma ∷ ls) h = punctuate_utf8 lexing.after_comma ls h.1
punctuate_utf8 lexing.after_comma (lexing.comma ∷ ls) h = (tt, tt)
punctuate_utf8 lexing.after_key (lexing.comma ∷ ls) h = (tt, tt)
punctuate_utf8 lexing.fresh (lexing.colon ∷ ls) h = (tt, tt)
punctuate_utf8 lexing.after_value (lexing.colon ∷ ls) h = (tt, tt)
punctuate_utf8 lexing.after_comma (lexing.colon ∷ ls) h = (tt, tt)
punctuate_utf8 lexing.after_key (lexing.colon ∷ ls) h = punctuate_utf8 lexing.fresh ls h.1

pub tokens_utf8 : (bytes : List ℕ) → IsUtf8 bytes → TokensUtf8 (tokens bytes)
tokens_utf8 bytes u = punctuate_utf8 lexing.fresh (lex lexing.between bytes) (lex_utf8 lexing.between [] bytes u)
