-- A text has no more tokens than bytes.
use Rattle.std.proofs.Common.{◌≡◌, ◌≤◌, ℕ, suc, List, [], ◌∷◌, length, Bool, true, false, true≢false, ◌+◌, refl, sym, arith}
use Rattle.json.specs.Token.{Token}
use Rattle.json.specs.Lex.{Lexeme, Mode, Class, class, Place, lex_byte, lex, begins_colon, may_begin, may_close, if_allowed, place_token, punctuate, tokens}

-- ---- lexemes

lexed_byte : (m : Mode) (c : Class) (x : ℕ) (xs : List ℕ) (k : Mode → List Lexeme) → ((next : Mode) → length (k next) ≤ length xs) → length (lex_byte m c x xs k) ≤ suc (length xs)
lexed_byte Mode.between Class.quote x xs k le = omega (arith, le Mode.in_string)
lexed_byte Mode.between Class.backslash x xs k le = omega (arith, le Mode.in_word)
lexed_byte Mode.between Class.operator x xs k le = omega (arith, le Mode.between)
lexed_byte Mode.between Class.space x xs k le = omega (arith, le Mode.between)
lexed_byte Mode.between Class.other x xs k le = omega (arith, le Mode.in_word)
lexed_byte Mode.in_word Class.quote x xs k le = omega (arith, le Mode.in_word)
lexed_byte Mode.in_word Class.backslash x xs k le = omega (arith, le Mode.in_word)
lexed_byte Mode.in_word Class.operator x xs k le = omega (arith, le Mode.between)
lexed_byte Mode.in_word Class.space x xs k le = omega (arith, le Mode.between)
lexed_byte Mode.in_word Class.other x xs k le = omega (arith, le Mode.in_word)
lexed_byte Mode.in_string Class.quote x xs k le = omega (arith, le Mode.between)
lexed_byte Mode.in_string Class.backslash x xs k le = omega (arith, le Mode.in_escape)
lexed_byte Mode.in_string Class.operator x xs k le = omega (arith, le Mode.in_string)
lexed_byte Mode.in_string Class.space x xs k le = omega (arith, le Mode.in_string)
lexed_byte Mode.in_string Class.other x xs k le = omega (arith, le Mode.in_string)
lexed_byte Mode.in_escape c x xs k le = omega (arith, le Mode.in_string)

lexed : (m : Mode) (xs : List ℕ) → length (lex m xs) ≤ length xs
unfolding lex
lexed m [] = omega arith
lexed m (x ∷ xs) = lexed_byte m (class x) x xs (λ next. lex next xs) (λ next. lexed next xs)

-- ---- tokens: a bad one may stand behind the last comma or key

allowed : (a : Bool) (t : Token) (k : Place → List Token) (next : Place) (n : ℕ) → length (k next) ≤ n → length (if_allowed a t k next) ≤ suc n
allowed true t k next n le = omega (arith, le)
allowed false t k next n le = omega arith

-- what follows a token that stands before a colon, or not
abbrev Follows : Bool → (Place → List Token) → ℕ → Type 0
Follows colon k n = (length (k Place.fresh) ≤ n) × (length (k Place.after_value) ≤ n) × (colon ≡ true → length (k Place.after_key) ≤ n)

placed : (p : Place) (t : Token) (colon : Bool) (k : Place → List Token) (n : ℕ) → Follows colon k n → length (place_token p t colon k) ≤ suc n
placed p Token.begin_object colon k n le = allowed (may_begin p) Token.begin_object k Place.fresh n le.0
placed p Token.end_object colon k n le = allowed (may_close p) Token.end_object k Place.after_value n le.1
placed p Token.begin_array colon k n le = allowed (may_begin p) Token.begin_array k Place.fresh n le.0
placed p Token.end_array colon k n le = allowed (may_close p) Token.end_array k Place.after_value n le.1
placed p (Token.key s) colon k n le = omega arith
placed p (Token.string s) true k n le = allowed (may_begin p) (Token.key s) k Place.after_key n (le.2 refl)
placed p (Token.string s) false k n le = allowed (may_begin p) (Token.string s) k Place.after_value n le.1
placed p (Token.number s) colon k n le = allowed (may_begin p) (Token.number s) k Place.after_value n le.1
placed p (Token.boolean b) colon k n le = allowed (may_begin p) (Token.boolean b) k Place.after_value n le.1
placed p Token.null colon k n le = allowed (may_begin p) Token.null k Place.after_value n le.1
placed p Token.bad colon k n le = omega arith

abbrev more : Place → ℕ
more Place.fresh = 0
more Place.after_value = 0
more Place.after_comma = 1
more Place.after_key = 1

abbrev Counted : List Lexeme → Type 0
Counted ls = ((p : Place) → length (punctuate p ls) ≤ more p + length ls) × (begins_colon ls ≡ true → length (punctuate Place.after_key ls) ≤ length ls)

follows : (ls : List Lexeme) → Counted ls → Follows (begins_colon ls) (λ next. punctuate next ls) (length ls)
follows ls le = (omega (arith, le.0 Place.fresh), omega (arith, le.0 Place.after_value), le.1)

at_end : (p : Place) → length (punctuate p []) ≤ more p + 0
unfolding punctuate
at_end Place.fresh = omega arith
at_end Place.after_value = omega arith
at_end Place.after_comma = omega arith
at_end Place.after_key = omega arith

at_token : (p : Place) (t : Token) (ls : List Lexeme) → Counted ls → length (punctuate p (Lexeme.token t ∷ ls)) ≤ more p + suc (length ls)
unfolding punctuate
at_token Place.fresh t ls le = omega (arith, placed Place.fresh t (begins_colon ls) (λ next. punctuate next ls) (length ls) (follows ls le))
at_token Place.after_value t ls le = omega (arith, placed Place.after_value t (begins_colon ls) (λ next. punctuate next ls) (length ls) (follows ls le))
at_token Place.after_comma t ls le = omega (arith, placed Place.after_comma t (begins_colon ls) (λ next. punctuate next ls) (length ls) (follows ls le))
at_token Place.after_key t ls le = omega (arith, placed Place.after_key t (begins_colon ls) (λ next. punctuate next ls) (length ls) (follows ls le))

at_comma : (p : Place) (ls : List Lexeme) → Counted ls → length (punctuate p (Lexeme.comma ∷ ls)) ≤ more p + suc (length ls)
unfolding punctuate
at_comma Place.fresh ls le = omega arith
at_comma Place.after_value ls le = omega (arith, le.0 Place.after_comma)
at_comma Place.after_comma ls le = omega arith
at_comma Place.after_key ls le = omega arith

at_colon : (p : Place) (ls : List Lexeme) → Counted ls → length (punctuate p (Lexeme.colon ∷ ls)) ≤ suc (length ls)
unfolding punctuate
at_colon Place.fresh ls le = omega arith
at_colon Place.after_value ls le = omega arith
at_colon Place.after_comma ls le = omega arith
at_colon Place.after_key ls le = omega (arith, le.0 Place.fresh)

counted : (ls : List Lexeme) → Counted ls
counted [] = (at_end, λ e. absurd (true≢false (sym e)))
counted (Lexeme.token t ∷ ls) = let rest = counted ls in (λ p. at_token p t ls rest, λ e. absurd (true≢false (sym e)))
counted (Lexeme.comma ∷ ls) = let rest = counted ls in (λ p. at_comma p ls rest, λ e. absurd (true≢false (sym e)))
counted (Lexeme.colon ∷ ls) = let rest = counted ls in (λ p. omega (arith, at_colon p ls rest), λ e. at_colon Place.after_key ls rest)

pub at_most : (text : List ℕ) → length (tokens text) ≤ length text
at_most text = omega (arith, (counted (lex Mode.between text)).0 Place.fresh, lexed Mode.between text)
