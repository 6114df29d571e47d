-- A uid that is written plainly: its tokens, and what they stand for.
use Rattle.std.proofs.Common.{◌≡◌, ◌≢◌, ℕ, suc, ◌+◌, ◌-◌, ◌≤◌, ◌<◌, Bool, true, false, List, [], ◌∷◌, ◌++◌, inl, inr}
use Rattle.std.proofs.Common.{refl, sym, ◌∙◌, ap, subst, arith, length, length-append, take, drop, get_or, map, codes}
use Rattle.std.proofs.Common.{if◌then◌else◌}
use Rattle.std.specs.List.{AllByRecursion}
use Rattle.std.proofs.Math.Nat.{add-sub_cancel_left}
use Rattle.std.proofs.Math.Seq.{take-append_seam}
use Rattle.std.proofs.lemmas.List.{append_assoc, append-nil}
use Rattle.plain.specs.Words.{is_letter, is_digit, is_word_byte, AllAre, run, IsWord, IsIdent, AreIdents, joined_path}
use Rattle.plain.specs.Words.{IsPath}
use Rattle.plain.proofs.Runs.{run_most}
use Rattle.values.specs.declared.entity_uid.EntityUid.{EntityUid}
use Rattle.grammar_desugaring.specs.grammar_syntax.declared.token.TokenKind.TheVariants as k
use Rattle.grammar_desugaring.specs.grammar_syntax.declared.token.Token.{Token}
use Rattle.grammar_desugaring.specs.grammar_syntax.declared.piece.Piece.{Piece}
use Rattle.grammar_desugaring.specs.grammar_syntax.declared.piece.Piece.TheVariants.{Byte}
use Rattle.grammar_desugaring.specs.grammar_syntax.Lexing.{kind_of_word, IsBody, done, itself, has_star, word, quoted, pair}
use Rattle.grammar_desugaring.specs.grammar_syntax.Lexing.{IsLongest, Lex, finish, token, spelling_of}
use Rattle.grammar_desugaring.specs.grammar_syntax.Strings.{bytes_of, IsStringOf}
use Rattle.grammar_parsing.proofs.of_grammar_syntax.FirstByte.{Class, others, class, OfClass, class_of_letter}
use Rattle.grammar_parsing.proofs.of_grammar_syntax.FrontTells.{begins}
use Rattle.grammar_parsing.proofs.of_grammar_syntax.WordKinds.{idents_by_kind}
use Rattle.grammar_parsing.proofs.of_grammar_syntax.Parts.{past}
use Rattle.grammar_desugaring.specs.grammar_syntax.Kinds.{same_kind, only}
use Rattle.grammar_desugaring.specs.grammar_syntax.Lang.{of, one, ◌>>◌, many}
use Rattle.grammar_desugaring.specs.grammar_syntax.Grammar.{identifiers}
use Rattle.grammar_desugaring.specs.Strings.{ValueIsValue}
use Rattle.policy_grammar.specs.Limits.{most_policy_bytes}
use Rattle.policy_grammar.specs.PolicyText.{IsUidText}
use Rattle.policy_grammar.specs.inner.Parts.{IsWrittenPlainly}

-- ---- what the text begins with

colon_stops : is_word_byte 58 ≡ false
unfolding is_word_byte is_letter is_digit
colon_stops = refl

run_stops : (cs rest : List ℕ) → AllAre is_word_byte cs → run is_word_byte (cs ++ 58 ∷ rest) ≡ length cs
run_stops [] rest a = rw colon_stops refl
run_stops (c ∷ cs) rest a = rw (a.0) (ap suc (run_stops cs rest a.1))

-- a word before a colon
word_first : (w rest : List ℕ) → IsWord w → IsLongest (kind_of_word w) w (58 ∷ rest)
word_first [] rest i = absurd i
word_first (c ∷ cs) rest i = record {
  is = word i refl;
  longest = λ j v more t e.
      let b = begins j c (cs ++ 58 ∷ rest) v more t e in
      let o = subst (λ (x : Class). OfClass x j (c ∷ b.tail)) (class_of_letter c i.0) b.is in
      let most = run_most is_word_byte (cs ++ 58 ∷ rest) b.tail more o.0.1 b.rest in
      omega (arith, ap length b.whole, run_stops cs rest i.1);
}

colon_is_other : class 58 ≡ others
unfolding is_letter is_digit
colon_is_other = refl

-- two colons
colons_first : (rest : List ℕ) → IsLongest k.Colons (58 ∷ 58 ∷ []) rest
colons_first rest = record {
  is = pair refl;
  longest = λ j v more t e.
      let b = begins j 58 (58 ∷ rest) v more t e in
      elim (subst (λ (x : Class). OfClass x j (58 ∷ b.tail)) colon_is_other b.is) [
        | inl s ↦ omega (arith, ap length b.whole, s.1)
        | inr p ↦ omega (arith, ap length b.whole, p.1)
      ];
}

abbrev pub Plain : List ℕ → Type 0
Plain id = AllByRecursion (λ b. (b ≢ 34) × (b ≢ 92)) id

abbrev pieces : List ℕ → List Piece
pieces id = map Byte id

plain_body : (id : List ℕ) → Plain id → IsBody (pieces id) id
plain_body [] a = done
plain_body (b ∷ id) a = itself a.0.0 a.0.1 (plain_body id a.1)

no_star : (id : List ℕ) → has_star (pieces id) ≡ false
no_star [] = refl
no_star (b ∷ id) = no_star id

is_well_formed : (id : List ℕ) → id ≡ bytes_of (pieces id)
is_well_formed [] = refl
is_well_formed (b ∷ id) = ap (λ (x : List ℕ). b ∷ x) (is_well_formed id)

abbrev in_quotes : List ℕ → List ℕ
in_quotes id = 34 ∷ (id ++ 34 ∷ [])

-- a string at the text's end
string_last : (id : List ℕ) → Plain id → IsLongest k.Text (in_quotes id) []
string_last id a = record {
  is = quoted (pieces id) id (plain_body id a) refl (sym (ap (λ (b : Bool). if b then k.StarText else k.Text) (no_star id)));
  longest = λ j v more t e. omega (arith, ap length e, length-append (in_quotes id) [], length-append v more);
}

-- ---- where the tokens stand, and what is written there

abbrev word_at : ℕ → List ℕ → Token
word_at at w = record { kind = kind_of_word w; start = at; end = at + length w }

abbrev colons_at : ℕ → Token
colons_at at = record { kind = k.Colons; start = at; end = at + 2 }

left : (text front rest : List ℕ) (at : ℕ) → text ≡ front ++ rest → length front ≡ at → drop at text ≡ rest
left text front rest at e l = ap (λ (m : ℕ). drop m text) (sym l) ∙ (ap (λ (y : List ℕ). drop (length front) y) e ∙ past front rest)

written : (text front w rest : List ℕ) (at : ℕ) → text ≡ front ++ (w ++ rest) → length front ≡ at → take (at + length w - at) (drop at text) ≡ w
written text front w rest at e l =
    ap (λ (n : ℕ). take n (drop at text)) (add-sub_cancel_left at (length w)) ∙ (ap (λ (y : List ℕ). take (length w) y) (left text front (w ++ rest) at e l) ∙ take-append_seam w rest)

ident_kind : (w : List ℕ) → IsIdent w → identifiers (kind_of_word w) ≡ true
ident_kind w i = (idents_by_kind (kind_of_word w) w (word i.0 refl)).1 i

colons_kind : only k.Colons k.Colons ≡ true
unfolding same_kind
colons_kind = refl

text_kind : only k.Text k.Text ≡ true
unfolding same_kind
text_kind = refl

-- ---- the words behind the first, each behind two colons

abbrev behind : List (List ℕ) → List ℕ
behind [] = []
behind (w ∷ more) = 58 ∷ 58 ∷ (w ++ behind more)

path_is : (first : List ℕ) (more : List (List ℕ)) → joined_path first more ≡ first ++ behind more
path_is first [] = sym (append-nil first)
path_is first (w ∷ more) = append_assoc first (58 ∷ 58 ∷ []) (joined_path w more) ∙ ap (λ (x : List ℕ). first ++ 58 ∷ 58 ∷ x) (path_is w more)

-- what comes behind a word begins with a colon
record Colon (text : List ℕ) : Type 0 where
  rest : List ℕ
  is : text ≡ 58 ∷ rest

colon : (more : List (List ℕ)) (rest : List ℕ) → Colon (behind more ++ 58 ∷ rest)
colon [] rest = record { rest = rest; is = refl }
colon (w ∷ more) rest = record { rest = 58 ∷ ((w ++ behind more) ++ 58 ∷ rest); is = refl }

word_there : (w : List ℕ) (more : List (List ℕ)) (rest : List ℕ) → IsWord w → IsLongest (kind_of_word w) w (behind more ++ 58 ∷ rest)
word_there w more rest i = let c = colon more rest in subst (IsLongest (kind_of_word w) w) (sym c.is) (word_first w c.rest i)

-- those words at a place of the text: their tokens
record Words (text : List ℕ) (at : ℕ) (more : List (List ℕ)) (rest : List ℕ) : Type 0 where
  tokens : List Token
  words : List Token
  derived : many (one k.Colons >> of identifiers) tokens words
  spelled : map (spelling_of text) words ≡ more
  lexed : (ts : List Token) (to : ℕ) → Lex (at + length (behind more)) rest ts to [] → Lex at (behind more ++ rest) (tokens ++ ts) to []

words_at : (text front : List ℕ) (at : ℕ) (more : List (List ℕ)) (rest : List ℕ) → AreIdents more → text ≡ front ++ (behind more ++ 58 ∷ rest) → length front ≡ at →
    Words text at more (58 ∷ rest)
words_at text front at [] rest i e l = record {
  tokens = [];
  words = [];
  derived = refl;
  spelled = refl;
  lexed = λ ts to h. subst (λ (n : ℕ). Lex n (58 ∷ rest) ts to []) (omega arith) h;
}
words_at text front at (w ∷ more) rest i e l =
    let next = at + 2 + length w in
    let after = behind more ++ 58 ∷ rest in
    let joined : (w ++ behind more) ++ 58 ∷ rest ≡ w ++ after = append_assoc w (behind more) (58 ∷ rest) in
    let at_word : text ≡ (front ++ 58 ∷ 58 ∷ []) ++ (w ++ after) =
    e ∙ (ap (λ (x : List ℕ). front ++ 58 ∷ 58 ∷ x) joined ∙ sym (append_assoc front (58 ∷ 58 ∷ []) (w ++ after))) in
    let word_place : length (front ++ 58 ∷ 58 ∷ []) ≡ at + 2 = length-append front (58 ∷ 58 ∷ []) ∙ ap (λ (n : ℕ). n + 2) l in
    let at_next : text ≡ ((front ++ 58 ∷ 58 ∷ []) ++ w) ++ after = at_word ∙ sym (append_assoc (front ++ 58 ∷ 58 ∷ []) w after) in
    let next_place : length ((front ++ 58 ∷ 58 ∷ []) ++ w) ≡ next = length-append (front ++ 58 ∷ 58 ∷ []) w ∙ ap (λ (n : ℕ). n + length w) word_place in
    let m = words_at text ((front ++ 58 ∷ 58 ∷ []) ++ w) next more rest i.1 at_next next_place in
    let far : at + length (behind (w ∷ more)) ≡ next + length (behind more) = omega (arith, length-append w (behind more)) in
    record {
      tokens = colons_at at ∷ word_at (at + 2) w ∷ m.tokens;
      words = word_at (at + 2) w ∷ m.words;
      derived = (
        colons_at at ∷ word_at (at + 2) w ∷ [],
        m.tokens,
        refl,
        record {
          front = colons_at at ∷ [];
          back = word_at (at + 2) w ∷ [];
          value = colons_at at;
          whole = refl;
          first = (refl, colons_kind);
          second = (refl, ident_kind w i.0);
        },
        m.derived,
      );
      spelled = ap (λ (x : List ℕ). x ∷ map (spelling_of text) m.words) (written text (front ++ 58 ∷ 58 ∷ []) w after (at + 2) at_word word_place) ∙ ap (λ (x : List (List ℕ)). w ∷ x) m.spelled;
      lexed = λ ts to h.
          token k.Colons (58 ∷ 58 ∷ []) ((w ++ behind more) ++ 58 ∷ rest) refl (colons_first ((w ++ behind more) ++ 58 ∷ rest))
          (token (kind_of_word w) w after joined (word_there w more rest i.0.0) (m.lexed ts to (subst (λ (n : ℕ). Lex n (58 ∷ rest) ts to []) far h)));
    }

-- ---- the whole

abbrev uid : List ℕ → List ℕ → EntityUid
uid name id = record { type_name = name; id = id }

string_is : (text id : List ℕ) (t : Token) → Plain id → spelling_of text t ≡ in_quotes id → IsStringOf id (spelling_of text t)
string_is text id t a e = record { pieces = pieces id; body = id; is = plain_body id a; spelled = e; no_star = no_star id; value_is = is_well_formed id }

plain_by_words : ValueIsValue → (text first : List ℕ) (more : List (List ℕ)) (id : List ℕ) → AreIdents (first ∷ more) → text ≡ first ++ (behind more ++ 58 ∷ 58 ∷ in_quotes id) → Plain id →
    length text ≤ most_policy_bytes → IsUidText text (uid (joined_path first more) id)
plain_by_words values text first more id i e a short =
    let at = 0 + length first in
    let m = words_at text first at more (58 ∷ in_quotes id) i.1 e (omega arith) in
    let place = at + length (behind more) in
    let string : Token = record { kind = k.Text; start = place + 2; end = place + 2 + length (in_quotes id) } in
    let head = (first ++ behind more) ++ 58 ∷ 58 ∷ [] in
    let at_string : text ≡ head ++ (in_quotes id ++ []) =
    e ∙ (sym (append_assoc first (behind more) (58 ∷ 58 ∷ in_quotes id)) ∙ (ap (λ (x : List ℕ). (first ++ behind more) ++ 58 ∷ 58 ∷ x) (sym (append-nil (in_quotes id)))
    ∙ sym (append_assoc (first ++ behind more) (58 ∷ 58 ∷ []) (in_quotes id ++ [])))) in
    let string_place : length head ≡ place + 2 = omega (arith, length-append (first ++ behind more) (58 ∷ 58 ∷ []), length-append first (behind more)) in
    let string_spelled : spelling_of text string ≡ in_quotes id = written text head (in_quotes id) [] (place + 2) at_string string_place in
    let first_spelled : spelling_of text (word_at 0 first) ≡ first = written text [] first (behind more ++ 58 ∷ 58 ∷ in_quotes id) 0 e refl in
    record {
      tree = record { path = record { first = word_at 0 first; more = m.words }; id = string };
      derives = record {
        short = short;
        tokens = word_at 0 first ∷ (m.tokens ++ colons_at place ∷ string ∷ []);
        lexed = (
          place + 2 + length (in_quotes id),
          subst (λ (x : List ℕ). Lex 0 x (word_at 0 first ∷ (m.tokens ++ colons_at place ∷ string ∷ [])) (place + 2 + length (in_quotes id)) []) (sym e)
              (token (kind_of_word first) first (behind more ++ 58 ∷ 58 ∷ in_quotes id) refl (word_there first more (58 ∷ in_quotes id) i.0.0)
              (m.lexed (colons_at place ∷ string ∷ []) (place + 2 + length (in_quotes id))
              (token k.Colons (58 ∷ 58 ∷ []) (in_quotes id) refl (colons_first (in_quotes id))
              (token k.Text (in_quotes id) [] (sym (append-nil (in_quotes id))) (string_last id a) finish)))),
        );
        derived = record {
          front = word_at 0 first ∷ m.tokens;
          back = colons_at place ∷ string ∷ [];
          value = record { first = word_at 0 first; more = m.words };
          whole = refl;
          first = record {
            front = word_at 0 first ∷ [];
            back = m.tokens;
            value = word_at 0 first;
            whole = refl;
            first = (refl, ident_kind first i.0);
            second = record { front = m.tokens; back = []; value = m.words; whole = sym (append-nil m.tokens); first = m.derived; second = (refl, refl) };
          };
          second = record {
            front = colons_at place ∷ [];
            back = string ∷ [];
            value = colons_at place;
            whole = refl;
            first = (refl, colons_kind);
            second = record { front = string ∷ []; back = []; value = string; whole = refl; first = (refl, text_kind); second = (refl, refl) };
          };
        };
      };
      is =
          ap (λ (name : List ℕ). uid name id) (sym (ap (λ (x : List ℕ). joined_path x (map (spelling_of text) m.words)) first_spelled ∙ ap (joined_path first) m.spelled))
          ∙ ap (uid (joined_path (spelling_of text (word_at 0 first)) (map (spelling_of text) m.words))) (values id (spelling_of text string) (string_is text id string a string_spelled));
    }

whole_is : (name id : List ℕ) → name ++ codes "::\"" ++ id ++ codes "\"" ≡ name ++ 58 ∷ 58 ∷ in_quotes id
whole_is name id = append_assoc (name ++ codes "::\"") id (codes "\"") ∙ append_assoc name (codes "::\"") (id ++ 34 ∷ [])

-- A text that is written plainly is that uid.
pub plain_is_uid : ValueIsValue → (text name id : List ℕ) → IsPath name → IsWrittenPlainly text name id → length text ≤ most_policy_bytes → IsUidText text (uid name id)
plain_is_uid values text name id p w short =
    let first = p.0 in
    let more = p.1 in
    let cut : text ≡ first ++ (behind more ++ 58 ∷ 58 ∷ in_quotes id) =
    w.whole ∙ (whole_is name id ∙ (ap (λ (x : List ℕ). x ++ 58 ∷ 58 ∷ in_quotes id) (p.3 ∙ path_is first more) ∙ append_assoc first (behind more) (58 ∷ 58 ∷ in_quotes id))) in
    subst (λ (x : List ℕ). IsUidText text (uid x id)) (sym (p.3)) (plain_by_words values text first more id p.2 cut w.plain short)

-- ---- what the search for it tells

pub all_plain : (id : List ℕ) → ((i : ℕ) → i < length id → get_or id i 0 ≢ 34) → ((i : ℕ) → i < length id → get_or id i 0 ≢ 92) → Plain id
all_plain [] q s = tt
all_plain (b ∷ id) q s = ((q 0 (omega arith), s 0 (omega arith)), all_plain id (λ i h. q (suc i) (omega arith)) (λ i h. s (suc i) (omega arith)))

none_left : (rest : List ℕ) → length rest ≡ 0 → rest ≡ []
none_left [] none = refl
none_left (x ∷ rest) none = absurd (omega arith)

pub parts : (text front back less name id rest : List ℕ) → text ≡ front ++ 34 ∷ back → front ≡ less ++ 58 ∷ [] → less ≡ name ++ 58 ∷ [] → back ≡ id ++ 34 ∷ rest → length rest ≡ 0 →
    Plain id → IsWrittenPlainly text name id
parts text front back less name id rest e f g h none plain =
    let ended : back ≡ id ++ 34 ∷ [] = h ∙ ap (λ (x : List ℕ). id ++ 34 ∷ x) (none_left rest none) in
    let cut : front ++ 34 ∷ back ≡ name ++ 58 ∷ 58 ∷ 34 ∷ back =
    ap (λ (x : List ℕ). x ++ 34 ∷ back) (f ∙ ap (λ (x : List ℕ). x ++ 58 ∷ []) g)
    ∙ (append_assoc (name ++ 58 ∷ []) (58 ∷ []) (34 ∷ back) ∙ append_assoc name (58 ∷ []) (58 ∷ 34 ∷ back)) in
    record { whole = e ∙ (cut ∙ (ap (λ (x : List ℕ). name ++ 58 ∷ 58 ∷ 34 ∷ x) ended ∙ sym (whole_is name id))); plain = plain }
