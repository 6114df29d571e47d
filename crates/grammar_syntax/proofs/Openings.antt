-- What an opening token begins, and what is put together at once.
use Rattle.std.proofs.Common.{◌≡◌, true, false, Bool, [], ◌∷◌, refl, subst}
use Rattle.grammar_syntax.specs.declared.token.Token.{Token}
use Rattle.grammar_syntax.specs.declared.token.TokenKind.{TokenKind}
use Rattle.grammar_syntax.specs.Kinds.{Kinds, only}
use Rattle.grammar_syntax.specs.Lang.{Lang}
use Rattle.grammar_syntax.specs.Lang as lang
use Rattle.grammar_syntax.specs.ParserCombinators.{Parser, ◌>>=◌, pure}
use Rattle.grammar_syntax.specs.ParseResults.{Begins}
use Rattle.grammar_syntax.proofs.Rules.{Rule, Levels, begin_front, on_alive}
use Rattle.grammar_syntax.proofs.Forms.{Starts, nothing, alive_empty}
use Rattle.grammar_syntax.proofs.Steps.{none, seq, free}

-- each token of the set begins something
abbrev pub Opening : {A : Type 0} → Lang A → Kinds → Type 0
Opening L ks = (t : Token) → ks t.kind ≡ true → Begins L (t ∷ [])

pub opening_one : {A : Type 0} (k : TokenKind) (M : Token → Lang A) → ((t : Token) → Begins (M t) []) → Opening (lang.◌>>=◌ (lang.one k) M) (only k)
opening_one k M alive t h =
    let b = alive t in
    record { more = b.more; value = b.value; derived = record { front = t ∷ []; back = b.more; value = t; whole = refl; first = (refl, h); second = b.derived } }

-- and so does each token that may come first
pub opening_of : {A : Type 0} (ks : Kinds) (M : Token → Lang A) → ((t : Token) → Begins (M t) []) → Opening (lang.◌>>=◌ (lang.of ks) M) ks
opening_of ks M alive t h =
    let b = alive t in
    record { more = b.more; value = b.value; derived = record { front = t ∷ []; back = b.more; value = t; whole = refl; first = (refl, h); second = b.derived } }

pub opening_then : {A B : Type 0} (L : Lang A) (M : A → Lang B) (ks : Kinds) → Opening L ks → ((a : A) → Begins (M a) []) → Opening (lang.◌>>=◌ L M) ks
opening_then L M ks opening alive t h = begin_front L M (on_alive L M alive) (t ∷ []) (opening t h)

gate_is : {A : Type 0} (o : Bool) (L : Lang A) → o ≡ true → L ≡ lang.gate o L
gate_is true L h = refl
gate_is false L h = absurd (cc)

pub opening_gate : {A : Type 0} (o : Bool) (L : Lang A) (ks : Kinds) → o ≡ true → Opening L ks → Opening (lang.gate o L) ks
opening_gate o L ks h opening t e = subst (λ M. Begins M (t ∷ [])) (gate_is o L h) (opening t e)

pub starts_gate : {A : Type 0} (o : Bool) (L : Lang A) (ks : Kinds) → Starts L ks → Starts (lang.gate o L) ks
starts_gate true L ks s = s
starts_gate false L ks s = λ ts a d. absurd d

-- a piece that anything may follow, put together
pub giving : {A B : Type 0} (f : A → B) (js : Kinds) (D : Levels) {L K : Lang A} {p q : Parser A} → Rule L K p q none D
    → Rule (lang.◌giving◌ L f) (lang.◌giving◌ K f) (p >>= (λ x. pure (f x))) (q >>= (λ x. pure (f x))) js D
giving f js D l = seq l (λ x. nothing (f x) js D) (λ x. free (lang.empty (f x)) js) (λ x. alive_empty (f x))
