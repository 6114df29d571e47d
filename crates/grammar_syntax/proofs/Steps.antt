-- One step after another, with the arguments that the others show.
use Rattle.std.proofs.Common.{◌≡◌, true, false, List, [], ◌∷◌, ◌++◌, None, refl}
use Rattle.grammar_syntax.specs.declared.token.Token.{Token}
use Rattle.grammar_syntax.specs.declared.token.TokenKind.{TokenKind}
use Rattle.grammar_syntax.specs.Kinds.{Kinds, only}
use Rattle.grammar_syntax.specs.Lang.{Lang}
use Rattle.grammar_syntax.specs.Lang as lang
use Rattle.grammar_syntax.specs.ParserCombinators.{Parser, ◌>>=◌, ◌>>◌, pure, token}
use Rattle.grammar_syntax.specs.ParseResults.{Begins, sees}
use Rattle.grammar_syntax.proofs.Sets.{apart, within, wide_sees}
use Rattle.grammar_syntax.proofs.Rules.{Rule, Levels, then, alive_both}
use Rattle.grammar_syntax.proofs.Forms.{Starts, Leads, one, nothing, starts_of, starts_both, leads_starts, alive_one}

-- no kind
abbrev pub none : Kinds
none _ = false

pub seq : {A B : Type 0} {L K : Lang A} {p q : Parser A} {M N : A → Lang B} {f g : A → Parser B} {ks js : Kinds} {D : Levels}
    → Rule L K p q ks D → ((a : A) → Rule (M a) (N a) (f a) (g a) js D) → ((a : A) → Leads (M a) ks js) → ((a : A) → Begins (M a) [])
    → Rule (lang.◌>>=◌ L M) (lang.◌>>=◌ K N) (p >>= f) (q >>= g) js D
seq {L = L} {K = K} {p = p} {q = q} {M = M} {N = N} {f = f} {g = g} {ks = ks} {js = js} {D = D} l m leads alive = then L K p q M N f g ks js D l m leads alive

unseen : (ts : List Token) → sees none ts ≡ false
unseen [] = refl
unseen (t ∷ ts) = refl

-- anything may follow
pub free : {A : Type 0} (L : Lang A) (ks : Kinds) → Leads L none ks
free L ks front a rest d h = unseen (front ++ rest)

-- a token, and then a piece that it says nothing of
pub behind : {B : Type 0} (k : TokenKind) (js : Kinds) (D : Levels) {M N : Lang B} {f g : Parser B} → Rule M N f g js D → Begins M []
    → Rule (lang.◌>>◌ (lang.one k) M) (lang.◌>>◌ (lang.one k) N) (token k >> f) (token k >> g) js D
behind k js D {M = M} m alive = seq (one k none D) (λ _. m) (λ _. free M js) (λ _. alive)

-- what is put together at the end
pub last : {A : Type 0} (a : A) (js : Kinds) (D : Levels) → Rule (lang.empty a) (lang.empty a) (pure a) (pure a) js D
last a js D = nothing a js D

-- ---- what can be gone on with

pub go : {A B : Type 0} {L : Lang A} {M : A → Lang B} → Begins L [] → ((a : A) → Begins (M a) []) → Begins (lang.◌>>=◌ L M) []
go {L = L} {M = M} b m = alive_both L M b m

-- a token, and then what has a form
pub go_one : {B : Type 0} (k : TokenKind) {M : Token → Lang B} → ((t : Token) → Begins (M t) []) → Begins (lang.◌>>=◌ (lang.one k) M) []
go_one k m = go (alive_one k) m

pub alive_maybe : {A : Type 0} (L : Lang A) → Begins (lang.optional L) []
alive_maybe L = record { more = []; value = None; derived = refl }

-- ---- first tokens

pub leads_first : {A B : Type 0} {L : Lang A} {M : A → Lang B} (is ks js : Kinds) → Starts L is → apart is ks ≡ true → Leads (lang.◌>>=◌ L M) ks js
leads_first {L = L} {M = M} is ks js s e = leads_starts (lang.◌>>=◌ L M) is ks js (starts_both L M is s) e

pub leads_one : {A : Type 0} {M : Token → Lang A} (k : TokenKind) (ks js : Kinds) → apart (only k) ks ≡ true → Leads (lang.◌>>=◌ (lang.one k) M) ks js
leads_one k ks js e = leads_first (only k) ks js (starts_of (only k)) e

pub starts_one : {A : Type 0} (k : TokenKind) (M : Token → Lang A) → Starts (lang.◌>>=◌ (lang.one k) M) (only k)
starts_one k M = starts_both (lang.one k) M (only k) (starts_of (only k))

pub wide_starts : {A : Type 0} (L : Lang A) (ks js : Kinds) → within ks js ≡ true → Starts L ks → Starts L js
wide_starts L ks js h s ts a d = wide_sees ks js ts h (s ts a d)
