-- How many tokens derive a value: one rule a form of language, and names by them.
use Rattle.std.proofs.Common.{◌≡◌, ℕ, ◌+◌, inl, inr, List, [], ◌∷◌, length, Bool, true, false, Option, Some, None, refl, sym, ap, ◌∙◌, subst, arith, map, length-append}
use Rattle.grammar_syntax.specs.declared.token.Token.{Token}
use Rattle.grammar_syntax.specs.declared.token.TokenKind.TheVariants as k
use Rattle.grammar_syntax.specs.Kinds.{Kinds, only}
use Rattle.grammar_syntax.specs.Lang.{Lang}
use Rattle.grammar_syntax.specs.Lang as lang
use Rattle.grammar_syntax.specs.Grammar as g
use Rattle.grammar_syntax.specs.Grammar.{identifiers}
use Rattle.fault_places.specs.TokenCounts.{path_count, uid_count, total, each_count}

-- The tokens that derive a value are so many that P holds of both.
abbrev pub Fits : {A : Type 0} → Lang A → (A → ℕ → Type 0) → Type 0
Fits L P = (ts : List Token) (x : _) → L ts x → P x (length ts)

-- one token
abbrev pub Single : {A : Type 0} → A → ℕ → Type 0
Single x n = n ≡ 1

-- as many as a function says
abbrev pub By : {A : Type 0} → (A → ℕ) → A → ℕ → Type 0
By count x n = n ≡ count x

pub token_fits : (ks : Kinds) → Fits (lang.of ks) Single
token_fits ks ts t d = ap length d.0

pub nothing_fits : {A : Type 0} (P : A → ℕ → Type 0) (a : A) → P a 0 → Fits (lang.empty a) P
nothing_fits P a p ts x d = subst (λ n. P x n) (sym (ap length d.0)) (subst (λ y. P y 0) (sym d.1) p)

pub both_fits : {A B : Type 0} {L : Lang A} {M : A → Lang B} (P : A → ℕ → Type 0) (Q : B → ℕ → Type 0) → Fits L P
    → ((a : A) (n : ℕ) → P a n → Fits (M a) (λ b m. Q b (n + m))) → Fits (lang.◌>>=◌ L M) Q
both_fits P Q l m ts b j =
    subst (Q b) (sym (ap length j.whole ∙ length-append j.front j.back))
    (m j.value (length j.front) (l j.front j.value j.first) j.back b j.second)

-- behind one token
pub past_fits : {B : Type 0} {M : Lang B} (ks : Kinds) (Q : B → ℕ → Type 0) → Fits M (λ b m. Q b (1 + m)) → Fits (lang.◌>>◌ (lang.of ks) M) Q
past_fits ks Q m = both_fits Single Q (token_fits ks) (λ a n one ts b d. subst (λ i. Q b (i + length ts)) (sym one) (m ts b d))

pub giving_fits : {A B : Type 0} {L : Lang A} (P : A → ℕ → Type 0) (Q : B → ℕ → Type 0) (f : A → B) → Fits L P → ((a : A) (n : ℕ) → P a n → Q (f a) (n + 0)) → Fits (lang.◌giving◌ L f) Q
giving_fits P Q f l q = both_fits P Q l (λ a n p. nothing_fits (λ b m. Q b (n + m)) (f a) (q a n p))

pub or_fits : {A : Type 0} {L M : Lang A} (P : A → ℕ → Type 0) → Fits L P → Fits M P → Fits (lang.◌or◌ L M) P
or_fits P l m ts x (inl d) = l ts x d
or_fits P l m ts x (inr d) = m ts x d

pub gate_fits : {A : Type 0} (P : A → ℕ → Type 0) (may : Bool) (L : Lang A) → Fits L P → Fits (lang.gate may L) P
gate_fits P true L l ts x d = l ts x d
gate_fits P false L l ts x d = absurd d

pub optional_fits : {A : Type 0} (L : Lang A) (P : Option A → ℕ → Type 0) → P None 0 → Fits L (λ a n. P (Some a) n) → Fits (lang.optional L) P
optional_fits L P none some ts None d = subst (P None) (sym (ap length d)) none
optional_fits L P none some ts (Some x) d = some ts x d

-- pieces, each of so many tokens
pub many_fits : {A : Type 0} (L : Lang A) (count : A → ℕ) → Fits L (By count) → Fits (lang.many L) (By (λ xs. total (map count xs)))
many_fits L count each ts [] d = ap length d
many_fits L count each ts (x ∷ xs) d =
    ap length d.2 ∙ length-append d.0 d.1 ∙ ap (λ n. n + length d.1) (each d.0 x d.3)
    ∙ ap (λ n. count x + n) (many_fits L count each d.1 xs d.4)

-- pieces of one token more than what is counted
pub total_more : {A : Type 0} (count : A → ℕ) (xs : List A) → total (map (λ x. 1 + count x) xs) ≡ each_count (map count xs)
total_more count [] = refl
total_more count (x ∷ xs) = let e = total_more count xs in omega arith

total_two : {A : Type 0} (xs : List A) → total (map (λ x. 2) xs) ≡ length xs + length xs
total_two [] = refl
total_two (x ∷ xs) = let e = total_two xs in omega arith

-- ---- names

pub path_fits : Fits g.path (By path_count)
path_fits =
    both_fits Single (By path_count) (token_fits identifiers)
    (λ first n one. both_fits (By (λ xs. total (map (λ _. 2) xs))) (λ p m. n + m ≡ path_count p)
    (many_fits (lang.◌>>◌ (lang.one k.Colons) (lang.of identifiers)) (λ _. 2)
    (past_fits (only k.Colons) (By (λ _. 2)) (λ ts t d. ap (λ n. 1 + n) (token_fits identifiers ts t d))))
    (λ more m all. nothing_fits (λ p i. n + (m + i) ≡ path_count p) (record { first = first; more = more })
    (let two = total_two more in omega arith)))

pub uid_fits : Fits g.uid (By uid_count)
uid_fits =
    both_fits (By path_count) (By uid_count) path_fits
    (λ path n p. past_fits (only k.Colons) (λ u m. n + m ≡ uid_count u)
    (both_fits Single (λ u m. n + (1 + m) ≡ uid_count u) (token_fits (only k.Text))
    (λ id i one. nothing_fits (λ u m. n + (1 + (i + m)) ≡ uid_count u) (record { path = path; id = id }) (omega arith))))
