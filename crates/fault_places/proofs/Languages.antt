-- A property of tokens and what they derive, shown from the pieces of a production.
use Rattle.std.proofs.Common.{◌++◌, List, [], ◌∷◌, Bool, true, false, sym, ap, ◌∙◌, subst, inl, inr}
use Rattle.std.proofs.lemmas.List.{append-nil}
use Rattle.grammar_syntax.specs.declared.token.Token.{Token}
use Rattle.grammar_syntax.specs.Kinds.{Kinds}
use Rattle.grammar_syntax.specs.Lang.{Lang}
use Rattle.grammar_syntax.specs.Lang as lang

-- what L derives has the property P
abbrev pub Shows : {A : Type 0} → Lang A → (List Token → A → Type 0) → Type 0
Shows L P = (ts : List Token) (x : _) → L ts x → P ts x

pub both_shows : {A B : Type 0} {L : Lang A} {M : A → Lang B} (P : List Token → B → Type 0)
    → ((us : List Token) (a : A) → L us a → Shows (M a) (λ vs b. P (us ++ vs) b)) → Shows (lang.◌>>=◌ L M) P
both_shows P each ts b j = subst (λ us. P us b) (sym j.whole) (each j.front j.value j.first j.back b j.second)

-- behind one token
pub past_shows : {B : Type 0} {M : Lang B} (ks : Kinds) (P : List Token → B → Type 0)
    → ((t : Token) → Shows M (λ vs b. P (t ∷ vs) b)) → Shows (lang.◌>>◌ (lang.of ks) M) P
past_shows ks P each =
    both_shows P (λ us a d vs b m. subst (λ ws. P (ws ++ vs) b) (sym d.0) (each a vs b m))

-- one token before
pub token_shows : {B : Type 0} {M : Token → Lang B} (ks : Kinds) (P : List Token → B → Type 0)
    → ((t : Token) → Shows (M t) (λ vs b. P (t ∷ vs) b)) → Shows (lang.◌>>=◌ (lang.of ks) M) P
token_shows ks P each =
    both_shows P (λ us a d vs b m. subst (λ ws. P (ws ++ vs) b) (sym d.0) (each a vs b m))

pub end_shows : {A B : Type 0} {L : Lang A} (f : A → B) (P : List Token → B → Type 0)
    → ((us : List Token) (a : A) → L us a → P us (f a)) → Shows (lang.◌>>=◌ L (λ a. lang.empty (f a))) P
end_shows f P each =
    both_shows P
    (λ us a d vs b e. subst (λ y. P (us ++ vs) y) (sym e.1)
    (subst (λ ws. P ws (f a)) (sym (ap (λ ws. us ++ ws) e.0 ∙ append-nil us)) (each us a d)))

pub nothing_shows : {A : Type 0} (a : A) (P : List Token → A → Type 0) → P [] a → Shows (lang.empty a) P
nothing_shows a P p ts x e = subst (λ y. P ts y) (sym e.1) (subst (λ us. P us a) (sym e.0) p)

pub or_shows : {A : Type 0} {L M : Lang A} (P : List Token → A → Type 0) → Shows L P → Shows M P
    → Shows (lang.◌or◌ L M) P
or_shows P l m ts x (inl d) = l ts x d
or_shows P l m ts x (inr d) = m ts x d

pub gate_shows : {A : Type 0} (P : List Token → A → Type 0) (may : Bool) (L : Lang A) → Shows L P
    → Shows (lang.gate may L) P
gate_shows P true L l ts x d = l ts x d
gate_shows P false L l ts x d = absurd d
