-- A tree is made of the tokens that derive it: one rule a form of language, and names by them.
use Rattle.std.proofs.Common.{inl, inr, List, [], ◌∷◌, Bool, true, false, Option, Some, None, refl, sym, subst, arith}
use Rattle.std.specs.Prelude.{Contains}
use Rattle.std.specs.List.{AllByRecursion}
use Rattle.std.proofs.lemmas.List.Elements.{Contains-append_left, Contains-append_right}
use Rattle.grammar_syntax.specs.declared.token.Token.{Token}
use Rattle.grammar_syntax.specs.declared.token.TokenKind.TheVariants as k
use Rattle.grammar_syntax.specs.Kinds.{Kinds, only}
use Rattle.grammar_syntax.specs.Lang.{Lang, Joined}
use Rattle.grammar_syntax.specs.Lang as lang
use Rattle.grammar_syntax.specs.Grammar as g
use Rattle.grammar_syntax.specs.Grammar.{identifiers}
use Rattle.grammar_syntax.specs.WellFormedNames.{WellFormedToken, WellFormedPath, WellFormedUid}

-- each of the first list is one of the second
abbrev pub Inside : List Token → List Token → Type 0
Inside ts all = (t : Token) → Contains ts t → Contains all t

-- What the language derives from some of all the tokens is so.
abbrev pub Makes : {A : Type 0} → List Token → Lang A → (A → Type 0) → Type 0
Makes all L P = (ts : List Token) (x : _) → L ts x → Inside ts all → P x

pub front_in : {A B : Type 0} {L : Lang A} {M : A → Lang B} {ts : List Token} {b : B} (all : List Token) (j : Joined L M ts b) → Inside ts all → Inside j.front all
front_in all j i t h = i t (subst (λ z. Contains z t) (sym j.whole) (Contains-append_left j.front j.back t h))

pub back_in : {A B : Type 0} {L : Lang A} {M : A → Lang B} {ts : List Token} {b : B} (all : List Token) (j : Joined L M ts b) → Inside ts all → Inside j.back all
back_in all j i t h = i t (subst (λ z. Contains z t) (sym j.whole) (Contains-append_right j.front j.back t h))

first_of_one : (t : Token) → Contains (t ∷ []) t
first_of_one t = (0, omega arith, refl)

module _ (all : List Token) where
  pub token_in : (ks : Kinds) → Makes all (lang.of ks) (WellFormedToken ks all)
  token_in ks ts t d i = (i t (subst (λ z. Contains z t) (sym d.0) (first_of_one t)), d.1)

  pub nothing_in : {A : Type 0} (P : A → Type 0) (a : A) → P a → Makes all (lang.empty a) P
  nothing_in P a p ts x d i = subst P (sym d.1) p

  pub both_in : {A B : Type 0} {L : Lang A} {M : A → Lang B} {P : A → Type 0} {Q : B → Type 0} → Makes all L P → ((a : A) → P a → Makes all (M a) Q) → Makes all (lang.◌>>=◌ L M) Q
  both_in l m ts b j i = m j.value (l j.front j.value j.first (front_in all j i)) j.back b j.second (back_in all j i)

  -- whatever stands before it
  pub past_in : {A B : Type 0} {L : Lang A} {M : Lang B} {Q : B → Type 0} → Makes all M Q → Makes all (lang.◌>>◌ L M) Q
  past_in m ts b j i = m j.back b j.second (back_in all j i)

  pub giving_in : {A B : Type 0} {L : Lang A} {P : A → Type 0} (Q : B → Type 0) (f : A → B) → Makes all L P → ((a : A) → P a → Q (f a)) → Makes all (lang.◌giving◌ L f) Q
  giving_in Q f l q = both_in l (λ a p. nothing_in Q (f a) (q a p))

  pub or_in : {A : Type 0} {L M : Lang A} {P : A → Type 0} → Makes all L P → Makes all M P → Makes all (lang.◌or◌ L M) P
  or_in l m ts x (inl d) i = l ts x d i
  or_in l m ts x (inr d) i = m ts x d i

  pub maybe_in : {A : Type 0} {P : A → Type 0} (L : Lang A) (Q : Option A → Type 0) → Makes all L P → Q None → ((a : A) → P a → Q (Some a)) → Makes all (lang.optional L) Q
  maybe_in L Q l none some ts None d i = none
  maybe_in L Q l none some ts (Some x) d i = some x (l ts x d i)

  pub many_in : {A : Type 0} (L : Lang A) (P : A → Type 0) → Makes all L P → Makes all (lang.many L) (AllByRecursion P)
  many_in L P each ts [] d i = tt
  many_in L P each ts (x ∷ xs) d i = (
    each d.0 x d.3 (λ t h. i t (subst (λ z. Contains z t) (sym d.2) (Contains-append_left d.0 d.1 t h))),
    many_in L P each d.1 xs d.4 (λ t h. i t (subst (λ z. Contains z t) (sym d.2) (Contains-append_right d.0 d.1 t h))),
  )

  pub gate_in : {A : Type 0} {P : A → Type 0} (may : Bool) (L : Lang A) → Makes all L P → Makes all (lang.gate may L) P
  gate_in true L l ts x d i = l ts x d i
  gate_in false L l ts x d i = absurd d

  -- ---- names

  pub path_in : Makes all g.path (WellFormedPath all)
  path_in =
      both_in (token_in identifiers)
      (λ first f. both_in (many_in (lang.◌>>◌ (lang.one k.Colons) (lang.of identifiers)) (WellFormedToken identifiers all) (past_in (token_in identifiers)))
      (λ more m. nothing_in (WellFormedPath all) (record { first = first; more = more }) (f, m)))

  pub uid_in : Makes all g.uid (WellFormedUid all)
  uid_in = both_in path_in (λ path p. past_in (both_in (token_in (only k.Text)) (λ id t. nothing_in (WellFormedUid all) (record { path = path; id = id }) (p, t))))
