-- No production of the grammar below a policy has a token that ends a policy, and each derives something of whatever
-- tokens are of the same kinds: one rule a form, and one a production.
use Rattle.std.proofs.Common.{◌≡◌, inl, inr, ℕ, zero, suc, Bool, true, false, List, [], ◌∷◌, ◌++◌, Option, Some, None}
use Rattle.std.proofs.Common.{refl, sym, ap, ◌∙◌, subst, append_assoc}
use Rattle.std.proofs.lemmas.List.{append-nil}
use Rattle.grammar_desugaring.specs.grammar_syntax.declared.token.TokenKind.{TokenKind}
use Rattle.grammar_desugaring.specs.grammar_syntax.declared.token.TokenKind.TheVariants as k
use Rattle.grammar_desugaring.specs.grammar_syntax.declared.token.Token.{Token}
use Rattle.grammar_desugaring.specs.grammar_syntax.Idents.{is_ident}
use Rattle.grammar_desugaring.specs.grammar_syntax.Kinds.{Kinds, only, same_kind}
use Rattle.grammar_desugaring.specs.grammar_syntax.Lang as lang
use Rattle.grammar_desugaring.specs.grammar_syntax.Lang.{Lang}
use Rattle.grammar_desugaring.specs.grammar_syntax.Grammar as names
use Rattle.grammar_parsing.proofs.of_grammar_syntax.KindLemmas.{kinds_are_same}
use Rattle.grammar_parsing.specs.Expressions as e
use Rattle.grammar_parsing.specs.Expressions.{boolean_of, variable_of, sign_of, comparison_of, patterns}
use Rattle.grammar_parsing.specs.Expressions.{is_positive, expr}
use Rattle.grammar_desugaring.specs.grammar_syntax.declared.tree.ExprTree.TheVariants as tree
use Rattle.grammar_parsing.specs.Grammar as g
use Rattle.grammar_parsing.specs.Grammar.{words, effects, condition_word_of}
use Rattle.policy_grammar.specs.Cuts.{is_end}
use Rattle.policy_grammar.proofs.Splitting.{NoEnd}

-- what is derived has no token that ends a policy
abbrev pub Lacks : {A : Type 0} → Lang A → Type 0
Lacks {A} L = (ts : List Token) (x : A) → L ts x → NoEnd ts

no_end_join : (front back : List Token) → NoEnd front → NoEnd back → NoEnd (front ++ back)
no_end_join [] back f b = b
no_end_join (t ∷ front) back f b = (f.0, no_end_join front back f.1 b)

-- `;` is none of these kinds
abbrev Without : Kinds → Type 0
Without ks = ks k.Semicolon ≡ false

the_end : (kind : TokenKind) → (is_end kind ≡ true) → kind ≡ k.Semicolon
the_end k.Semicolon h = refl
the_end _ h = absurd cc

other_at : (b : Bool) (kind : TokenKind) (ks : Kinds) → is_end kind ≡ b → Without ks → ks kind ≡ true → is_end kind ≡ false
other_at true kind ks e w h = absurd (let same = the_end kind e in let bad : true ≡ false = sym h ∙ ap ks same ∙ w in cc)
other_at false kind ks e w h = e

other : (kind : TokenKind) (ks : Kinds) → Without ks → ks kind ≡ true → is_end kind ≡ false
other kind ks w h = other_at (is_end kind) kind ks refl w h

of_lacks : (ks : Kinds) → Without ks → Lacks (lang.of ks)
of_lacks ks w ts t d = subst NoEnd (sym d.0) (other t.kind ks w d.1, tt)

empty_lacks : {A : Type 0} (a : A) → Lacks (lang.empty a)
empty_lacks a ts x d = subst NoEnd (sym d.0) tt

both_lack : {A B : Type 0} {L : Lang A} {M : A → Lang B} → Lacks L → ((a : A) → Lacks (M a)) → Lacks (lang.◌>>=◌ L M)
both_lack l m ts b j = subst NoEnd (sym j.whole) (no_end_join j.front j.back (l j.front j.value j.first) (m j.value j.back b j.second))

giving_lacks : {A B : Type 0} {L : Lang A} (f : A → B) → Lacks L → Lacks (lang.◌giving◌ L f)
giving_lacks f l = both_lack l (λ a. empty_lacks (f a))

or_lacks : {A : Type 0} {L M : Lang A} → Lacks L → Lacks M → Lacks (lang.◌or◌ L M)
or_lacks l m ts x (inl d) = l ts x d
or_lacks l m ts x (inr d) = m ts x d

maybe_lacks : {A : Type 0} {L : Lang A} → Lacks L → Lacks (lang.optional L)
maybe_lacks l ts None d = subst NoEnd (sym d) tt
maybe_lacks l ts (Some x) d = l ts x d

many_lack : {A : Type 0} (L : Lang A) → Lacks L → Lacks (lang.many L)
many_lack L l ts [] d = subst NoEnd (sym d) tt
many_lack L l ts (x ∷ xs) d = subst NoEnd (sym d.2) (no_end_join d.0 d.1 (l d.0 x d.3) (many_lack L l d.1 xs d.4))

gate_lacks : {A : Type 0} (may : Bool) {L : Lang A} → Lacks L → Lacks (lang.gate may L)
gate_lacks true l ts x d = l ts x d
gate_lacks false l ts x d = absurd d

other_symbol : {A : Type 0} (b : Bool) (meaning : TokenKind → Option A) (kind : TokenKind) (a : A) → is_end kind ≡ b → meaning k.Semicolon ≡ None → meaning kind ≡ Some a → is_end kind ≡ false
other_symbol true meaning kind a e w h = absurd (let same = the_end kind e in let bad : Some a ≡ None = sym h ∙ ap meaning same ∙ w in cc)
other_symbol false meaning kind a e w h = e

symbol_lacks : {A : Type 0} (meaning : TokenKind → Option A) → meaning k.Semicolon ≡ None → Lacks (e.symbol meaning)
symbol_lacks meaning w ts a d = subst NoEnd (sym d.1) (other_symbol (is_end d.0.kind) meaning d.0.kind a refl w d.2, tt)

apart_at : (b : Bool) (kind : TokenKind) → same_kind k.Semicolon kind ≡ b → is_end kind ≡ false → same_kind k.Semicolon kind ≡ false
apart_at true kind e h = absurd (let same = kinds_are_same k.Semicolon kind e in let bad : true ≡ false = ap is_end same ∙ h in cc)
apart_at false kind e h = e

one_lacks : (kind : TokenKind) → is_end kind ≡ false → Lacks (lang.one kind)
one_lacks kind h = of_lacks (only kind) (apart_at (same_kind k.Semicolon kind) kind refl h)

-- whatever stands behind a token of this kind
behind_lacks : {B : Type 0} {M : Lang B} (kind : TokenKind) → is_end kind ≡ false → Lacks M → Lacks (lang.◌>>◌ (lang.one kind) M)
behind_lacks kind h m = both_lack (one_lacks kind h) (λ _. m)

-- ---- names

path_lacks : Lacks names.path
path_lacks =
    both_lack (of_lacks is_ident refl) (λ first. both_lack (many_lack (lang.◌>>◌ (lang.one k.Colons) (lang.of is_ident)) (behind_lacks k.Colons refl (of_lacks is_ident refl))) (λ more. empty_lacks _))

uid_lacks : Lacks names.uid
uid_lacks = both_lack path_lacks (λ name. behind_lacks k.Colons refl (both_lack (one_lacks k.Text refl) (λ id. empty_lacks _)))

-- ---- expressions

chain_lacks : {A : Type 0} (first : Lang _) (piece : Lang A) (make : _) → Lacks first → Lacks piece → Lacks (e.chain first piece make)
chain_lacks first piece make f p = both_lack f (λ x. both_lack (many_lack piece p) (λ more. empty_lacks _))

literal_lacks : Lacks e.literal
literal_lacks = or_lacks (giving_lacks _ (symbol_lacks boolean_of refl)) (or_lacks (giving_lacks _ (one_lacks k.Number refl)) (giving_lacks _ (one_lacks k.Text refl)))

key_lacks : Lacks e.key
key_lacks = or_lacks (giving_lacks _ (of_lacks is_ident refl)) (giving_lacks _ (one_lacks k.Text refl))

indexed_lacks : Lacks e.indexed
indexed_lacks = behind_lacks k.LBracket refl (both_lack (one_lacks k.Text refl) (λ name. behind_lacks k.RBracket refl (empty_lacks _)))

-- over the expressions of one level less
module _ (may : Bool) (inner : Lang _) (each : Lacks inner) where
  arguments_lack : Lacks (e.arguments may inner)
  arguments_lack =
      or_lacks (both_lack each (λ first. both_lack (many_lack (lang.◌>>◌ (lang.one k.Comma) inner) (behind_lacks k.Comma refl each)) (λ more. empty_lacks _))) (empty_lacks _)

  called_lacks : Lacks (e.called may inner)
  called_lacks = behind_lacks k.LParen refl (both_lack arguments_lack (λ found. behind_lacks k.RParen refl (empty_lacks _)))

  call_lacks : Lacks (e.call may inner)
  call_lacks = both_lack path_lacks (λ name. both_lack called_lacks (λ found. empty_lacks _))

  named_lacks : Lacks (e.named may inner)
  named_lacks = or_lacks (giving_lacks _ (symbol_lacks variable_of refl)) (or_lacks (giving_lacks _ uid_lacks) (gate_lacks may call_lacks))

  parenthesized_lacks : Lacks (e.parenthesized may inner)
  parenthesized_lacks = behind_lacks k.LParen refl (both_lack each (λ x. behind_lacks k.RParen refl (empty_lacks _)))

  set_lacks : Lacks (e.set may inner)
  set_lacks = behind_lacks k.LBracket refl (both_lack arguments_lack (λ found. behind_lacks k.RBracket refl (empty_lacks _)))

  entry_lacks : Lacks (e.entry may inner)
  entry_lacks = both_lack key_lacks (λ name. behind_lacks k.Colon refl (both_lack each (λ x. empty_lacks _)))

  entries_lack : Lacks (e.entries may inner)
  entries_lack =
      or_lacks (both_lack entry_lacks (λ first. both_lack (many_lack (lang.◌>>◌ (lang.one k.Comma) (e.entry may inner)) (behind_lacks k.Comma refl entry_lacks)) (λ more. empty_lacks _))) (empty_lacks _)

  braced_lacks : Lacks (e.braced may inner)
  braced_lacks = behind_lacks k.LBrace refl (both_lack entries_lack (λ found. behind_lacks k.RBrace refl (empty_lacks _)))

  nested_lacks : Lacks (e.nested may inner)
  nested_lacks = or_lacks parenthesized_lacks (or_lacks set_lacks braced_lacks)

  primary_lacks : Lacks (e.primary may inner)
  primary_lacks = or_lacks named_lacks (or_lacks (gate_lacks may nested_lacks) literal_lacks)

  maybe_called_lacks : Lacks (e.maybe_called may inner)
  maybe_called_lacks = or_lacks (gate_lacks may (giving_lacks Some called_lacks)) (empty_lacks _)

  dotted_lacks : Lacks (e.dotted may inner)
  dotted_lacks = behind_lacks k.Dot refl (both_lack (of_lacks is_ident refl) (λ name. both_lack maybe_called_lacks (λ found. empty_lacks _)))

  member_lacks : Lacks (e.member may inner)
  member_lacks = chain_lacks (e.primary may inner) (lang.◌or◌ (e.dotted may inner) e.indexed) tree.Member primary_lacks (or_lacks dotted_lacks indexed_lacks)

  signed_lacks : (sign : TokenKind) (make : _) (n : ℕ) → is_end sign ≡ false → Lacks (e.signed may inner sign make n)
  signed_lacks sign make zero h ts x d = member_lacks ts x d
  signed_lacks sign make (suc n) h ts x d = or_lacks (behind_lacks sign h (both_lack (signed_lacks sign make n h) (λ x. empty_lacks _))) member_lacks ts x d

  unary_lacks : Lacks (e.unary may inner)
  unary_lacks = or_lacks (signed_lacks k.Not tree.Not 4 refl) (signed_lacks k.Minus tree.Minus 4 refl)

  product_lacks : Lacks (e.product may inner)
  product_lacks = chain_lacks (e.unary may inner) (lang.◌>>◌ (lang.one k.Star) (e.unary may inner)) tree.Product unary_lacks (behind_lacks k.Star refl unary_lacks)

  term_lacks : Lacks (e.term may inner)
  term_lacks = both_lack (symbol_lacks sign_of refl) (λ sign. both_lack product_lacks (λ x. empty_lacks _))

  sum_lacks : Lacks (e.sum may inner)
  sum_lacks = chain_lacks (e.product may inner) (e.term may inner) tree.Sum product_lacks term_lacks

  compared_lacks : (x : _) → Lacks (e.compared may inner x)
  compared_lacks x = both_lack (symbol_lacks comparison_of refl) (λ operator. both_lack sum_lacks (λ y. empty_lacks _))

  has_lacks : (x : _) → Lacks (e.has may inner x)
  has_lacks x = behind_lacks k.Has refl (both_lack key_lacks (λ name. empty_lacks _))

  like_lacks : (x : _) → Lacks (e.like may inner x)
  like_lacks x = behind_lacks k.Like refl (both_lack (of_lacks patterns refl) (λ text. empty_lacks _))

  typed_lacks : (x : _) → Lacks (e.type_test may inner x)
  typed_lacks x = behind_lacks k.Is refl (both_lack path_lacks (λ name. both_lack (maybe_lacks (behind_lacks k.In refl sum_lacks)) (λ y. empty_lacks _)))

  relation_lacks : Lacks (e.relation may inner)
  relation_lacks = both_lack sum_lacks (λ x. or_lacks (compared_lacks x) (or_lacks (has_lacks x) (or_lacks (like_lacks x) (or_lacks (typed_lacks x) (empty_lacks x)))))

  conjunction_lacks : Lacks (e.conjunction may inner)
  conjunction_lacks = chain_lacks (e.relation may inner) (lang.◌>>◌ (lang.one k.And) (e.relation may inner)) tree.And relation_lacks (behind_lacks k.And refl relation_lacks)

  disjunction_lacks : Lacks (e.disjunction may inner)
  disjunction_lacks = chain_lacks (e.conjunction may inner) (lang.◌>>◌ (lang.one k.Or) (e.conjunction may inner)) tree.Or conjunction_lacks (behind_lacks k.Or refl conjunction_lacks)

  conditional_lacks : Lacks (e.conditional may inner)
  conditional_lacks =
      behind_lacks k.If refl
      (both_lack each (λ test. both_lack (behind_lacks k.Then refl each) (λ consequent. both_lack (behind_lacks k.Else refl each) (λ alternative. empty_lacks _))))

  level_lacks : Lacks (e.level may inner)
  level_lacks = or_lacks (gate_lacks may conditional_lacks) disjunction_lacks

expr_lacks : (levels : ℕ) → Lacks (expr levels)
unfolding expr
expr_lacks zero ts x d = absurd d
expr_lacks (suc levels) ts x d = level_lacks (is_positive levels) (expr levels) (expr_lacks levels) ts x d

-- ---- policies

annotation_lacks : Lacks g.annotation
annotation_lacks =
    both_lack (one_lacks k.At refl)
    (λ at. both_lack (of_lacks words refl)
    (λ key. both_lack (or_lacks (behind_lacks k.LParen refl (both_lack (maybe_lacks (one_lacks k.Text refl)) (λ text. behind_lacks k.RParen refl (empty_lacks _)))) (empty_lacks _))
    (λ value. empty_lacks _)))

constraint_lacks : Lacks g.entity_constraint
constraint_lacks =
    or_lacks (giving_lacks _ (behind_lacks k.Equal refl uid_lacks))
    (or_lacks (giving_lacks _ (behind_lacks k.In refl uid_lacks))
    (or_lacks (behind_lacks k.Is refl (both_lack path_lacks (λ name. both_lack (maybe_lacks (behind_lacks k.In refl uid_lacks)) (λ entity. empty_lacks _)))) (empty_lacks _)))

part_lacks : (variable : TokenKind) → is_end variable ≡ false → Lacks (g.entity_part variable)
part_lacks variable h = behind_lacks variable h constraint_lacks

uids_lack : Lacks g.uids
uids_lack = or_lacks (both_lack uid_lacks (λ first. both_lack (many_lack (lang.◌>>◌ (lang.one k.Comma) g.uid) (behind_lacks k.Comma refl uid_lacks)) (λ more. empty_lacks _))) (empty_lacks _)

action_lacks : Lacks g.action_part
action_lacks =
    behind_lacks k.Action refl
    (or_lacks (giving_lacks _ (behind_lacks k.Equal refl uid_lacks))
    (or_lacks (behind_lacks k.In refl (or_lacks (behind_lacks k.LBracket refl (both_lack uids_lack (λ found. behind_lacks k.RBracket refl (empty_lacks _)))) (giving_lacks _ uid_lacks)))
    (empty_lacks _)))

scope_lacks : Lacks g.scope
scope_lacks =
    both_lack (part_lacks k.Principal refl)
    (λ principal. behind_lacks k.Comma refl
    (both_lack action_lacks
    (λ action. behind_lacks k.Comma refl
    (both_lack (part_lacks k.Resource refl) (λ resource. empty_lacks _)))))

condition_lacks : (n : ℕ) → Lacks (g.condition n)
condition_lacks n =
    both_lack (symbol_lacks condition_word_of refl) (λ word. behind_lacks k.LBrace refl (both_lack (expr_lacks n) (λ x. behind_lacks k.RBrace refl (empty_lacks _))))

-- ---- one policy: its last token alone ends it

pub record Ended (ts : List Token) : Type 0 where
  pub before : List Token
  pub last : Token
  pub whole : ts ≡ before ++ last ∷ []
  pub none_before : NoEnd before
  pub ends : is_end last.kind ≡ true

-- a language of what ends so
abbrev pub Ends : {A : Type 0} → Lang A → Type 0
Ends {A} L = (ts : List Token) (x : A) → L ts x → Ended ts

both_end : {A B : Type 0} {L : Lang A} {M : A → Lang B} → Lacks L → ((a : A) → Ends (M a)) → Ends (lang.◌>>=◌ L M)
both_end l m ts b j =
    let end = m j.value j.back b j.second in
    record {
      before = j.front ++ end.before;
      last = end.last;
      whole = j.whole ∙ ap (λ (x : List Token). j.front ++ x) end.whole ∙ sym (append_assoc j.front end.before (end.last ∷ []));
      none_before = no_end_join j.front end.before (l j.front j.value j.first) end.none_before;
      ends = end.ends;
    }

-- the mark itself
mark_ends : {A : Type 0} (a : A) → Ends (lang.◌>>◌ (lang.one k.Semicolon) (lang.empty a))
mark_ends a ts x j = record {
  before = [];
  last = j.value;
  whole = j.whole ∙ ap (λ (b : List Token). j.front ++ b) j.second.0 ∙ append-nil j.front ∙ j.first.0;
  none_before = tt;
  ends = ap is_end (kinds_are_same j.value.kind k.Semicolon j.first.1);
}

pub policy_ends : (n : ℕ) → Ends (g.policy n)
policy_ends n =
    both_end (many_lack g.annotation annotation_lacks)
    (λ annotations. both_end (of_lacks effects refl)
    (λ effect. both_end (one_lacks k.LParen refl)
    (λ _. both_end scope_lacks
    (λ found. both_end (one_lacks k.RParen refl)
    (λ _. both_end (many_lack (g.condition n) (condition_lacks n))
    (λ conditions. mark_ends _))))))
