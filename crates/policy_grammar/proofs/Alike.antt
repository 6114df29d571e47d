-- What a production derives of some tokens it derives, as some tree, of all that are of the same kinds: one rule a form,
-- and one a production. No production asks what an earlier one derived, but to build its tree.
use Rattle.std.proofs.Common.{◌≡◌, inl, inr, ℕ, zero, suc, Bool, true, false, List, [], ◌∷◌, ◌++◌, map, Option, Some}
use Rattle.std.proofs.Common.{None, refl, sym, ap, ◌∙◌}
use Rattle.grammar_desugaring.specs.grammar_syntax.declared.token.TokenKind.{TokenKind}
use Rattle.grammar_desugaring.specs.grammar_syntax.declared.token.TokenKind.TheVariants as k
use Rattle.grammar_desugaring.specs.grammar_syntax.declared.token.Token.{Token}
use Rattle.grammar_desugaring.specs.grammar_syntax.Idents.{is_ident}
use Rattle.grammar_desugaring.specs.grammar_syntax.Kinds.{Kinds, only}
use Rattle.grammar_desugaring.specs.grammar_syntax.Lang as lang
use Rattle.grammar_desugaring.specs.grammar_syntax.Lang.{Lang}
use Rattle.grammar_desugaring.specs.grammar_syntax.Grammar as names
use Rattle.grammar_parsing.specs.Expressions as e
use Rattle.grammar_parsing.specs.Expressions.{boolean_of, variable_of, sign_of, comparison_of, patterns}
use Rattle.grammar_parsing.specs.Expressions.{is_positive, expr}
use Rattle.grammar_desugaring.specs.grammar_syntax.declared.tree.ExprTree.TheVariants as tree
use Rattle.grammar_parsing.specs.Grammar as g
use Rattle.grammar_parsing.specs.Grammar.{words, effects, condition_word_of}

abbrev pub kinds : List Token → List TokenKind
kinds ts = map (λ t. t.kind) ts

-- what the first derives of some tokens, the second derives of tokens of the same kinds
abbrev pub Kin : {A B : Type 0} → Lang A → Lang B → Type 0
Kin {A} {B} L M = (ts us : List Token) (x : A) → kinds ts ≡ kinds us → L ts x → (y : B) × M us y

-- tokens of the same kinds as two lists in a row are such lists
record Halves (front back us : List Token) : Type 0 where
  first : List Token
  second : List Token
  whole : us ≡ first ++ second
  first_same : kinds front ≡ kinds first
  second_same : kinds back ≡ kinds second

halves : (front back us : List Token) → kinds (front ++ back) ≡ kinds us → Halves front back us
halves [] back us h = record { first = []; second = us; whole = refl; first_same = refl; second_same = h }
halves (t ∷ front) back [] h = absurd cc
halves (t ∷ front) back (u ∷ us) h =
    let more = halves front back us cc in
    let same : t.kind ≡ u.kind = cc in
    record {
      first = u ∷ more.first;
      second = more.second;
      whole = ap (λ (x : List Token). u ∷ x) more.whole;
      first_same = λ i. same i ∷ more.first_same i;
      second_same = more.second_same;
    }

none_same : (us : List Token) → [] ≡ kinds us → us ≡ []
none_same [] h = refl
none_same (u ∷ us) h = absurd cc

-- one token
record One (kind : TokenKind) (us : List Token) : Type 0 where
  token : Token
  whole : us ≡ token ∷ []
  same : kind ≡ token.kind

one_same : (kind : TokenKind) (us : List Token) → kind ∷ [] ≡ kinds us → One kind us
one_same kind [] h = absurd cc
one_same kind (u ∷ []) h = record { token = u; whole = refl; same = cc }
one_same kind (u ∷ v ∷ us) h = absurd (let rest : [] ≡ v.kind ∷ kinds us = cc in cc)

of_kin : (ks : Kinds) → Kin (lang.of ks) (lang.of ks)
of_kin ks ts us t same d =
    let one = one_same t.kind us (sym (ap kinds d.0) ∙ same) in
    (one.token, (one.whole, ap ks (sym one.same) ∙ d.1))

empty_kin : {A B : Type 0} {a : A} {b : B} → Kin (lang.empty a) (lang.empty b)
empty_kin {b = b} ts us x same d = (b, (none_same us (sym (ap kinds d.0) ∙ same), refl))

both_kin : {A B C D : Type 0} {L : Lang A} {M : A → Lang B} {P : Lang C} {Q : C → Lang D} → Kin L P → ((a : A) (c : C) → Kin (M a) (Q c)) → Kin (lang.◌>>=◌ L M) (lang.◌>>=◌ P Q)
both_kin l m ts us x same j =
    let h = halves j.front j.back us (sym (ap kinds j.whole) ∙ same) in
    let first = l j.front h.first j.value h.first_same j.first in
    let second = m j.value first.0 j.back h.second x h.second_same j.second in
    (second.0, record { front = h.first; back = h.second; value = first.0; whole = h.whole; first = first.1; second = second.1 })

giving_kin : {A B C D : Type 0} {L : Lang A} {P : Lang C} {f : A → B} {g : C → D} → Kin L P → Kin (lang.◌giving◌ L f) (lang.◌giving◌ P g)
giving_kin l = both_kin l (λ a c. empty_kin)

or_kin : {A C : Type 0} {L M : Lang A} {P Q : Lang C} → Kin L P → Kin M Q → Kin (lang.◌or◌ L M) (lang.◌or◌ P Q)
or_kin l m ts us x same (inl d) = let y = l ts us x same d in (y.0, inl y.1)
or_kin l m ts us x same (inr d) = let y = m ts us x same d in (y.0, inr y.1)

maybe_kin : {A C : Type 0} {L : Lang A} {P : Lang C} → Kin L P → Kin (lang.optional L) (lang.optional P)
maybe_kin l ts us None same d = (None, none_same us (sym (ap kinds d) ∙ same))
maybe_kin l ts us (Some x) same d = let y = l ts us x same d in (Some y.0, y.1)

many_kin : {A : Type 0} (L : Lang A) → Kin L L → Kin (lang.many L) (lang.many L)
many_kin L l ts us [] same d = ([], none_same us (sym (ap kinds d) ∙ same))
many_kin L l ts us (x ∷ xs) same d =
    let h = halves d.0 d.1 us (sym (ap kinds d.2) ∙ same) in
    let first = l d.0 h.first x h.first_same d.3 in
    let second = many_kin L l d.1 h.second xs h.second_same d.4 in
    (first.0 ∷ second.0, (h.first, h.second, h.whole, first.1, second.1))

gate_kin : {A : Type 0} (may : Bool) {L : Lang A} → Kin L L → Kin (lang.gate may L) (lang.gate may L)
gate_kin true l ts us x same d = l ts us x same d
gate_kin false l ts us x same d = absurd d

symbol_kin : {A : Type 0} (meaning : TokenKind → Option A) → Kin (e.symbol meaning) (e.symbol meaning)
symbol_kin meaning ts us a same d =
    let one = one_same d.0.kind us (sym (ap kinds d.1) ∙ same) in
    (a, (one.token, one.whole, ap meaning (sym one.same) ∙ d.2))

-- whatever stands behind a token of this kind
behind_kin : {B D : Type 0} {M : Lang B} {Q : Lang D} (kind : TokenKind) → Kin M Q → Kin (lang.◌>>◌ (lang.one kind) M) (lang.◌>>◌ (lang.one kind) Q)
behind_kin kind m = both_kin (of_kin (only kind)) (λ _ _. m)

-- ---- names

path_kin : Kin names.path names.path
path_kin =
    both_kin (of_kin is_ident) (λ first first'. both_kin (many_kin (lang.◌>>◌ (lang.one k.Colons) (lang.of is_ident)) (behind_kin k.Colons (of_kin is_ident))) (λ more more'. empty_kin))

uid_kin : Kin names.uid names.uid
uid_kin = both_kin path_kin (λ name name'. behind_kin k.Colons (both_kin (of_kin (only k.Text)) (λ id id'. empty_kin)))

-- ---- expressions

chain_kin : {A : Type 0} (first : Lang _) (piece : Lang A) (make : _) → Kin first first → Kin piece piece → Kin (e.chain first piece make) (e.chain first piece make)
chain_kin first piece make f p = both_kin f (λ x x'. both_kin (many_kin piece p) (λ more more'. empty_kin))

literal_kin : Kin e.literal e.literal
literal_kin = or_kin (giving_kin (symbol_kin boolean_of)) (or_kin (giving_kin (of_kin (only k.Number))) (giving_kin (of_kin (only k.Text))))

key_kin : Kin e.key e.key
key_kin = or_kin (giving_kin (of_kin is_ident)) (giving_kin (of_kin (only k.Text)))

indexed_kin : Kin e.indexed e.indexed
indexed_kin = behind_kin k.LBracket (both_kin (of_kin (only k.Text)) (λ name name'. behind_kin k.RBracket empty_kin))

-- over the expressions of one level less
module _ (may : Bool) (inner : Lang _) (each : Kin inner inner) where
  arguments_kin : Kin (e.arguments may inner) (e.arguments may inner)
  arguments_kin =
      or_kin (both_kin each (λ first first'. both_kin (many_kin (lang.◌>>◌ (lang.one k.Comma) inner) (behind_kin k.Comma each)) (λ more more'. empty_kin))) empty_kin

  called_kin : Kin (e.called may inner) (e.called may inner)
  called_kin = behind_kin k.LParen (both_kin arguments_kin (λ found found'. behind_kin k.RParen empty_kin))

  call_kin : Kin (e.call may inner) (e.call may inner)
  call_kin = both_kin path_kin (λ name name'. both_kin called_kin (λ found found'. empty_kin))

  named_kin : Kin (e.named may inner) (e.named may inner)
  named_kin = or_kin (giving_kin (symbol_kin variable_of)) (or_kin (giving_kin uid_kin) (gate_kin may call_kin))

  parenthesized_kin : Kin (e.parenthesized may inner) (e.parenthesized may inner)
  parenthesized_kin = behind_kin k.LParen (both_kin each (λ x x'. behind_kin k.RParen empty_kin))

  set_kin : Kin (e.set may inner) (e.set may inner)
  set_kin = behind_kin k.LBracket (both_kin arguments_kin (λ found found'. behind_kin k.RBracket empty_kin))

  entry_kin : Kin (e.entry may inner) (e.entry may inner)
  entry_kin = both_kin key_kin (λ name name'. behind_kin k.Colon (both_kin each (λ x x'. empty_kin)))

  entries_kin : Kin (e.entries may inner) (e.entries may inner)
  entries_kin =
      or_kin (both_kin entry_kin (λ first first'. both_kin (many_kin (lang.◌>>◌ (lang.one k.Comma) (e.entry may inner)) (behind_kin k.Comma entry_kin)) (λ more more'. empty_kin))) empty_kin

  braced_kin : Kin (e.braced may inner) (e.braced may inner)
  braced_kin = behind_kin k.LBrace (both_kin entries_kin (λ found found'. behind_kin k.RBrace empty_kin))

  nested_kin : Kin (e.nested may inner) (e.nested may inner)
  nested_kin = or_kin parenthesized_kin (or_kin set_kin braced_kin)

  primary_kin : Kin (e.primary may inner) (e.primary may inner)
  primary_kin = or_kin named_kin (or_kin (gate_kin may nested_kin) literal_kin)

  maybe_called_kin : Kin (e.maybe_called may inner) (e.maybe_called may inner)
  maybe_called_kin = or_kin (gate_kin may (giving_kin called_kin)) empty_kin

  dotted_kin : Kin (e.dotted may inner) (e.dotted may inner)
  dotted_kin = behind_kin k.Dot (both_kin (of_kin is_ident) (λ name name'. both_kin maybe_called_kin (λ found found'. empty_kin)))

  member_kin : Kin (e.member may inner) (e.member may inner)
  member_kin = chain_kin (e.primary may inner) (lang.◌or◌ (e.dotted may inner) e.indexed) tree.Member primary_kin (or_kin dotted_kin indexed_kin)

  signed_kin : (sign : TokenKind) (make : _) (n : ℕ) → Kin (e.signed may inner sign make n) (e.signed may inner sign make n)
  signed_kin sign make zero ts us x same d = member_kin ts us x same d
  signed_kin sign make (suc n) ts us x same d = or_kin (behind_kin sign (both_kin (signed_kin sign make n) (λ x x'. empty_kin))) member_kin ts us x same d

  unary_kin : Kin (e.unary may inner) (e.unary may inner)
  unary_kin = or_kin (signed_kin k.Not tree.Not 4) (signed_kin k.Minus tree.Minus 4)

  product_kin : Kin (e.product may inner) (e.product may inner)
  product_kin = chain_kin (e.unary may inner) (lang.◌>>◌ (lang.one k.Star) (e.unary may inner)) tree.Product unary_kin (behind_kin k.Star unary_kin)

  term_kin : Kin (e.term may inner) (e.term may inner)
  term_kin = both_kin (symbol_kin sign_of) (λ sign sign'. both_kin product_kin (λ x x'. empty_kin))

  sum_kin : Kin (e.sum may inner) (e.sum may inner)
  sum_kin = chain_kin (e.product may inner) (e.term may inner) tree.Sum product_kin term_kin

  compared_kin : (x x' : _) → Kin (e.compared may inner x) (e.compared may inner x')
  compared_kin x x' = both_kin (symbol_kin comparison_of) (λ operator operator'. both_kin sum_kin (λ y y'. empty_kin))

  has_kin : (x x' : _) → Kin (e.has may inner x) (e.has may inner x')
  has_kin x x' = behind_kin k.Has (both_kin key_kin (λ name name'. empty_kin))

  like_kin : (x x' : _) → Kin (e.like may inner x) (e.like may inner x')
  like_kin x x' = behind_kin k.Like (both_kin (of_kin patterns) (λ text text'. empty_kin))

  typed_kin : (x x' : _) → Kin (e.type_test may inner x) (e.type_test may inner x')
  typed_kin x x' = behind_kin k.Is (both_kin path_kin (λ name name'. both_kin (maybe_kin (behind_kin k.In sum_kin)) (λ y y'. empty_kin)))

  relation_kin : Kin (e.relation may inner) (e.relation may inner)
  relation_kin = both_kin sum_kin (λ x x'. or_kin (compared_kin x x') (or_kin (has_kin x x') (or_kin (like_kin x x') (or_kin (typed_kin x x') empty_kin))))

  conjunction_kin : Kin (e.conjunction may inner) (e.conjunction may inner)
  conjunction_kin = chain_kin (e.relation may inner) (lang.◌>>◌ (lang.one k.And) (e.relation may inner)) tree.And relation_kin (behind_kin k.And relation_kin)

  disjunction_kin : Kin (e.disjunction may inner) (e.disjunction may inner)
  disjunction_kin = chain_kin (e.conjunction may inner) (lang.◌>>◌ (lang.one k.Or) (e.conjunction may inner)) tree.Or conjunction_kin (behind_kin k.Or conjunction_kin)

  conditional_kin : Kin (e.conditional may inner) (e.conditional may inner)
  conditional_kin =
      behind_kin k.If
      (both_kin each (λ test test'. both_kin (behind_kin k.Then each) (λ consequent consequent'. both_kin (behind_kin k.Else each) (λ alternative alternative'. empty_kin))))

  level_kin : Kin (e.level may inner) (e.level may inner)
  level_kin = or_kin (gate_kin may conditional_kin) disjunction_kin

expr_kin : (levels : ℕ) → Kin (expr levels) (expr levels)
unfolding expr
expr_kin zero ts us x same d = absurd d
expr_kin (suc levels) ts us x same d = level_kin (is_positive levels) (expr levels) (expr_kin levels) ts us x same d

-- ---- policies

annotation_kin : Kin g.annotation g.annotation
annotation_kin =
    both_kin (of_kin (only k.At))
    (λ at at'. both_kin (of_kin words)
    (λ key key'. both_kin (or_kin (behind_kin k.LParen (both_kin (maybe_kin (of_kin (only k.Text))) (λ text text'. behind_kin k.RParen empty_kin))) empty_kin)
    (λ value value'. empty_kin)))

constraint_kin : Kin g.entity_constraint g.entity_constraint
constraint_kin =
    or_kin (giving_kin (behind_kin k.Equal uid_kin))
    (or_kin (giving_kin (behind_kin k.In uid_kin))
    (or_kin (behind_kin k.Is (both_kin path_kin (λ name name'. both_kin (maybe_kin (behind_kin k.In uid_kin)) (λ entity entity'. empty_kin)))) empty_kin))

part_kin : (variable : TokenKind) → Kin (g.entity_part variable) (g.entity_part variable)
part_kin variable = behind_kin variable constraint_kin

uids_kin : Kin g.uids g.uids
uids_kin = or_kin (both_kin uid_kin (λ first first'. both_kin (many_kin (lang.◌>>◌ (lang.one k.Comma) g.uid) (behind_kin k.Comma uid_kin)) (λ more more'. empty_kin))) empty_kin

action_kin : Kin g.action_part g.action_part
action_kin =
    behind_kin k.Action
    (or_kin (giving_kin (behind_kin k.Equal uid_kin))
    (or_kin (behind_kin k.In (or_kin (behind_kin k.LBracket (both_kin uids_kin (λ found found'. behind_kin k.RBracket empty_kin))) (giving_kin uid_kin)))
    empty_kin))

scope_kin : Kin g.scope g.scope
scope_kin =
    both_kin (part_kin k.Principal)
    (λ principal principal'. behind_kin k.Comma
    (both_kin action_kin
    (λ action action'. behind_kin k.Comma
    (both_kin (part_kin k.Resource) (λ resource resource'. empty_kin)))))

condition_kin : (n : ℕ) → Kin (g.condition n) (g.condition n)
condition_kin n =
    both_kin (symbol_kin condition_word_of) (λ word word'. behind_kin k.LBrace (both_kin (expr_kin n) (λ x x'. behind_kin k.RBrace empty_kin)))

pub policy_kin : (n : ℕ) → Kin (g.policy n) (g.policy n)
policy_kin n =
    both_kin (many_kin g.annotation annotation_kin)
    (λ annotations annotations'. both_kin (of_kin effects)
    (λ effect effect'. behind_kin k.LParen
    (both_kin scope_kin
    (λ found found'. behind_kin k.RParen
    (both_kin (many_kin (g.condition n) (condition_kin n))
    (λ conditions conditions'. behind_kin k.Semicolon empty_kin))))))
