-- The own name of each core node of a policy's expression stands in the tokens of the policy.
use Rattle.std.proofs.Common.{◌≡◌, ℕ, zero, suc, ◌+◌, ◌++◌, List, [], ◌∷◌, length, drop, take, map, Option, Some, None, refl, sym, ap, ◌∙◌, subst, append_assoc}
use Rattle.std.specs.List.{slice_get}
use Rattle.std.specs.Option.{option_and_then}
use Rattle.std.proofs.lemmas.List.{append-nil, take-append-drop, drop-drop}
use Rattle.std.proofs.Math.Seq.{drop-append_seam}
use Rattle.values.specs.declared.entity_uid.EntityUid.{EntityUid}
use Rattle.grammar_syntax.specs.declared.token.Token.{Token}
use Rattle.grammar_syntax.specs.declared.token.TokenKind.{TokenKind}
use Rattle.grammar_syntax.specs.declared.token.TokenKind.TheVariants as k
use Rattle.grammar_syntax.specs.declared.name_trees.PathTree.{PathTree}
use Rattle.grammar_syntax.specs.declared.name_trees.UidTree.{UidTree}
use Rattle.grammar_syntax.specs.Kinds.{only}
use Rattle.grammar_syntax.specs.Lang.{many}
use Rattle.grammar_syntax.specs.Lang as lang
use Rattle.grammar_syntax.specs.Lexing.{IsLexed}
use Rattle.grammar_syntax.specs.Grammar as names
use Rattle.grammar_core.specs.declared.expr.Expr.{Expr}
use Rattle.grammar_core.specs.declared.expr.Expr.TheViews.{out-Expr}
use Rattle.grammar_core.specs.declared.expr.Expr.TheVariants as core
use Rattle.grammar_core.specs.declared.leaf.Variable.{Variable}
use Rattle.grammar_core.specs.declared.leaf.Variable.TheVariants.{Principal, Action, Resource}
use Rattle.grammar_core.specs.declared.operator.Binary.{Binary}
use Rattle.grammar_core.specs.declared.operator.Binary.TheVariants.{In}
use Rattle.grammar_core.specs.declared.operator.Unary.TheVariants.{Not, Is}
use Rattle.grammar_parsing.specs.declared.tree.Condition.{Condition}
use Rattle.grammar_parsing.specs.declared.tree.ConditionWord.{ConditionWord}
use Rattle.grammar_parsing.specs.declared.tree.ConditionWord.TheVariants.{When, Unless}
use Rattle.grammar_parsing.specs.declared.tree.PartTree.{PartTree}
use Rattle.grammar_parsing.specs.declared.tree.PartTree.TheVariants as part
use Rattle.grammar_parsing.specs.declared.tree.ActionTree.{ActionTree}
use Rattle.grammar_parsing.specs.declared.tree.ActionTree.TheVariants as action
use Rattle.grammar_parsing.specs.declared.tree.PolicyTree.{PolicyTree}
use Rattle.grammar_parsing.specs.Expressions.{nesting_limit}
use Rattle.grammar_parsing.specs.Grammar as p
use Rattle.fault_places.specs.TokenCounts.{path_count, uid_count, each_count}
use Rattle.typing.specs.Places.{operands_of, operands_in, follow, and_then}
use Rattle.policy_grammar.specs.declared.policy.EntityScope.{EntityScope}
use Rattle.policy_grammar.specs.declared.policy.EntityScope.TheVariants as entities
use Rattle.policy_grammar.specs.declared.policy.ActionScope.{ActionScope}
use Rattle.policy_grammar.specs.declared.policy.ActionScope.TheVariants as actions
use Rattle.policy_grammar.specs.declared.policy.Policy.{Policy}
use Rattle.policy_grammar.specs.grammar_desugaring.Core.{core_of}
use Rattle.policy_grammar.specs.grammar_desugaring.Meaning.{uid_of}
use Rattle.policy_grammar.specs.Conditions.{condition_of, joined, condition_expression}
use Rattle.policy_grammar.specs.CoreOf.{AreUidsOf, IsEntityScopeOf, IsActionScopeOf, IsCoreOf}
use Rattle.policy_grammar.specs.PolicyExpression.{expression_of, falsehood, entity_literal, entity_part, action_part}
use Rattle.fault_places.specs.Places.{to, part_count, action_count, condition_count}
use Rattle.fault_places.specs.Places.{NodePlace, in_entity, in_action}
use Rattle.fault_places.specs.Places.{at_conditions, by_word, unless_at, from_resource, from_action, from_effect}
use Rattle.fault_places.specs.Names.{named as names_at, uid_tokens}
use Rattle.fault_places.proofs.LanguageCounts.{path_fits, uid_fits}
use Rattle.fault_places.specs.NameWritten.{OwnName, entity, tested_type, name_of, IsNameWriting, as_uid, as_path, NameHasTokensIn}
use Rattle.fault_places.proofs.Languages.{Shows, both_shows, past_shows, end_shows, nothing_shows, or_shows}
use Rattle.fault_places.proofs.Lists.{Ends, ends_here, ends_later, past, some_same, none_some, swapped}
use Rattle.fault_places.proofs.Rows.{row_placed, mapped}
use Rattle.fault_places.proofs.Walking.{further}
use Rattle.fault_places.proofs.ScopeCounts.{part_fits, action_fits}
use Rattle.fault_places.proofs.PolicyNodes.{Laid, policy_tokens, place_is, braced, inside_is, condition_length, follow_one, follow_left, follow_right, follow_off, no_operand}
use Rattle.fault_places.proofs.OwnNames.{named_in, path_tokens-is, uid_tokens-is, name_has}

-- The name at a place is `mine`, with which some end of the tokens ts begins.
record NameAt (text : List ℕ) (ts : List Token) (place : NodePlace) (n : OwnName) : Type 0 where
  mine : List Token
  behind : List Token
  within : Ends (mine ++ behind) ts
  found : names_at place ≡ Some mine
  derives : IsNameWriting text mine n

name_later : (text : List ℕ) (ts us : List Token) (place : NodePlace) (n : OwnName) → Ends us ts → NameAt text us place n
    → NameAt text ts place n
name_later text ts us place n ends a = record {
  mine = a.mine;
  behind = a.behind;
  within = further (a.mine ++ a.behind) us ts a.within ends;
  found = a.found;
  derives = a.derives;
}

nameless : {n : OwnName} (e z : Expr) → z ≡ e → name_of (out-Expr z) ≡ None → name_of (out-Expr e) ≡ Some n → ⊥
nameless e z is none h = none_some (sym none ∙ ap (λ y. name_of (out-Expr y)) is ∙ h)

-- ## Conditions

one_name : (text : List ℕ) (c : Condition) (ts us behind : List Token) (path : List ℕ) (e : Expr) (n : OwnName)
    (word : ConditionWord) → ts ≡ us ++ behind → p.condition nesting_limit us c
    → follow path (condition_expression word (core_of text c.expression)) ≡ Some e → name_of (out-Expr e) ≡ Some n
    → NameAt text ts (by_word word c ts path) n
one_name text c ts us behind path e n When whole_is d h named =
    let b = braced us c d in
    let a = named_in text c.expression (drop 2 ts) b.inside (b.closing ∷ behind) path e n
    (inside_is ts us behind c whole_is b) b.derives h named in
    record {
      mine = a.mine;
      behind = a.behind;
      within = further _ (drop 2 ts) ts a.within (2, refl);
      found = a.found;
      derives = a.derives;
    }
one_name text c ts us behind [] e n Unless whole_is d h named =
    absurd (nameless e _ (some_same h) (ap name_of (core.outs-Unary _ _)) named)
one_name text c ts us behind (i ∷ path) e n Unless whole_is d h named =
    let o = follow_one (core_of text c.expression) (core.Unary Not (core_of text c.expression)) i path e
    (ap operands_in (core.outs-Unary Not (core_of text c.expression))) h in
    subst (λ j. NameAt text ts (unless_at (to j path) c ts) n) (sym o.0)
    (one_name text c ts us behind path e n When whole_is d o.1 named)

in_conditions : (text : List ℕ) (policy : List Token) (cs : List Condition) (ts us behind : List Token) (path : List ℕ)
    (e : Expr) (n : OwnName) → ts ≡ us ++ behind → many (p.condition nesting_limit) us cs
    → follow path (joined (map (condition_of text) cs)) ≡ Some e → name_of (out-Expr e) ≡ Some n
    → NameAt text ts (at_conditions policy cs ts path) n
in_conditions text policy [] ts us behind [] e n is d h named =
    absurd (nameless e _ (some_same h) (ap name_of (core.outs-Literal _)) named)
in_conditions text policy [] ts us behind (i ∷ path) e n is d h named = absurd (no_operand i path e h)
in_conditions text policy (c ∷ []) ts us behind path e n is d h named =
    one_name text c ts d.0 (d.1 ++ behind) path e n c.word
    (is ∙ ap (λ vs. vs ++ behind) d.2 ∙ append_assoc d.0 d.1 behind) d.3 h named
in_conditions text policy (c ∷ (g ∷ cs)) ts us behind [] e n is d h named =
    absurd (nameless e _ (some_same h) (ap name_of (core.outs-And _ _)) named)
in_conditions text policy (c ∷ (g ∷ cs)) ts us behind (zero ∷ path) e n is d h named =
    one_name text c ts d.0 (d.1 ++ behind) path e n c.word
    (is ∙ ap (λ vs. vs ++ behind) d.2 ∙ append_assoc d.0 d.1 behind) d.3
    (follow_left (condition_of text c) (joined (map (condition_of text) (g ∷ cs))) path e h) named
in_conditions text policy (c ∷ (g ∷ cs)) ts us behind (suc zero ∷ path) e n is d h named =
    let rest = drop (condition_count c) ts in
    name_later text ts rest _ n (condition_count c, refl)
    (in_conditions text policy (g ∷ cs) rest d.1 behind path e n
    (past ts d.0 (d.1 ++ behind) (condition_count c)
    (is ∙ ap (λ vs. vs ++ behind) d.2 ∙ append_assoc d.0 d.1 behind) (condition_length d.0 c d.3)) d.4
    (follow_right (condition_of text c) (joined (map (condition_of text) (g ∷ cs))) path e h) named)
in_conditions text policy (c ∷ (g ∷ cs)) ts us behind (suc (suc i) ∷ path) e n is d h named =
    absurd (follow_off (condition_of text c) (joined (map (condition_of text) (g ∷ cs))) i path e h)

-- ## The scope's parts: the tokens of their names

-- two tokens, and a uid
pub record Pointed (ts : List Token) (uid : UidTree) : Type 0 where
  pub first : Token
  pub second : Token
  pub rest : List Token
  pub whole : ts ≡ first ∷ second ∷ rest
  pub derives : names.uid rest uid

abbrev PartHas : List Token → PartTree → Type 0
PartHas ts part.Any = Unit {0}
PartHas ts (part.Equal uid) = Pointed ts uid
PartHas ts (part.In uid) = Pointed ts uid
PartHas ts (part.Is name) =
    (first : Token) × (second : Token) × (rest : List Token) × (ts ≡ first ∷ second ∷ rest) × names.path rest name
PartHas ts (part.IsIn name uid) =
    (first : Token) × (second : Token) × (ps : List Token) × (third : Token) × (us : List Token)
    × (ts ≡ first ∷ second ∷ (ps ++ third ∷ us)) × names.path ps name × names.uid us uid

tested_has : (word is_token : Token) (ps vs : List Token) (name : PathTree) (o : Option UidTree) → names.path ps name
    → lang.optional p.in_uid vs o → PartHas (word ∷ is_token ∷ (ps ++ vs)) (p.is_in name o)
tested_has word is_token ps vs name None d i =
    (word, is_token, ps ++ vs, refl, subst (λ us. names.path us name) (sym (ap (λ us. ps ++ us) i ∙ append-nil ps)) d)
tested_has word is_token ps vs name (Some uid) d i = (
  word,
  is_token,
  ps,
  i.value,
  i.back,
  ap (λ us. word ∷ is_token ∷ (ps ++ us)) (i.whole ∙ ap (λ us. us ++ i.back) i.first.0),
  d,
  i.second,
)

part_has : (kind : TokenKind) → Shows (p.entity_part kind) PartHas
part_has kind =
    past_shows (only kind) PartHas
    (λ word. or_shows (λ vs x. PartHas (word ∷ vs) x)
    (end_shows part.Equal (λ vs x. PartHas (word ∷ vs) x)
    (past_shows (only k.Equal) (λ vs uid. Pointed (word ∷ vs) uid)
    (λ sign vs uid d. record { first = word; second = sign; rest = vs; whole = refl; derives = d })))
    (or_shows (λ vs x. PartHas (word ∷ vs) x)
    (end_shows part.In (λ vs x. PartHas (word ∷ vs) x)
    (past_shows (only k.In) (λ vs uid. Pointed (word ∷ vs) uid)
    (λ sign vs uid d. record { first = word; second = sign; rest = vs; whole = refl; derives = d })))
    (or_shows (λ vs x. PartHas (word ∷ vs) x)
    (past_shows (only k.Is) (λ vs x. PartHas (word ∷ vs) x)
    (λ is_token. both_shows (λ vs x. PartHas (word ∷ is_token ∷ vs) x)
    (λ ps name d. end_shows (p.is_in name) (λ vs x. PartHas (word ∷ is_token ∷ (ps ++ vs)) x)
    (λ vs o i. tested_has word is_token ps vs name o d i))))
    (nothing_shows part.Any (λ vs x. PartHas (word ∷ vs) x) tt))))

abbrev ActionHas : List Token → ActionTree → Type 0
ActionHas ts action.Any = Unit {0}
ActionHas ts (action.Equal uid) = Pointed ts uid
ActionHas ts (action.In uid) = Pointed ts uid
ActionHas ts (action.InList uids) =
    (first : Token) × (second : Token) × (third : Token) × (row : List Token) × (last : Token)
    × (ts ≡ first ∷ second ∷ third ∷ (row ++ last ∷ [])) × p.uids row uids

action_has : Shows p.action_part ActionHas
action_has =
    past_shows (only k.Action) ActionHas
    (λ word. or_shows (λ vs x. ActionHas (word ∷ vs) x)
    (end_shows action.Equal (λ vs x. ActionHas (word ∷ vs) x)
    (past_shows (only k.Equal) (λ vs uid. Pointed (word ∷ vs) uid)
    (λ sign vs uid d. record { first = word; second = sign; rest = vs; whole = refl; derives = d })))
    (or_shows (λ vs x. ActionHas (word ∷ vs) x)
    (past_shows (only k.In) (λ vs x. ActionHas (word ∷ vs) x)
    (λ in_token. or_shows (λ vs x. ActionHas (word ∷ in_token ∷ vs) x)
    (past_shows (only k.LBracket) (λ vs x. ActionHas (word ∷ in_token ∷ vs) x)
    (λ opening. both_shows (λ vs x. ActionHas (word ∷ in_token ∷ opening ∷ vs) x)
    (λ us uids d. past_shows (only k.RBracket) (λ vs x. ActionHas (word ∷ in_token ∷ opening ∷ (us ++ vs)) x)
    (λ closing. nothing_shows (action.InList uids)
    (λ vs x. ActionHas (word ∷ in_token ∷ opening ∷ (us ++ closing ∷ vs)) x)
    (word, in_token, opening, us, closing, refl, d)))))
    (end_shows action.In (λ vs x. ActionHas (word ∷ in_token ∷ vs) x)
    (λ vs uid d. record { first = word; second = in_token; rest = vs; whole = refl; derives = d }))))
    (nothing_shows action.Any (λ vs x. ActionHas (word ∷ vs) x) tt)))

-- ## The scope's parts: their names

no_more : (e z : Expr) (i : ℕ) (path : List ℕ) → operands_of z ≡ [] → follow (i ∷ path) z ≡ Some e → ⊥
no_more e z i path outs h = none_some (sym (ap (λ ys. and_then (slice_get ys i) (λ y. follow path y)) outs) ∙ h)

-- a node of the literal of a uid
literal_path : (text : List ℕ) (u : EntityUid) (path : List ℕ) (e : Expr) (n : OwnName)
    → follow path (entity_literal u) ≡ Some e → name_of (out-Expr e) ≡ Some n → (path ≡ []) × (n ≡ entity u)
literal_path text u [] e n h named =
    (refl, sym (some_same (sym (ap name_of (core.outs-Literal _)) ∙ ap (λ y. name_of (out-Expr y)) (some_same h) ∙ named)))
literal_path text u (i ∷ path) e n h named = absurd (no_more e _ i path (ap operands_in (core.outs-Literal _)) h)

-- a variable has no name
no_variable : (x : Variable) (path : List ℕ) (e : Expr) (n : OwnName) → follow path (core.Variable x) ≡ Some e
    → name_of (out-Expr e) ≡ Some n → ⊥
no_variable x [] e n h named = nameless e _ (some_same h) (ap name_of (core.outs-Variable x)) named
no_variable x (i ∷ path) e n h named = no_more e _ i path (ap operands_in (core.outs-Variable x)) h

-- a node of `x == uid` or `x in uid`: only its second operand has a name
second_path : (text : List ℕ) (op : Binary) (x : Variable) (u : EntityUid) (path : List ℕ) (e : Expr) (n : OwnName)
    → follow path (core.Binary op (core.Variable x) (entity_literal u)) ≡ Some e → name_of (out-Expr e) ≡ Some n
    → (path ≡ 1 ∷ []) × (n ≡ entity u)
second_path text op x u [] e n h named = absurd (nameless e _ (some_same h) (ap name_of (core.outs-Binary _ _ _)) named)
second_path text op x u (zero ∷ path) e n h named =
    absurd (no_variable x path e n
    (sym (ap (λ y. and_then (slice_get (operands_in y) 0) (λ z. follow path z)) (core.outs-Binary op _ _)) ∙ h) named)
second_path text op x u (suc zero ∷ path) e n h named =
    let l = literal_path text u path e n
    (sym (ap (λ y. and_then (slice_get (operands_in y) 1) (λ z. follow path z)) (core.outs-Binary op _ _)) ∙ h) named in
    (ap (λ q. 1 ∷ q) l.0, l.1)
second_path text op x u (suc (suc i) ∷ path) e n h named =
    absurd (none_some
    (sym (ap (λ y. and_then (slice_get (operands_in y) (suc (suc i))) (λ z. follow path z)) (core.outs-Binary op _ _)) ∙ h))

-- a node of `x is T`: itself has a name
test_path : (text : List ℕ) (x : Variable) (name : List ℕ) (path : List ℕ) (e : Expr) (n : OwnName)
    → follow path (core.Unary (Is name) (core.Variable x)) ≡ Some e → name_of (out-Expr e) ≡ Some n
    → (path ≡ []) × (n ≡ tested_type name)
test_path text x name [] e n h named =
    (refl, sym (some_same (sym (ap name_of (core.outs-Unary _ _)) ∙ ap (λ y. name_of (out-Expr y)) (some_same h) ∙ named)))
test_path text x name (i ∷ path) e n h named =
    let o = follow_one (core.Variable x) _ i path e (ap operands_in (core.outs-Unary _ _)) h in
    absurd (no_variable x path e n o.1 named)

-- the uid behind two tokens of a part
pointed_at : (text : List ℕ) (ts mine rest : List Token) (uid : UidTree) (u : EntityUid) (n : OwnName) (place : NodePlace)
    → ts ≡ mine ++ rest → Pointed mine uid → u ≡ uid_of text uid → n ≡ entity u
    → names_at place ≡ Some (uid_tokens uid (drop 2 ts)) → NameAt text ts place n
pointed_at text ts mine rest uid u n place is pt same_uid same found =
    let from : drop 2 ts ≡ pt.rest ++ rest = ap (drop 2) (is ∙ ap (λ vs. vs ++ rest) pt.whole) in
    record {
      mine = pt.rest;
      behind = rest;
      within = (2, sym from);
      found = found ∙ ap (λ vs. Some vs) (uid_tokens-is (drop 2 ts) pt.rest rest uid from pt.derives);
      derives = subst (IsNameWriting text pt.rest) (sym (same ∙ ap entity same_uid)) (as_uid uid pt.derives);
    }

entity_named : (text : List ℕ) (x : Variable) (tree : PartTree) (scope : EntityScope) (ts mine rest : List Token)
    (path : List ℕ) (e : Expr) (n : OwnName) → IsEntityScopeOf text tree scope → ts ≡ mine ++ rest → PartHas mine tree
    → follow path (entity_part x scope) ≡ Some e → name_of (out-Expr e) ≡ Some n
    → NameAt text ts (in_entity tree ts path) n
entity_named text x part.Any entities.Any ts mine rest [] e n core_is is has h named =
    absurd (nameless e _ (some_same h) (ap name_of (core.outs-Literal _)) named)
entity_named text x part.Any entities.Any ts mine rest (i ∷ path) e n core_is is has h named =
    absurd (no_operand i path e h)
entity_named text x (part.Equal uid) (entities.Equal u) ts mine rest path e n core_is is has h named =
    let s = second_path text _ x u path e n h named in
    subst (λ q. NameAt text ts (in_entity (part.Equal uid) ts q) n) (sym s.0)
    (pointed_at text ts mine rest uid u n _ is has core_is s.1 refl)
entity_named text x (part.In uid) (entities.In u) ts mine rest path e n core_is is has h named =
    let s = second_path text _ x u path e n h named in
    subst (λ q. NameAt text ts (in_entity (part.In uid) ts q) n) (sym s.0)
    (pointed_at text ts mine rest uid u n _ is has core_is s.1 refl)
entity_named text x (part.Is name) (entities.Is type_name) ts mine rest path e n core_is is has h named =
    let s = test_path text x type_name path e n h named in
    let from : drop 2 ts ≡ has.2 ++ rest = ap (drop 2) (is ∙ ap (λ vs. vs ++ rest) has.3) in
    subst (λ q. NameAt text ts (in_entity (part.Is name) ts q) n) (sym s.0)
    (record {
      mine = has.2;
      behind = rest;
      within = (2, sym from);
      found = ap (λ vs. Some vs) (path_tokens-is (drop 2 ts) has.2 rest name from has.4);
      derives = subst (IsNameWriting text has.2) (sym (s.1 ∙ ap tested_type core_is)) (as_path name has.4);
    })
entity_named text x (part.IsIn name uid) (entities.IsIn type_name u) ts mine rest [] e n core_is is has h named =
    absurd (nameless e _ (some_same h) (ap name_of (core.outs-And _ _)) named)
entity_named text x (part.IsIn name uid) (entities.IsIn type_name u) ts mine rest (zero ∷ path) e n core_is is has h named =
    let s = test_path text x type_name path e n (follow_left _ _ path e h) named in
    let from : drop 2 ts ≡ has.2 ++ (has.3 ∷ (has.4 ++ rest))
    = ap (drop 2) (is ∙ ap (λ vs. vs ++ rest) has.5) ∙ append_assoc has.2 (has.3 ∷ has.4) rest in
    subst (λ q. NameAt text ts (in_entity (part.IsIn name uid) ts (0 ∷ q)) n) (sym s.0)
    (record {
      mine = has.2;
      behind = has.3 ∷ (has.4 ++ rest);
      within = (2, sym from);
      found = ap (λ vs. Some vs) (path_tokens-is (drop 2 ts) has.2 (has.3 ∷ (has.4 ++ rest)) name from has.6);
      derives = subst (IsNameWriting text has.2) (sym (s.1 ∙ ap tested_type core_is.0)) (as_path name has.6);
    })
entity_named text x (part.IsIn name uid) (entities.IsIn type_name u) ts mine rest (suc zero ∷ path) e n core_is is has h named =
    let s = second_path text _ x u path e n (follow_right _ _ path e h) named in
    let from : drop 2 ts ≡ has.2 ++ (has.3 ∷ (has.4 ++ rest))
    = ap (drop 2) (is ∙ ap (λ vs. vs ++ rest) has.5) ∙ append_assoc has.2 (has.3 ∷ has.4) rest in
    let after : drop 1 (drop (path_count name) (drop 2 ts)) ≡ has.4 ++ rest
    = ap (drop 1) (past (drop 2 ts) has.2 (has.3 ∷ (has.4 ++ rest)) (path_count name) from (path_fits has.2 name has.6)) in
    subst (λ q. NameAt text ts (in_entity (part.IsIn name uid) ts (1 ∷ q)) n) (sym s.0)
    (record {
      mine = has.4;
      behind = rest;
      within = ends_later 1 _ _ ts (sym after) (ends_later (path_count name) (drop 2 ts) _ ts refl (2, refl));
      found = ap (λ vs. Some vs) (uid_tokens-is _ has.4 rest uid after has.7);
      derives = subst (IsNameWriting text has.4) (sym (s.1 ∙ ap entity core_is.1)) (as_uid uid has.7);
    })
entity_named text x (part.IsIn name uid) (entities.IsIn type_name u) ts mine rest (suc (suc i) ∷ path) e n core_is is has h named =
    absurd (follow_off _ _ i path e h)
entity_named text x tree scope ts mine rest path e n core_is is has h named = absurd core_is

-- ## The action

-- the uid tree of an entity of a list
pub record Zipped (text : List ℕ) (trees : List UidTree) (i : ℕ) (u : EntityUid) : Type 0 where
  pub uid : UidTree
  pub found : slice_get trees i ≡ Some uid
  pub same : u ≡ uid_of text uid

zipped : (text : List ℕ) (trees : List UidTree) (uids : List EntityUid) (i : ℕ) (u : EntityUid) → AreUidsOf text trees uids
    → slice_get uids i ≡ Some u → Zipped text trees i u
zipped text [] [] i u z h = absurd (none_some h)
zipped text (t ∷ trees) (v ∷ uids) zero u z h = record { uid = t; found = refl; same = sym (some_same h) ∙ z.0 }
zipped text (t ∷ trees) (v ∷ uids) (suc i) u z h =
    let m = zipped text trees uids i u z.1 h in record { uid = m.uid; found = m.found; same = m.same }
zipped text trees uids i u z h = absurd z

-- item i of a list in brackets
item_at : (text : List ℕ) (trees : List UidTree) (uids : List EntityUid) (ts mine rest : List Token) (i : ℕ)
    (path : List ℕ) (e : Expr) (n : OwnName) → AreUidsOf text trees uids → ts ≡ mine ++ rest
    → ActionHas mine (action.InList trees) → (o : Option Expr) → slice_get (map entity_literal uids) i ≡ o
    → and_then o (λ z. follow path z) ≡ Some e → name_of (out-Expr e) ≡ Some n
    → NameAt text ts (in_action (action.InList trees) ts (1 ∷ i ∷ path)) n
item_at text trees uids ts mine rest i path e n core_is is has None item h named = absurd (none_some h)
item_at text trees uids ts mine rest i path e n core_is is has (Some z) item h named =
    let m = mapped entity_literal uids i z item in
    let l = literal_path text m.item path e n (ap (follow path) m.same ∙ h) named in
    let zip = zipped text trees uids i m.item core_is m.found in
    let pl = row_placed names.uid uid_count uid_fits has.3 trees has.6 i zip.uid zip.found in
    let from : drop 3 ts ≡ has.3 ++ (has.4 ∷ rest)
    = ap (drop 3) (is ∙ ap (λ vs. vs ++ rest) has.5) ∙ append_assoc has.3 (has.4 ∷ []) rest in
    let heres : drop (each_count (map uid_count (take i trees))) (drop 3 ts) ≡ pl.mine ++ (pl.behind ++ (has.4 ∷ rest))
    = past (drop 3 ts) pl.before (pl.mine ++ (pl.behind ++ (has.4 ∷ rest))) _
    (from ∙ ap (λ vs. vs ++ (has.4 ∷ rest)) pl.written
    ∙ append_assoc pl.before (pl.mine ++ pl.behind) (has.4 ∷ rest)
    ∙ ap (λ vs. pl.before ++ vs) (append_assoc pl.mine pl.behind (has.4 ∷ rest))) pl.counted in
    subst (λ q. NameAt text ts (in_action (action.InList trees) ts (1 ∷ i ∷ q)) n) (sym l.0)
    (record {
      mine = pl.mine;
      behind = pl.behind ++ (has.4 ∷ rest);
      within = ends_later (each_count (map uid_count (take i trees))) (drop 3 ts) _ ts (sym heres) (3, refl);
      found = ap
          (option_and_then (λ uid. Some (uid_tokens uid (drop (each_count (map uid_count (take i trees))) (drop 3 ts)))))
          zip.found
          ∙ ap (λ vs. Some vs) (uid_tokens-is _ pl.mine (pl.behind ++ (has.4 ∷ rest)) zip.uid heres pl.derives);
      derives = subst (IsNameWriting text pl.mine) (sym (l.1 ∙ ap entity zip.same)) (as_uid zip.uid pl.derives);
    })

-- the uid of a list that a path leads to
listed_at : (text : List ℕ) (trees : List UidTree) (uids : List EntityUid) (ts mine rest : List Token) (path : List ℕ)
    (e : Expr) (n : OwnName) → AreUidsOf text trees uids → ts ≡ mine ++ rest → ActionHas mine (action.InList trees)
    → follow path (core.Set (map entity_literal uids)) ≡ Some e → name_of (out-Expr e) ≡ Some n
    → NameAt text ts (in_action (action.InList trees) ts (1 ∷ path)) n
listed_at text trees uids ts mine rest [] e n core_is is has h named =
    absurd (nameless e _ (some_same h) (ap name_of (core.outs-Set _)) named)
listed_at text trees uids ts mine rest (i ∷ path) e n core_is is has h named =
    item_at text trees uids ts mine rest i path e n core_is is has (slice_get (map entity_literal uids) i) refl
    (sym (ap (λ y. and_then (slice_get (operands_in y) i) (λ z. follow path z)) (core.outs-Set _)) ∙ h) named

-- `action in [..]`
in_list : (text : List ℕ) (trees : List UidTree) (uids : List EntityUid) (ts mine rest : List Token) (path : List ℕ)
    (e : Expr) (n : OwnName) → AreUidsOf text trees uids → ts ≡ mine ++ rest → ActionHas mine (action.InList trees)
    → follow path (core.Binary In (core.Variable Action) (core.Set (map entity_literal uids))) ≡ Some e
    → name_of (out-Expr e) ≡ Some n → NameAt text ts (in_action (action.InList trees) ts path) n
in_list text trees uids ts mine rest [] e n core_is is has h named =
    absurd (nameless e _ (some_same h) (ap name_of (core.outs-Binary _ _ _)) named)
in_list text trees uids ts mine rest (zero ∷ path) e n core_is is has h named =
    absurd (no_variable Action path e n
    (sym (ap (λ y. and_then (slice_get (operands_in y) 0) (λ z. follow path z)) (core.outs-Binary _ _ _)) ∙ h) named)
in_list text trees uids ts mine rest (suc zero ∷ path) e n core_is is has h named =
    listed_at text trees uids ts mine rest path e n core_is is has
    (sym (ap (λ y. and_then (slice_get (operands_in y) 1) (λ z. follow path z)) (core.outs-Binary _ _ _)) ∙ h) named
in_list text trees uids ts mine rest (suc (suc i) ∷ path) e n core_is is has h named =
    absurd (none_some
    (sym (ap (λ y. and_then (slice_get (operands_in y) (suc (suc i))) (λ z. follow path z)) (core.outs-Binary _ _ _)) ∙ h))

falsehood_named : (path : List ℕ) (e : Expr) (n : OwnName) → follow path falsehood ≡ Some e
    → name_of (out-Expr e) ≡ Some n → ⊥
falsehood_named [] e n h named = nameless e _ (some_same h) (ap name_of (core.outs-Literal _)) named
falsehood_named (i ∷ path) e n h named = no_more e _ i path (ap operands_in (core.outs-Literal _)) h

action_named : (text : List ℕ) (tree : ActionTree) (scope : ActionScope) (ts mine rest : List Token) (path : List ℕ)
    (e : Expr) (n : OwnName) → IsActionScopeOf text tree scope → ts ≡ mine ++ rest → ActionHas mine tree
    → follow path (action_part scope) ≡ Some e → name_of (out-Expr e) ≡ Some n
    → NameAt text ts (in_action tree ts path) n
action_named text action.Any actions.Any ts mine rest [] e n core_is is has h named =
    absurd (nameless e _ (some_same h) (ap name_of (core.outs-Literal _)) named)
action_named text action.Any actions.Any ts mine rest (i ∷ path) e n core_is is has h named =
    absurd (no_operand i path e h)
action_named text (action.Equal uid) (actions.Equal u) ts mine rest path e n core_is is has h named =
    let s = second_path text _ Action u path e n h named in
    subst (λ q. NameAt text ts (in_action (action.Equal uid) ts q) n) (sym s.0)
    (pointed_at text ts mine rest uid u n _ is has core_is s.1 refl)
action_named text (action.In uid) (actions.In u) ts mine rest path e n core_is is has h named =
    let s = second_path text _ Action u path e n h named in
    subst (λ q. NameAt text ts (in_action (action.In uid) ts q) n) (sym s.0)
    (pointed_at text ts mine rest uid u n _ is has core_is s.1 refl)
action_named text (action.InList trees) (actions.InList []) ts mine rest path e n core_is is has h named =
    absurd (falsehood_named path e n h named)
action_named text (action.InList trees) (actions.InList (u ∷ uids)) ts mine rest path e n core_is is has h named =
    in_list text trees (u ∷ uids) ts mine rest path e n core_is is has h named
action_named text tree scope ts mine rest path e n core_is is has h named = absurd core_is

-- ## The policy

module _ (text : List ℕ) (tree : PolicyTree) (whole : Policy) (core_is : IsCoreOf text tree whole) (ts : List Token)
    (l : Laid ts tree) (e : Expr) (n : OwnName) (named : name_of (out-Expr e) ≡ Some n) where
  resource_named : (us : List Token) (path : List ℕ)
      → us ≡ l.of_resource ++ l.closing ∷ (l.of_conditions ++ l.semicolon ∷ [])
      → follow path (core.And (entity_part Resource whole.scope.resource) whole.condition) ≡ Some e
      → NameAt text us (from_resource (policy_tokens ts tree l) tree us path) n
  resource_named us [] is h = absurd (nameless e _ (some_same h) (ap name_of (core.outs-And _ _)) named)
  resource_named us (zero ∷ path) is h =
      entity_named text Resource tree.resource whole.scope.resource us l.of_resource _ path e n core_is.resource is
      (part_has k.Resource l.of_resource tree.resource l.resource) (follow_left _ _ path e h) named
  resource_named us (suc zero ∷ path) is h =
      let rest = drop 1 (drop (part_count tree.resource) us) in
      name_later text us rest _ n
      (ends_later 1 _ _ us refl (ends_later (part_count tree.resource) us _ us refl (ends_here us us refl)))
      (in_conditions text (policy_tokens ts tree l) tree.conditions rest l.of_conditions (l.semicolon ∷ []) path e n
      (ap (drop 1) (past us l.of_resource _ (part_count tree.resource) is
      (part_fits k.Resource l.of_resource tree.resource l.resource)))
      l.conditions (ap (follow path) (sym core_is.condition) ∙ follow_right _ whole.condition path e h) named)
  resource_named us (suc (suc i) ∷ path) is h = absurd (follow_off _ _ i path e h)

  scope_named : (us : List Token) (path : List ℕ)
      → us ≡ l.of_action ++ l.second_comma ∷ (l.of_resource ++ l.closing ∷ (l.of_conditions ++ l.semicolon ∷ []))
      → follow path (core.And (action_part whole.scope.action)
      (core.And (entity_part Resource whole.scope.resource) whole.condition)) ≡ Some e
      → NameAt text us (from_action (policy_tokens ts tree l) tree us path) n
  scope_named us [] is h = absurd (nameless e _ (some_same h) (ap name_of (core.outs-And _ _)) named)
  scope_named us (zero ∷ path) is h =
      action_named text tree.action whole.scope.action us l.of_action _ path e n core_is.action is
      (action_has l.of_action tree.action l.action) (follow_left _ _ path e h) named
  scope_named us (suc zero ∷ path) is h =
      let rest = drop 1 (drop (action_count tree.action) us) in
      name_later text us rest _ n
      (ends_later 1 _ _ us refl (ends_later (action_count tree.action) us _ us refl (ends_here us us refl)))
      (resource_named rest path
      (ap (drop 1) (past us l.of_action _ (action_count tree.action) is (action_fits l.of_action tree.action l.action)))
      (follow_right _ _ path e h))
  scope_named us (suc (suc i) ∷ path) is h = absurd (follow_off _ _ i path e h)

  policy_named : (path : List ℕ) → follow path (expression_of whole) ≡ Some e
      → NameAt text (policy_tokens ts tree l) (from_effect (policy_tokens ts tree l) tree path) n
  policy_named [] h = absurd (nameless e _ (some_same h) (ap name_of (core.outs-And _ _)) named)
  policy_named (zero ∷ path) h =
      name_later text _ _ _ n (2, refl)
      (entity_named text Principal tree.principal whole.scope.principal _ l.of_principal _ path e n core_is.principal refl
      (part_has k.Principal l.of_principal tree.principal l.principal) (follow_left _ _ path e h) named)
  policy_named (suc zero ∷ path) h =
      let us = l.of_principal ++ l.first_comma ∷ (l.of_action
      ++ l.second_comma ∷ (l.of_resource ++ l.closing ∷ (l.of_conditions ++ l.semicolon ∷ []))) in
      let rest = drop 1 (drop (part_count tree.principal) us) in
      name_later text _ rest _ n (ends_later 1 _ _ _ refl (ends_later (part_count tree.principal) us _ _ refl (2, refl)))
      (scope_named rest path
      (ap (drop 1) (past us l.of_principal _ (part_count tree.principal) refl
      (part_fits k.Principal l.of_principal tree.principal l.principal)))
      (follow_right _ _ path e h))
  policy_named (suc (suc i) ∷ path) h = absurd (follow_off _ _ i path e h)

  pub name_stands_in : (path : List ℕ) → IsLexed text ts → follow path (expression_of whole) ≡ Some e
      → NameHasTokensIn text tree path n ts
  name_stands_in path lexed h =
      let a = policy_named path h in
      let m = a.within.0 in
      let s = name_has text a.mine n a.derives in
      let cut : a.mine ++ a.behind ≡ drop (m + length l.before) ts
      = a.within.1
      ∙ ap (drop m) (sym (drop-append_seam l.before (policy_tokens ts tree l)) ∙ ap (drop (length l.before)) (sym l.whole))
      ∙ drop-drop m (length l.before) ts ∙ ap (λ i. drop i ts) (swapped (length l.before) m) in
      record {
        before = take (m + length l.before) ts;
        first = s.first;
        mine = s.rest;
        behind = a.behind;
        whole = sym (take-append-drop (m + length l.before) ts)
            ∙ ap (λ us. take (m + length l.before) ts ++ us) (sym cut ∙ ap (λ us. us ++ a.behind) s.whole);
        found = ap names_at (place_is text tree whole core_is ts l e path lexed) ∙ a.found ∙ ap (λ us. Some us) s.whole;
        derives = subst (λ us. IsNameWriting text us n) s.whole a.derives;
      }
