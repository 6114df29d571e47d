-- A text is read or refused.
use Rattle.std.proofs.Common.{◌≡◌, ◌⊎◌, ℕ, ◌+◌, ◌≤◌, ◌<◌, Bool, true, false, leb, leb-true, leb-false, List, [], ◌∷◌}
use Rattle.std.proofs.Common.{length, Option, Some, None, find, slice_get, Contains, All, IfSome, if◌then◌else◌, Result}
use Rattle.std.proofs.Common.{Ok, Err, refl, subst, inl, inr, not-le_of_lt}
use Rattle.std.specs.List.{AllByRecursion, AllZip, enumerate_from}
use Rattle.std.proofs.lemmas.List.Elements.{All-from_recursion, recursion_from_All}
use Rattle.values.specs.declared.entity_uid.EntityUid.{EntityUid}
use Rattle.grammar_desugaring.specs.grammar_syntax.declared.token.TokenKind.{TokenKind}
use Rattle.grammar_desugaring.specs.grammar_syntax.declared.token.TokenKind.TheVariants as k
use Rattle.grammar_desugaring.specs.grammar_syntax.declared.token.Token.{Token}
use Rattle.grammar_desugaring.specs.grammar_syntax.Lexing.{IsLexed, IsBadAt, IsToken, spelling_of, EachIsLexedOrBad}
use Rattle.grammar_desugaring.specs.grammar_syntax.Lexing.{EachIsSpelled}
use Rattle.grammar_desugaring.specs.grammar_syntax.Strings.{IsStringOf, HasValue}
use Rattle.grammar_desugaring.specs.grammar_syntax.declared.fault.SyntaxFault.{SyntaxFault}
use Rattle.grammar_desugaring.specs.grammar_syntax.declared.fault.SyntaxFault.TheVariants as syntax
use Rattle.grammar_desugaring.specs.grammar_syntax.declared.name_trees.UidTree.{UidTree}
use Rattle.grammar_desugaring.specs.grammar_syntax.Kinds.{only}
use Rattle.grammar_desugaring.specs.grammar_syntax.Lang.{Lang, at_any}
use Rattle.grammar_desugaring.specs.grammar_syntax.ParseResults.{IsRefusedWithin, IsAnswerWithin, HasOneAnswer, HasOneAnswerWithin}
use Rattle.grammar_parsing.specs.Expressions.{nesting_limit}
use Rattle.grammar_parsing.specs.Grammar as grammar
use Rattle.grammar_parsing.specs.Grammar.{effects}
use Rattle.grammar_parsing.specs.WellFormed.{WellFormedToken, WellFormedUid, WellFormedValue}
use Rattle.grammar_parsing.specs.WellFormed.{WellFormedAnnotation, WellFormedPart, WellFormedAction}
use Rattle.grammar_parsing.specs.WellFormed.{WellFormedPolicy, IsMadeOfTokens}
use Rattle.grammar_parsing.specs.declared.tree.Annotation.{Annotation}
use Rattle.grammar_parsing.specs.declared.tree.PartTree.{PartTree}
use Rattle.grammar_parsing.specs.declared.tree.PartTree.TheVariants as part
use Rattle.grammar_parsing.specs.declared.tree.ActionTree.{ActionTree}
use Rattle.grammar_parsing.specs.declared.tree.ActionTree.TheVariants as action
use Rattle.grammar_parsing.specs.declared.tree.PolicyTree.{PolicyTree}
use Rattle.grammar_desugaring.specs.Meaning as meaning
use Rattle.grammar_desugaring.specs.Meaning.{path_name}
use Rattle.grammar_desugaring.specs.declared.fault.DesugarFault.{DesugarFault}
use Rattle.grammar_desugaring.specs.ReportedErrors.{least, NoneOfNone}
use Rattle.policy_grammar.specs.declared.policy.Effect.{Effect}
use Rattle.policy_grammar.specs.declared.policy.Effect.TheVariants.{Permit, Forbid}
use Rattle.policy_grammar.specs.declared.policy.EntityScope.{EntityScope}
use Rattle.policy_grammar.specs.declared.policy.EntityScope.TheVariants as entity
use Rattle.policy_grammar.specs.declared.policy.ActionScope.{ActionScope}
use Rattle.policy_grammar.specs.declared.policy.ActionScope.TheVariants as actions
use Rattle.policy_grammar.specs.declared.policy.Policy.{Policy}
use Rattle.policy_grammar.specs.declared.fault.ReadFault.{ReadFault}
use Rattle.policy_grammar.specs.declared.fault.ReadFault.TheVariants as fault
use Rattle.policy_grammar.specs.Conditions.{conditions_of}
use Rattle.policy_grammar.specs.CoreOf.{IsUidOf, AreUidsOf, IsEntityScopeOf, IsActionScopeOf, effect_word, IsCoreOf}
use Rattle.policy_grammar.specs.CoreOf.{AreCoresOf, IsValueOf, is_id, IsNameBy, IsNameOf, AreNamesOf}
use Rattle.policy_grammar.specs.Faults.{of_desugaring}
use Rattle.grammar_core.specs.Size.{most_height, most_nodes}
use Rattle.policy_grammar.specs.Limits.{Shape, height, node_count, shape_of, IsSmallShape, IsSmallTree, IsId, most_id_bytes}
use Rattle.policy_grammar.specs.Limits.{most_policy_bytes, most_file_bytes}
use Rattle.policy_grammar.specs.PolicyText.{Derives, byte_of, IsUnread, IsReportedOf, tree_faults, file_faults}
use Rattle.policy_grammar.specs.PolicyText.{IsPolicyOf, HasNoPolicy, ArePoliciesOf, HaveNoPolicies, IsUidText}
use Rattle.policy_grammar.specs.PolicyText.{IsUidRefused, IsPolicyText, IsPolicyRefused, IsFileRefused}
use Rattle.policy_grammar.specs.Unique.{IsFileOf}
use Rattle.policy_grammar.proofs.Lists.{text-kind}
use Rattle.policy_grammar.proofs.Sizes.{small_core, small_cores}

-- what texts and their tokens come to
pub record Laws : Type 0 where
  pub some : EachIsLexedOrBad
  pub spelled : EachIsSpelled
  pub values : HasValue
  pub none : NoneOfNone

-- it is so, or it isn't
abbrev Or : Type 0 → Type 0
Or P = P ⊎ (P → ⊥)

-- one number is within the other, or above it
within : (n m : ℕ) → (n ≤ m) ⊎ (m < n)
within n m = by (leb n m) refl
  where
    by : (b : Bool) → leb n m ≡ b → (n ≤ m) ⊎ (m < n)
    by true e = inl (leb-true n m e)
    by false e = inr (leb-false n m e)

-- both of two, or not both
both_or_not : {P Q : Type 0} → Or P → Or Q → Or (P × Q)
both_or_not (inl p) (inl q) = inl (p, q)
both_or_not (inl p) (inr q) = inr (λ two. q two.1)
both_or_not (inr p) q = inr (λ two. p two.0)

low_or_not : (n m : ℕ) → Or (n ≤ m)
low_or_not n m = by (within n m)
  where
    by : (n ≤ m) ⊎ (m < n) → Or (n ≤ m)
    by (inl low) = inl low
    by (inr over) = inr (not-le_of_lt over)

-- each of a list, or not each
all_or_not : {A : Type 0} (P : A → Type 0) → ((x : A) → Or (P x)) → (xs : List A) → Or (AllByRecursion P xs)
all_or_not P each [] = inl tt
all_or_not P each (x ∷ xs) = both_or_not (each x) (all_or_not P each xs)

-- ---- from the answer of the tokens to that of the text

module _ {A : Type 0} (L K : Lang A) (most : ℕ) (text : List ℕ) where
  abbrev ReadOrUnread : Type 0
  ReadOrUnread = ((x : A) × Derives L most text x) ⊎ ((why : ReadFault) × IsUnread L K most text why)

  unread : (tokens : List Token) → length text ≤ most → IsLexed text tokens → (e : SyntaxFault) → IsRefusedWithin L K tokens e → (why : ReadFault) × IsUnread L K most text why
  unread tokens short lexed syntax.NoMemory refused = absurd refused
  unread tokens short lexed (syntax.Unexpected place) refused =
      (fault.Unexpected (byte_of text (slice_get tokens place)), record { short = short; tokens = tokens; lexed = lexed; place = place; refused = refused; byte = refl })
  unread tokens short lexed (syntax.Slot place) refused =
      (fault.Slot (byte_of text (slice_get tokens place)), record { short = short; tokens = tokens; lexed = lexed; place = place; refused = refused; byte = refl })
  unread tokens short lexed (syntax.TooDeep place) refused =
      (fault.TooDeep (byte_of text (slice_get tokens place)), record { short = short; tokens = tokens; lexed = lexed; place = place; refused = refused; byte = refl })

  answered : (tokens : List Token) → length text ≤ most → IsLexed text tokens → (answer : Result A SyntaxFault) → IsAnswerWithin L K tokens answer → ReadOrUnread
  answered tokens short lexed (Ok x) derived = inl (x, record { short = short; tokens = tokens; lexed = lexed; derived = derived })
  answered tokens short lexed (Err e) refused = inr (unread tokens short lexed e refused)

  lexed_or_bad : HasOneAnswerWithin L K → length text ≤ most → ((ts : List Token) × IsLexed text ts) ⊎ ((at : ℕ) × IsBadAt text at) → ReadOrUnread
  lexed_or_bad answers short (inl lexed) = answered lexed.0 short lexed.1 (answers lexed.0).answer (answers lexed.0).comes
  lexed_or_bad answers short (inr bad) = inr (fault.BadToken bad.0, (short, bad.1))

  short_or_long : EachIsLexedOrBad → HasOneAnswerWithin L K → (length text ≤ most) ⊎ (most < length text) → ReadOrUnread
  short_or_long some answers (inl short) = lexed_or_bad answers short (some text)
  short_or_long some answers (inr long) = inr (fault.TooLong, long)

  read_or_unread : EachIsLexedOrBad → HasOneAnswerWithin L K → ReadOrUnread
  read_or_unread some answers = short_or_long some answers (within (length text) most)

-- ---- a tree whose tokens stand in a text has a core

effect_of : (kind : TokenKind) → effects kind ≡ true → (e : Effect) × (kind ≡ effect_word e)
effect_of k.Permit yes' = (Permit, refl)
effect_of k.Forbid yes' = (Forbid, refl)
effect_of _ no' = absurd (cc)

chosen : {A : Type 0} (P : A → Type 0) (b : Bool) (x : A) (o : Option A) → P x → IfSome o P → IfSome (if b then Some x else o) P
chosen P true x o here behind = here
chosen P false x o here behind = behind

-- of a list of which each is so, the first that passes
find-all : {A : Type 0} (P : A → Type 0) (p : A → Bool) (xs : List A) → AllByRecursion P xs → IfSome (find p xs) P
find-all P p [] all = tt
find-all P p (x ∷ xs) all = chosen P (p x) x (find p xs) all.0 (find-all P p xs all.1)

module _ (laws : Laws) (text : List ℕ) (ts : List Token) (lexed : IsLexed text ts) where
  spelled : (t : Token) → Contains ts t → IsToken t.kind (spelling_of text t)
  spelled t here =
      let each : All (λ u. IsToken u.kind (spelling_of text u)) ts = All-from_recursion (λ u. IsToken u.kind (spelling_of text u)) ts (laws.spelled text ts lexed) in
      subst (λ u. IsToken u.kind (spelling_of text u)) here.2 (each here.0 t here.1)

  string_of : (t : Token) → WellFormedToken (only k.Text) ts t → (value : List ℕ) × IsStringOf value (spelling_of text t)
  string_of t is_well_formed = laws.values (spelling_of text t) (subst (λ kind. IsToken kind (spelling_of text t)) (text-kind t.kind is_well_formed.1) (spelled t is_well_formed.0))

  uid_of : (tree : UidTree) → WellFormedUid ts tree → (uid : EntityUid) × IsUidOf text tree uid
  uid_of tree is_well_formed = (meaning.uid_of text tree, refl)

  uids_of : (trees : List UidTree) → AllByRecursion (WellFormedUid ts) trees → (uids : List EntityUid) × AreUidsOf text trees uids
  uids_of [] stand = ([], tt)
  uids_of (tree ∷ trees) stand =
      let first = uid_of tree stand.0 in
      let more = uids_of trees stand.1 in
      (first.0 ∷ more.0, (first.1, more.1))

  part_of : (tree : PartTree) → WellFormedPart ts tree → (scope : EntityScope) × IsEntityScopeOf text tree scope
  part_of part.Any is_well_formed = (entity.Any, tt)
  part_of (part.Equal tree) is_well_formed = let uid = uid_of tree is_well_formed in (entity.Equal uid.0, uid.1)
  part_of (part.In tree) is_well_formed = let uid = uid_of tree is_well_formed in (entity.In uid.0, uid.1)
  part_of (part.Is path) is_well_formed = (entity.Is (path_name text path), refl)
  part_of (part.IsIn path tree) is_well_formed = let uid = uid_of tree is_well_formed.1 in (entity.IsIn (path_name text path) uid.0, (refl, uid.1))

  action_of : (tree : ActionTree) → WellFormedAction ts tree → (scope : ActionScope) × IsActionScopeOf text tree scope
  action_of action.Any is_well_formed = (actions.Any, tt)
  action_of (action.Equal tree) is_well_formed = let uid = uid_of tree is_well_formed in (actions.Equal uid.0, uid.1)
  action_of (action.In tree) is_well_formed = let uid = uid_of tree is_well_formed in (actions.In uid.0, uid.1)
  action_of (action.InList trees) stand = let uids = uids_of trees stand in (actions.InList uids.0, uids.1)

  core_of : (tree : PolicyTree) → WellFormedPolicy ts tree → (policy : Policy) × IsCoreOf text tree policy
  core_of tree is_well_formed =
      let effect = effect_of tree.effect.kind is_well_formed.effect.1 in
      let principal = part_of tree.principal is_well_formed.principal in
      let action' = action_of tree.action is_well_formed.action in
      let resource = part_of tree.resource is_well_formed.resource in (
        record {
          effect = effect.0;
          scope = record { principal = principal.0; action = action'.0; resource = resource.0 };
          condition = conditions_of text tree.conditions;
        },
        record { effect = effect.1; principal = principal.1; action = action'.1; resource = resource.1; condition = refl },
      )

  cores_of : (trees : List PolicyTree) → AllByRecursion (WellFormedPolicy ts) trees → (policies : List Policy) × AreCoresOf text trees policies
  cores_of [] stand = ([], tt)
  cores_of (tree ∷ trees) stand =
      let first = core_of tree stand.0 in
      let more = cores_of trees stand.1 in
      (first.0 ∷ more.0, (first.1, more.1))

  value_of : (token : Option Token) → WellFormedValue ts token → (value : List ℕ) × IsValueOf text token value
  value_of None is_well_formed = ([], refl)
  value_of (Some token) is_well_formed = string_of token is_well_formed

  name_by : (place : ℕ) (id : Option Annotation) → IfSome id (WellFormedAnnotation ts) → (name : List ℕ) × IsNameBy text place id name
  name_by place None is_well_formed = (_, refl)
  name_by place (Some annotation) is_well_formed = value_of annotation.value is_well_formed.2

  name_of : (place : ℕ) (tree : PolicyTree) → WellFormedPolicy ts tree → (name : List ℕ) × IsNameOf text place tree name
  name_of place tree is_well_formed = name_by place (find (is_id text) tree.annotations) (find-all (WellFormedAnnotation ts) (is_id text) tree.annotations is_well_formed.annotations)

  names_from : (place : ℕ) (trees : List PolicyTree) → AllByRecursion (WellFormedPolicy ts) trees →
      (names : List (List ℕ)) × AllZip (λ (placed : ℕ × PolicyTree). IsNameOf text placed.0 placed.1) (enumerate_from place trees) names
  names_from place [] stand = ([], tt)
  names_from place (tree ∷ trees) stand =
      let first = name_of place tree stand.0 in
      let more = names_from (place + 1) trees stand.1 in
      (first.0 ∷ more.0, (first.1, more.1))

-- ---- a tree has a policy or not

sound_or_told : NoneOfNone → (faults : List DesugarFault) → (faults ≡ []) ⊎ ((why : ReadFault) × IsReportedOf faults why)
sound_or_told none faults = by (least faults) refl
  where
    by : (o : Option DesugarFault) → least faults ≡ o → (faults ≡ []) ⊎ ((why : ReadFault) × IsReportedOf faults why)
    by None e = inl (none faults e)
    by (Some first) e = inr (of_desugaring first, record { fault = first; first = e; told = refl })

small_or_not : (shape : Shape) → Or (IsSmallShape shape)
small_or_not shape = both_or_not (low_or_not (height shape) most_height) (low_or_not (node_count shape) most_nodes)

module _ (text : List ℕ) (tree : PolicyTree) (core : (policy : Policy) × IsCoreOf text tree policy) where
  small_or_large : tree_faults text tree ≡ [] → Or (IsSmallTree text tree) → ((policy : Policy) × IsPolicyOf text tree policy) ⊎ ((why : ReadFault) × HasNoPolicy text tree why)
  small_or_large sound (inl small) = inl (core.0, record { sound = sound; core = core.1; small = small_core text tree core.0 core.1 small })
  small_or_large sound (inr large) = inr (fault.TooDeep 0, inr (sound, (large, refl)))

  policy_or_told : (tree_faults text tree ≡ []) ⊎ ((why : ReadFault) × IsReportedOf (tree_faults text tree) why) →
      ((policy : Policy) × IsPolicyOf text tree policy) ⊎ ((why : ReadFault) × HasNoPolicy text tree why)
  policy_or_told (inl sound) = small_or_large sound (small_or_not (shape_of text tree))
  policy_or_told (inr told) = inr (told.0, inl told.1)

id_or_not : (name : List ℕ) → Or (IsId name)
id_or_not name = both_or_not (low_or_not 1 (length name)) (low_or_not (length name) most_id_bytes)

ids_or_not : (names : List (List ℕ)) → Or (All IsId names)
ids_or_not names = by (all_or_not IsId id_or_not names)
  where
    by : Or (AllByRecursion IsId names) → Or (All IsId names)
    by (inl all) = inl (All-from_recursion IsId names all)
    by (inr some) = inr (λ all. some (recursion_from_All IsId names all))

module _ (text : List ℕ) (trees : List PolicyTree) (names : List (List ℕ)) (named : AreNamesOf text trees names) (cores : (policies : List Policy) × AreCoresOf text trees policies) where
  abbrev PoliciesOrNone : Type 0
  PoliciesOrNone = ((policies : List Policy) × ArePoliciesOf text trees names policies) ⊎ ((why : ReadFault) × HaveNoPolicies text trees names why)

  within_or_over : file_faults text trees names ≡ [] → Or (AllByRecursion (IsSmallTree text) trees) → Or (All IsId names) → PoliciesOrNone
  within_or_over sound (inl small) (inl ids) =
      inl (cores.0, record { named = named; sound = sound; cores = cores.1; small = small_cores text trees cores.0 cores.1 small; ids = ids })
  within_or_over sound (inl small) (inr bad) = inr (fault.BadId, inr (sound, (small, bad)))
  within_or_over sound (inr large) ids = inr (fault.TooDeep 0, inr (sound, (large, refl)))

  policies_or_told : (file_faults text trees names ≡ []) ⊎ ((why : ReadFault) × IsReportedOf (file_faults text trees names) why) → PoliciesOrNone
  policies_or_told (inl sound) = within_or_over sound (all_or_not (IsSmallTree text) (λ tree. small_or_not (shape_of text tree)) trees) (ids_or_not names)
  policies_or_told (inr told) = inr (told.0, inl told.1)

-- ---- texts

module _ (laws : Laws) (text : List ℕ) where
  uid_by : IsMadeOfTokens grammar.uid WellFormedUid → ((tree : UidTree) × Derives grammar.uid most_policy_bytes text tree) ⊎ ((why : ReadFault) × IsUidRefused text why) →
      ((uid : EntityUid) × IsUidText text uid) ⊎ ((why : ReadFault) × IsUidRefused text why)
  uid_by stand (inl read) =
      let tree = read.0 in
      let derives = read.1 in
      let uid = uid_of laws text derives.tokens derives.lexed tree (stand derives.tokens tree derives.derived) in
      inl (uid.0, record { tree = tree; derives = derives; is = uid.1 })
  uid_by stand (inr none) = inr none

  policy_by : (tree : PolicyTree) → Derives (grammar.policy nesting_limit) most_policy_bytes text tree → ((policy : Policy) × IsPolicyOf text tree policy) ⊎ ((why : ReadFault) × HasNoPolicy text tree why) →
      ((policy : Policy) × IsPolicyText text policy) ⊎ ((why : ReadFault) × IsPolicyRefused text why)
  policy_by tree derives (inl policy) = inl (policy.0, record { tree = tree; derives = derives; is = policy.1 })
  policy_by tree derives (inr none) = inr (none.0, inr (tree, derives, none.1))

  policy_read : IsMadeOfTokens (grammar.policy nesting_limit) WellFormedPolicy →
      ((tree : PolicyTree) × Derives (grammar.policy nesting_limit) most_policy_bytes text tree)
      ⊎ ((why : ReadFault) × IsUnread (grammar.policy nesting_limit) (at_any grammar.policy) most_policy_bytes text why) →
      ((policy : Policy) × IsPolicyText text policy) ⊎ ((why : ReadFault) × IsPolicyRefused text why)
  policy_read stand (inl read) =
      let tree = read.0 in
      let derives = read.1 in
      let core = core_of laws text derives.tokens derives.lexed tree (stand derives.tokens tree derives.derived) in
      policy_by tree derives (policy_or_told text tree core (sound_or_told laws.none (tree_faults text tree)))
  policy_read stand (inr unread') = inr (unread'.0, inl unread'.1)

  file_by : (trees : List PolicyTree) (names : List (List ℕ)) → Derives (grammar.policies nesting_limit) most_file_bytes text trees → AreNamesOf text trees names →
      ((policies : List Policy) × ArePoliciesOf text trees names policies) ⊎ ((why : ReadFault) × HaveNoPolicies text trees names why) →
      ((file : List (List ℕ) × List Policy) × IsFileOf text file) ⊎ ((why : ReadFault) × IsFileRefused text why)
  file_by trees names derives named (inl policies) = inl ((names, policies.0), record { trees = trees; derives = derives; are = policies.1 })
  file_by trees names derives named (inr none) = inr (none.0, inr (trees, names, derives, named, none.1))

  file_read : IsMadeOfTokens (grammar.policies nesting_limit) (λ ts. AllByRecursion (WellFormedPolicy ts)) →
      ((trees : List PolicyTree) × Derives (grammar.policies nesting_limit) most_file_bytes text trees)
      ⊎ ((why : ReadFault) × IsUnread (grammar.policies nesting_limit) (at_any grammar.policies) most_file_bytes text why) →
      ((file : List (List ℕ) × List Policy) × IsFileOf text file) ⊎ ((why : ReadFault) × IsFileRefused text why)
  file_read stand (inl read) =
      let trees = read.0 in
      let derives = read.1 in
      let is_well_formed = stand derives.tokens trees derives.derived in
      let cores = cores_of laws text derives.tokens derives.lexed trees is_well_formed in
      let names = names_from laws text derives.tokens derives.lexed 0 trees is_well_formed in
      file_by trees names.0 derives names.1 (policies_or_told text trees names.0 names.1 cores (sound_or_told laws.none (file_faults text trees names.0)))
  file_read stand (inr unread') = inr (unread'.0, inl unread'.1)

pub uid_answered : Laws → HasOneAnswer grammar.uid → IsMadeOfTokens grammar.uid WellFormedUid → (text : List ℕ) → ((uid : EntityUid) × IsUidText text uid) ⊎ ((why : ReadFault) × IsUidRefused text why)
uid_answered laws answers stand text = uid_by laws text stand (read_or_unread grammar.uid grammar.uid most_policy_bytes text laws.some answers)

pub policy_answered : Laws → HasOneAnswerWithin (grammar.policy nesting_limit) (at_any grammar.policy) → IsMadeOfTokens (grammar.policy nesting_limit) WellFormedPolicy →
    (text : List ℕ) → ((policy : Policy) × IsPolicyText text policy) ⊎ ((why : ReadFault) × IsPolicyRefused text why)
policy_answered laws answers stand text =
    policy_read laws text stand (read_or_unread (grammar.policy nesting_limit) (at_any grammar.policy) most_policy_bytes text laws.some answers)

pub file_answered : Laws → HasOneAnswerWithin (grammar.policies nesting_limit) (at_any grammar.policies) → IsMadeOfTokens (grammar.policies nesting_limit) (λ ts. AllByRecursion (WellFormedPolicy ts)) →
    (text : List ℕ) → ((file : List (List ℕ) × List Policy) × IsFileOf text file) ⊎ ((why : ReadFault) × IsFileRefused text why)
file_answered laws answers stand text =
    file_read laws text stand (read_or_unread (grammar.policies nesting_limit) (at_any grammar.policies) most_file_bytes text laws.some answers)
