-- A text has one reading.
use Rattle.std.proofs.Common.{◌≡◌, ◌⊎◌, ℕ, ◌≤◌, ◌<◌, List, [], length, Some, None, All, Result, Ok, Err, refl, sym, ◌∙◌}
use Rattle.std.proofs.Common.{ap, subst, inl, inr, arith}
use Rattle.std.specs.List.{AllByRecursion}
use Rattle.grammar_desugaring.specs.grammar_syntax.declared.token.Token.{Token}
use Rattle.grammar_desugaring.specs.grammar_syntax.Lexing.{IsLexed, IsBadAt, OneLexing, BadIsNotLexed, OneBadPlace}
use Rattle.grammar_desugaring.specs.grammar_syntax.Strings.{OneValue}
use Rattle.grammar_parsing.specs.declared.tree.PolicyTree.{PolicyTree}
use Rattle.grammar_desugaring.specs.grammar_syntax.declared.fault.SyntaxFault.{SyntaxFault}
use Rattle.grammar_desugaring.specs.grammar_syntax.declared.fault.SyntaxFault.TheVariants as syntax
use Rattle.grammar_desugaring.specs.grammar_syntax.Lang.{Lang, at_any}
use Rattle.grammar_parsing.specs.Expressions.{nesting_limit}
use Rattle.grammar_parsing.specs.Grammar as grammar
use Rattle.grammar_desugaring.specs.grammar_syntax.ParseResults.{IsRefusedWithin, HasOneTree, HasOneAnswer, HasOneAnswerWithin}
use Rattle.policy_grammar.specs.declared.policy.Policy.{Policy}
use Rattle.policy_grammar.specs.declared.fault.ReadFault.{ReadFault}
use Rattle.policy_grammar.specs.declared.fault.ReadFault.TheVariants as fault
use Rattle.policy_grammar.specs.CoreOf.{IsUidOf, AreNamesOf}
use Rattle.grammar_desugaring.specs.declared.fault.DesugarFault.{DesugarFault}
use Rattle.grammar_desugaring.specs.ReportedErrors.{least}
use Rattle.policy_grammar.specs.Faults.{of_desugaring}
use Rattle.policy_grammar.specs.Limits.{most_policy_bytes, most_file_bytes, IsId, IsSmallTree}
use Rattle.policy_grammar.specs.PolicyText.{Derives, IsUnread, IsUidText, IsUidRefused, IsPolicyOf, IsPolicyText}
use Rattle.policy_grammar.specs.PolicyText.{tree_faults, file_faults, IsReportedOf, IsOverLimit, AreOverLimits}
use Rattle.policy_grammar.specs.PolicyText.{HasNoPolicy, IsPolicyRefused, ArePoliciesOf, HaveNoPolicies, IsFileRefused}
use Rattle.policy_grammar.specs.inner.TreeParts.{refusal_of}
use Rattle.policy_grammar.specs.Unique.{HasOneReading, IsFileOf}
use Rattle.policy_grammar.proofs.Cores.{uid-same, core-same, names-same, cores-same}
use Rattle.policy_grammar.proofs.Sizes.{small_tree, small_trees}

-- that texts have their tokens in one way
pub record Laws : Type 0 where
  pub lexing : OneLexing
  pub not_both : BadIsNotLexed
  pub one_place : OneBadPlace
  pub values : OneValue

-- a refusal that the grammar makes, by the refusal of the tokens
record Stopped {A : Type 0} (L K : Lang A) (most : ℕ) (text : List ℕ) (why : ReadFault) : Type 0 where
  pub short : length text ≤ most
  pub tokens : List Token
  pub lexed : IsLexed text tokens
  pub reason : SyntaxFault
  pub refused : IsRefusedWithin L K tokens reason
  pub same : why ≡ refusal_of text tokens reason

record TooLong (most : ℕ) (text : List ℕ) (why : ReadFault) : Type 0 where
  pub long : most < length text
  pub same : why ≡ fault.TooLong

record Bad (most : ℕ) (text : List ℕ) (why : ReadFault) : Type 0 where
  pub short : length text ≤ most
  pub at : ℕ
  pub bad : IsBadAt text at
  pub same : why ≡ fault.BadToken at

-- the three ways of an unread text
abbrev Unread : {A : Type 0} → Lang A → Lang A → ℕ → List ℕ → ReadFault → Type 0
Unread L K most text why = TooLong most text why ⊎ (Bad most text why ⊎ Stopped L K most text why)

view : {A : Type 0} (L K : Lang A) (most : ℕ) (text : List ℕ) (why : ReadFault) → IsUnread L K most text why → Unread L K most text why
view L K most text fault.TooLong unread = inl (record { long = unread; same = refl })
view L K most text (fault.BadToken at) unread = inr (inl (record { short = unread.0; at = at; bad = unread.1; same = refl }))
view L K most text (fault.Unexpected at) unread = inr (inr (record {
  short = unread.short;
  tokens = unread.tokens;
  lexed = unread.lexed;
  reason = syntax.Unexpected unread.place;
  refused = unread.refused;
  same = ap fault.Unexpected unread.byte;
}))
view L K most text (fault.Slot at) unread = inr (inr (record {
  short = unread.short;
  tokens = unread.tokens;
  lexed = unread.lexed;
  reason = syntax.Slot unread.place;
  refused = unread.refused;
  same = ap fault.Slot unread.byte;
}))
view L K most text (fault.TooDeep at) unread = inr (inr (record {
  short = unread.short;
  tokens = unread.tokens;
  lexed = unread.lexed;
  reason = syntax.TooDeep unread.place;
  refused = unread.refused;
  same = ap fault.TooDeep unread.byte;
}))
view L K most text _ unread = absurd unread

err-same : (A : Type 0) (e f : SyntaxFault) → ◌≡◌ {A = Result A SyntaxFault} (Err e) (Err f) → e ≡ f
err-same A e f same = cc

module _ {A : Type 0} (L K : Lang A) (most : ℕ) (text : List ℕ) (laws : Laws) (trees : HasOneTree L) (answers : HasOneAnswerWithin L K) where
  pub derives-same : (x y : A) → Derives L most text x → Derives L most text y → x ≡ y
  derives-same x y a b =
      trees b.tokens x y (subst (λ ts. L ts x) (laws.lexing text a.tokens b.tokens a.lexed b.lexed) a.derived) b.derived

  not_stopped : (x : A) (why : ReadFault) → Derives L most text x → Stopped L K most text why → ⊥
  not_stopped x why a s =
      let same = laws.lexing text s.tokens a.tokens s.lexed a.lexed in
      let answer = answers a.tokens in
      let ok : Ok x ≡ answer.answer = answer.only (Ok x) a.derived in
      let err : Err s.reason ≡ answer.answer = answer.only (Err s.reason) (subst (λ ts. IsRefusedWithin L K ts s.reason) same s.refused) in
      absurd (cc)

  not_unread : (x : A) (why : ReadFault) → Derives L most text x → Unread L K most text why → ⊥
  not_unread x why a (inl long) = let over = long.long in let short = a.short in absurd (omega arith)
  not_unread x why a (inr (inl bad)) = laws.not_both text bad.at a.tokens bad.bad a.lexed
  not_unread x why a (inr (inr stopped)) = not_stopped x why a stopped

  stopped-same : (why other : ReadFault) → Stopped L K most text why → Stopped L K most text other → why ≡ other
  stopped-same why other s t =
      let same = laws.lexing text s.tokens t.tokens s.lexed t.lexed in
      let answer = answers t.tokens in
      let first : Err s.reason ≡ answer.answer = answer.only (Err s.reason) (subst (λ ts. IsRefusedWithin L K ts s.reason) same s.refused) in
      let second : Err t.reason ≡ answer.answer = answer.only (Err t.reason) t.refused in
      s.same ∙ ap (λ ts. refusal_of text ts s.reason) same ∙ ap (refusal_of text t.tokens) (err-same A _ _ (first ∙ sym second)) ∙ sym t.same

  unread-same : (why other : ReadFault) → Unread L K most text why → Unread L K most text other → why ≡ other
  unread-same why other (inl a) (inl b) = a.same ∙ sym b.same
  unread-same why other (inl a) (inr (inl b)) = let over = a.long in let short = b.short in absurd (omega arith)
  unread-same why other (inl a) (inr (inr b)) = let over = a.long in let short = b.short in absurd (omega arith)
  unread-same why other (inr (inl a)) (inl b) = let over = b.long in let short = a.short in absurd (omega arith)
  unread-same why other (inr (inl a)) (inr (inl b)) = a.same ∙ ap fault.BadToken (laws.one_place text a.at b.at a.bad b.bad) ∙ sym b.same
  unread-same why other (inr (inl a)) (inr (inr b)) = absurd (laws.not_both text a.at b.tokens a.bad b.lexed)
  unread-same why other (inr (inr a)) (inl b) = let over = b.long in let short = a.short in absurd (omega arith)
  unread-same why other (inr (inr a)) (inr (inl b)) = absurd (laws.not_both text b.at a.tokens b.bad a.lexed)
  unread-same why other (inr (inr a)) (inr (inr b)) = stopped-same why other a b

  -- what is derived is not unread
  read-unread : (x : A) (why : ReadFault) → Derives L most text x → IsUnread L K most text why → ⊥
  read-unread x why a unread = not_unread x why a (view L K most text why unread)

-- each text has a value or a refusal
abbrev IsAnswered : {A : Type 0} → (List ℕ → A → Type 0) → (List ℕ → ReadFault → Type 0) → Type 0
IsAnswered {A} Holds Refused = (text : List ℕ) → ((x : A) × Holds text x) ⊎ ((why : ReadFault) × Refused text why)

pub uid_reading : Laws → HasOneTree grammar.uid → HasOneAnswer grammar.uid → IsAnswered IsUidText IsUidRefused → HasOneReading IsUidText IsUidRefused
uid_reading laws trees answers each = record {
  one_value = λ text u v a b. uid-same text b.tree u v
      (subst (λ t. IsUidOf text t u) (derives-same grammar.uid grammar.uid most_policy_bytes text laws trees answers a.tree b.tree a.derives b.derives) a.is) b.is;
  not_both = λ text u why a refused. read-unread grammar.uid grammar.uid most_policy_bytes text laws trees answers a.tree why a.derives refused;
  one_refusal = λ text why other a b. unread-same grammar.uid grammar.uid most_policy_bytes text laws trees answers why other
      (view grammar.uid grammar.uid most_policy_bytes text why a) (view grammar.uid grammar.uid most_policy_bytes text other b);
  some = each;
}

some-same : {A : Type 0} {x y : A} → Some x ≡ Some y → x ≡ y
some-same e = cc

-- one fault is told
told-same : (faults : List DesugarFault) (why other : ReadFault) → IsReportedOf faults why → IsReportedOf faults other → why ≡ other
told-same faults why other a b = a.told ∙ ap of_desugaring (some-same (sym a.first ∙ b.first)) ∙ sym b.told

told-or-none : (faults : List DesugarFault) (why : ReadFault) → faults ≡ [] → IsReportedOf faults why → ⊥
told-or-none faults why none told = let e : None ≡ Some told.fault = ap least (sym none) ∙ told.first in cc

-- a tree has a policy or not
over_or_not : (text : List ℕ) (tree : PolicyTree) (why : ReadFault) → IsSmallTree text tree → IsOverLimit text tree why → ⊥
over_or_not text tree (fault.TooDeep at) small over = over.0 small
over_or_not text tree _ small over = absurd over

policy_or_not : (text : List ℕ) (tree : PolicyTree) (policy : Policy) (why : ReadFault) → IsPolicyOf text tree policy → HasNoPolicy text tree why → ⊥
policy_or_not text tree policy why is (inl told) = told-or-none (tree_faults text tree) why is.sound told
policy_or_not text tree policy why is (inr over) = over_or_not text tree why (small_tree text tree policy is.core is.small) over.1

over-same : (text : List ℕ) (tree : PolicyTree) (why other : ReadFault) → IsOverLimit text tree why → IsOverLimit text tree other → why ≡ other
over-same text tree (fault.TooDeep a) (fault.TooDeep b) p q = ap fault.TooDeep (p.1 ∙ sym q.1)
over-same text tree (fault.TooDeep a) _ p q = absurd q
over-same text tree _ _ p q = absurd p

no_policy-same : (text : List ℕ) (tree : PolicyTree) (why other : ReadFault) → HasNoPolicy text tree why → HasNoPolicy text tree other → why ≡ other
no_policy-same text tree why other (inl p) (inl q) = told-same (tree_faults text tree) why other p q
no_policy-same text tree why other (inl p) (inr q) = absurd (told-or-none (tree_faults text tree) why q.0 p)
no_policy-same text tree why other (inr p) (inl q) = absurd (told-or-none (tree_faults text tree) other p.0 q)
no_policy-same text tree why other (inr p) (inr q) = over-same text tree why other p.1 q.1

policy_both : Laws → HasOneTree (grammar.policy nesting_limit) → HasOneAnswerWithin (grammar.policy nesting_limit) (at_any grammar.policy) → (text : List ℕ) (policy : Policy) (why : ReadFault) → IsPolicyText text policy →
    IsPolicyRefused text why → ⊥
policy_both laws trees answers text policy why a (inl unread) = read-unread (grammar.policy nesting_limit) (at_any grammar.policy) most_policy_bytes text laws trees answers a.tree why a.derives unread
policy_both laws trees answers text policy why a (inr none) =
    (policy_or_not text none.0 policy why
    (subst (λ t. IsPolicyOf text t policy) (derives-same (grammar.policy nesting_limit) (at_any grammar.policy) most_policy_bytes text laws trees answers a.tree none.0 a.derives none.1) a.is) none.2)

policy_refusal : Laws → HasOneTree (grammar.policy nesting_limit) → HasOneAnswerWithin (grammar.policy nesting_limit) (at_any grammar.policy) → (text : List ℕ) (why other : ReadFault) → IsPolicyRefused text why →
    IsPolicyRefused text other → why ≡ other
policy_refusal laws trees answers text why other (inl a) (inl b) =
    unread-same (grammar.policy nesting_limit) (at_any grammar.policy) most_policy_bytes text laws trees answers why other
    (view (grammar.policy nesting_limit) (at_any grammar.policy) most_policy_bytes text why a) (view (grammar.policy nesting_limit) (at_any grammar.policy) most_policy_bytes text other b)
policy_refusal laws trees answers text why other (inl a) (inr b) =
    absurd ((read-unread (grammar.policy nesting_limit) (at_any grammar.policy) most_policy_bytes text laws trees answers b.0 why b.1 a))
policy_refusal laws trees answers text why other (inr a) (inl b) =
    absurd ((read-unread (grammar.policy nesting_limit) (at_any grammar.policy) most_policy_bytes text laws trees answers a.0 other a.1 b))
policy_refusal laws trees answers text why other (inr a) (inr b) =
    no_policy-same text b.0 why other
    (subst (λ t. HasNoPolicy text t why) (derives-same (grammar.policy nesting_limit) (at_any grammar.policy) most_policy_bytes text laws trees answers a.0 b.0 a.1 b.1) a.2) b.2

pub policy_reading : Laws → HasOneTree (grammar.policy nesting_limit) → HasOneAnswerWithin (grammar.policy nesting_limit) (at_any grammar.policy) → IsAnswered IsPolicyText IsPolicyRefused
    → HasOneReading IsPolicyText IsPolicyRefused
policy_reading laws trees answers each = record {
  one_value = λ text p q a b. core-same text b.tree p q
      (subst (λ t. IsPolicyOf text t p) (derives-same (grammar.policy nesting_limit) (at_any grammar.policy) most_policy_bytes text laws trees answers a.tree b.tree a.derives b.derives) a.is).core b.is.core;
  not_both = policy_both laws trees answers;
  one_refusal = policy_refusal laws trees answers;
  some = each;
}

files_over_or_not : (text : List ℕ) (trees : List PolicyTree) (names : List (List ℕ)) (why : ReadFault) → AllByRecursion (IsSmallTree text) trees → All IsId names →
    AreOverLimits text trees names why → ⊥
files_over_or_not text trees names (fault.TooDeep at) small ids over = over.0 small
files_over_or_not text trees names fault.BadId small ids over = over.1 ids
files_over_or_not text trees names _ small ids over = absurd over

files_or_not : (text : List ℕ) (trees : List PolicyTree) (names : List (List ℕ)) (policies : List Policy) (why : ReadFault) → ArePoliciesOf text trees names policies →
    HaveNoPolicies text trees names why → ⊥
files_or_not text trees names policies why are (inl told) = told-or-none (file_faults text trees names) why are.sound told
files_or_not text trees names policies why are (inr over) = files_over_or_not text trees names why (small_trees text trees policies are.cores are.small) are.ids over.1

-- a file's trees have policies or not
policies_or_not : OneValue → (text : List ℕ) (trees : List PolicyTree) (names others : List (List ℕ)) (policies : List Policy) (why : ReadFault) →
    ArePoliciesOf text trees names policies → AreNamesOf text trees others → HaveNoPolicies text trees others why → ⊥
policies_or_not values text trees names others policies why are named none =
    files_or_not text trees names policies why are
    (subst (λ ns. HaveNoPolicies text trees ns why) (names-same values text trees others names named are.named) none)

files_over-same : (text : List ℕ) (trees : List PolicyTree) (names : List (List ℕ)) (why other : ReadFault) → AreOverLimits text trees names why →
    AreOverLimits text trees names other → why ≡ other
files_over-same text trees names (fault.TooDeep a) (fault.TooDeep b) p q = ap fault.TooDeep (p.1 ∙ sym q.1)
files_over-same text trees names (fault.TooDeep a) fault.BadId p q = absurd (p.0 q.0)
files_over-same text trees names (fault.TooDeep a) _ p q = absurd q
files_over-same text trees names fault.BadId (fault.TooDeep b) p q = absurd (q.0 p.0)
files_over-same text trees names fault.BadId fault.BadId p q = refl
files_over-same text trees names fault.BadId _ p q = absurd q
files_over-same text trees names _ _ p q = absurd p

no_policies-same : (text : List ℕ) (trees : List PolicyTree) (names : List (List ℕ)) (why other : ReadFault) → HaveNoPolicies text trees names why →
    HaveNoPolicies text trees names other → why ≡ other
no_policies-same text trees names why other (inl p) (inl q) = told-same (file_faults text trees names) why other p q
no_policies-same text trees names why other (inl p) (inr q) = absurd (told-or-none (file_faults text trees names) why q.0 p)
no_policies-same text trees names why other (inr p) (inl q) = absurd (told-or-none (file_faults text trees names) other p.0 q)
no_policies-same text trees names why other (inr p) (inr q) = files_over-same text trees names why other p.1 q.1

file_both : Laws → HasOneTree (grammar.policies nesting_limit) → HasOneAnswerWithin (grammar.policies nesting_limit) (at_any grammar.policies) → (text : List ℕ) (file : List (List ℕ) × List Policy) (why : ReadFault) → IsFileOf text file →
    IsFileRefused text why → ⊥
file_both laws trees answers text file why a (inl unread) = read-unread (grammar.policies nesting_limit) (at_any grammar.policies) most_file_bytes text laws trees answers a.trees why a.derives unread
file_both laws trees answers text file why a (inr none) =
    (policies_or_not laws.values text none.0 file.0 none.1 file.1 why
    (subst (λ ts. ArePoliciesOf text ts file.0 file.1) (derives-same (grammar.policies nesting_limit) (at_any grammar.policies) most_file_bytes text laws trees answers a.trees none.0 a.derives none.2) a.are) none.3 none.4)

file_refusal : Laws → HasOneTree (grammar.policies nesting_limit) → HasOneAnswerWithin (grammar.policies nesting_limit) (at_any grammar.policies) → (text : List ℕ) (why other : ReadFault) → IsFileRefused text why →
    IsFileRefused text other → why ≡ other
file_refusal laws trees answers text why other (inl a) (inl b) =
    unread-same (grammar.policies nesting_limit) (at_any grammar.policies) most_file_bytes text laws trees answers why other
    (view (grammar.policies nesting_limit) (at_any grammar.policies) most_file_bytes text why a) (view (grammar.policies nesting_limit) (at_any grammar.policies) most_file_bytes text other b)
file_refusal laws trees answers text why other (inl a) (inr b) =
    absurd ((read-unread (grammar.policies nesting_limit) (at_any grammar.policies) most_file_bytes text laws trees answers b.0 why b.2 a))
file_refusal laws trees answers text why other (inr a) (inl b) =
    absurd ((read-unread (grammar.policies nesting_limit) (at_any grammar.policies) most_file_bytes text laws trees answers a.0 other a.2 b))
file_refusal laws trees answers text why other (inr a) (inr b) =
    let same = derives-same (grammar.policies nesting_limit) (at_any grammar.policies) most_file_bytes text laws trees answers a.0 b.0 a.2 b.2 in
    let named = subst (λ ts. AreNamesOf text ts a.1) same a.3 in
    let none = subst (λ ts. HaveNoPolicies text ts a.1 why) same a.4 in
    no_policies-same text b.0 b.1 why other (subst (λ ns. HaveNoPolicies text b.0 ns why) (names-same laws.values text b.0 a.1 b.1 named b.3) none) b.4

abbrev both : List (List ℕ) → List Policy → List (List ℕ) × List Policy
both names policies = (names, policies)

file_value : Laws → HasOneTree (grammar.policies nesting_limit) → HasOneAnswerWithin (grammar.policies nesting_limit) (at_any grammar.policies) → (text : List ℕ) (f g : List (List ℕ) × List Policy) → IsFileOf text f → IsFileOf text g → f ≡ g
file_value laws trees answers text f g a b =
    let same = derives-same (grammar.policies nesting_limit) (at_any grammar.policies) most_file_bytes text laws trees answers a.trees b.trees a.derives b.derives in
    let are = subst (λ ts. ArePoliciesOf text ts f.0 f.1) same a.are in
    ap (λ (ns : List (List ℕ)). both ns f.1) (names-same laws.values text b.trees f.0 g.0 are.named b.are.named) ∙ ap (both g.0) (cores-same text b.trees f.1 g.1 are.cores b.are.cores)

pub file_reading : Laws → HasOneTree (grammar.policies nesting_limit) → HasOneAnswerWithin (grammar.policies nesting_limit) (at_any grammar.policies) → IsAnswered IsFileOf IsFileRefused
    → HasOneReading IsFileOf IsFileRefused
file_reading laws trees answers each = record {
  one_value = file_value laws trees answers;
  not_both = file_both laws trees answers;
  one_refusal = file_refusal laws trees answers;
  some = each;
}
