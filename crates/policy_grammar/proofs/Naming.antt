-- Names and policies side by side, one more at each turn.
use Rattle.std.proofs.Common.{◌≡◌, ℕ, ◌+◌, List, [], ◌∷◌, ◌++◌, length, map, refl, sym, ◌∙◌, ap}
use Rattle.std.proofs.Common.{subst, arith, append_assoc, length-append, String, string_bytes}
use Rattle.std.specs.List.{AllByRecursion}
use Rattle.std.specs.declared.alloc.Global.{Global}
use Rattle.std.proofs.lemmas.List.{map-append, length-map}
use Rattle.std.proofs.lemmas.Slice.Zip.{AllZip-long}
use Rattle.grammar_parsing.specs.declared.tree.PolicyTree.{PolicyTree}
use Rattle.policy_grammar.specs.declared.policy.Policy.{Policy}
use Rattle.policy_grammar.specs.CoreOf.{IsCoreOf, AreCoresOf}
use Rattle.policy_grammar.proofs.Lists.{all_zip-more}

abbrev pub NamedPolicies : Type 0
NamedPolicies = List (String Global × Policy)

abbrev pub words : NamedPolicies → List (List ℕ)
words = map (λ p. string_bytes p.0)

abbrev pub cores : NamedPolicies → List Policy
cores = map (λ p. p.1)

-- as many as trees
counted : (text : List ℕ) (done : List PolicyTree) (named : NamedPolicies) → AreCoresOf text done (cores named) → length (words named) ≡ length done
counted text done named are =
    length-map named (λ p. string_bytes p.0) ∙ sym (length-map named (λ p. p.1)) ∙ AllZip-long (IsCoreOf text) done (cores named) are

long : (a b c : List (List ℕ)) → a ++ b ≡ c → length a + length b ≡ length c
long a b c e = sym (length-append a b) ∙ ap length e

long-trees : (a b c : List PolicyTree) → a ++ b ≡ c → length a + length b ≡ length c
long-trees a b c e = sym (length-append a b) ∙ ap length e

-- an item among others of which each is so
in_the_middle : (P : PolicyTree → Type 0) (done : List PolicyTree) (tree : PolicyTree) (more : List PolicyTree) → AllByRecursion P (done ++ tree ∷ more) → P tree
in_the_middle P [] tree more all = all.0
in_the_middle P (x ∷ xs) tree more all = in_the_middle P xs tree more all.1

pub among : (P : PolicyTree → Type 0) (done : List PolicyTree) (tree : PolicyTree) (more trees : List PolicyTree) → done ++ tree ∷ more ≡ trees → AllByRecursion P trees → P tree
among P done tree more trees whole all = in_the_middle P done tree more (subst (AllByRecursion P) (sym whole) all)

-- a name is left for each tree
pub name-left : (text : List ℕ) (done : List PolicyTree) (tree : PolicyTree) (more trees : List PolicyTree) (named : NamedPolicies) (rest names : List (List ℕ)) →
    words named ++ rest ≡ names → AreCoresOf text done (cores named) → done ++ tree ∷ more ≡ trees → length names ≡ length trees → length rest ≡ 0 → ⊥
name-left text done tree more trees named rest names all are taken same empty =
    let count = counted text done named are in
    let whole = long (words named) rest names all in
    let every = long-trees done (tree ∷ more) trees taken in
    absurd (omega arith)

append_none : {A : Type 0} (a : List A) → a ++ [] ≡ a
append_none [] = refl
append_none (x ∷ a) = ap (λ y. x ∷ y) (append_none a)

none-behind : (a b c : List (List ℕ)) → a ++ b ≡ c → length c ≡ length a → a ≡ c
none-behind a [] c e same = sym (append_none a) ∙ e
none-behind a (x ∷ b) c e same = let whole = long a (x ∷ b) c e in absurd (omega arith)

pub none-left : (more : List PolicyTree) → length more ≡ 0 → more ≡ []
none-left [] empty = refl
none-left (x ∷ more) empty = absurd (omega arith)

-- in the end all trees are taken
trees-all : (done more trees : List PolicyTree) → done ++ more ≡ trees → more ≡ [] → done ≡ trees
trees-all done more trees taken over = sym (append_none done) ∙ ap (λ ts. done ++ ts) (sym over) ∙ taken

pub cores-all : (text : List ℕ) (done more trees : List PolicyTree) (policies : List Policy) → done ++ more ≡ trees → more ≡ [] → AreCoresOf text done policies → AreCoresOf text trees policies
cores-all text done more trees policies taken over = subst (λ ts. AreCoresOf text ts policies) (trees-all done more trees taken over)

-- in the end no name is left
pub names-all : (text : List ℕ) (trees : List PolicyTree) (named : NamedPolicies) (rest names : List (List ℕ)) → words named ++ rest ≡ names →
    AreCoresOf text trees (cores named) → length names ≡ length trees → words named ≡ names
names-all text trees named rest names all are same =
    let count = counted text trees named are in
    none-behind (words named) rest names all (omega arith)

-- one policy with its name more: the names
pub words-step : (old new : NamedPolicies) (rest left names : List (List ℕ)) (name : List ℕ) (written : String Global) (policy : Policy) →
    words old ++ rest ≡ names → rest ≡ name ∷ left → string_bytes written ≡ name → new ≡ old ++ (written, policy) ∷ [] → words new ++ left ≡ names
words-step old new rest left names name written policy was popped same pushed =
    ap (λ xs. words xs ++ left) pushed ∙ ap (λ xs. xs ++ left) (map-append (λ p. string_bytes p.0) old ((written, policy) ∷ []))
    ∙ append_assoc (words old) (string_bytes written ∷ []) left ∙ ap (λ n. words old ++ n ∷ left) same ∙ ap (λ xs. words old ++ xs) (sym popped) ∙ was

-- the policies
pub cores-step : (text : List ℕ) (done : List PolicyTree) (tree : PolicyTree) (old new : NamedPolicies) (written : String Global) (policy : Policy) →
    AreCoresOf text done (cores old) → IsCoreOf text tree policy → new ≡ old ++ (written, policy) ∷ [] → AreCoresOf text (done ++ tree ∷ []) (cores new)
cores-step text done tree old new written policy was core pushed =
    subst (AreCoresOf text (done ++ tree ∷ [])) (sym (ap cores pushed ∙ map-append (λ p. p.1) old ((written, policy) ∷ [])))
    (all_zip-more (IsCoreOf text) done (cores old) tree policy was core)
