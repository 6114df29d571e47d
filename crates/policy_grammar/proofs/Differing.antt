-- The fault that is told is the one at the least place, and the names of a file differ.
use Rattle.std.proofs.Common.{◌≡◌, ℕ, Bool, true, false, cond, List, [], ◌∷◌, length, map, filter, Some, refl, sym, ◌∙◌}
use Rattle.std.proofs.Common.{ap, subst, arith}
use Rattle.std.specs.List.{AllByRecursion, IsDistinct, zip, flat_map}
use Rattle.std.specs.Str.{bytes_eq}
use Rattle.std.proofs.lemmas.Slice.Zip.{AllZip-long}
use Rattle.grammar_desugaring.specs.declared.fault.DesugarFault.{DesugarFault}
use Rattle.grammar_desugaring.specs.declared.fault.DesugarFault.TheVariants as desugar
use Rattle.grammar_desugaring.specs.ReportedErrors.{at, LeastIsLeast}
use Rattle.grammar_desugaring.specs.Repeats.{NameAt, places_of, repeats}
use Rattle.policy_grammar.specs.CoreOf.{IsCoreOf}
use Rattle.policy_grammar.specs.Faults.{place_of, of_desugaring}
use Rattle.policy_grammar.specs.PolicyText.{tree_faults}
use Rattle.policy_grammar.specs.Repeats.{start_of, policy_names}
use Rattle.policy_grammar.specs.Unique.{ReportedIsLeast, EachIsNamed, NamesDiffer}
use Rattle.policy_grammar.proofs.Lists.{none-left, none-right}
use Rattle.policy_grammar.proofs.Refusing.{names-long}

placed : (fault : DesugarFault) → place_of (of_desugaring fault) ≡ Some (at fault)
placed (desugar.NumberRange p) = refl
placed (desugar.UnknownCall p) = refl
placed (desugar.Arity p) = refl
placed (desugar.RepeatedKey p) = refl

pub told_is_least : LeastIsLeast → ReportedIsLeast
told_is_least least faults why told = (told.fault, least faults told.fault told.first, ap place_of told.told ∙ placed told.fault)

-- ---- names

pub each_is_named : EachIsNamed
each_is_named text names policies file =
    names-long text file.trees names file.are.named ∙ sym (AllZip-long (IsCoreOf text) file.trees policies file.are.cores)

abbrev marked : List NameAt → List (List ℕ)
marked = map (λ m. m.name)

-- where a name stands nowhere, no name is this one
other : (b : Bool) (m : NameAt) (rest : List NameAt) → map (λ x. x.at) (cond b (m ∷ rest) rest) ≡ [] → (b ≡ false) × (map (λ x. x.at) rest ≡ [])
other true m rest none = absurd (cc)
other false m rest none = (refl, none)

nowhere : (name : List ℕ) (ms : List NameAt) → places_of name ms ≡ [] → AllByRecursion (λ y. bytes_eq name y ≡ false) (marked ms)
nowhere name [] none = tt
nowhere name (m ∷ ms) none =
    let parts = other (bytes_eq name m.name) m (filter (λ x. bytes_eq name x.name) ms) none in
    (parts.0, nowhere name ms parts.1)

none-of : (ns : List ℕ) → map desugar.RepeatedKey ns ≡ [] → ns ≡ []
none-of [] none = refl
none-of (n ∷ ns) none = absurd (cc)

distinct : (ms : List NameAt) → repeats ms ≡ [] → IsDistinct bytes_eq (marked ms)
unfolding IsDistinct
distinct [] none = tt
distinct (m ∷ ms) none =
    (nowhere m.name ms (none-left (places_of m.name ms) (repeats ms) none), distinct ms (none-right (places_of m.name ms) (repeats ms) none))

marked_names : {T : Type 0} (start : T → ℕ) (names : List (List ℕ)) (trees : List T) → length names ≡ length trees →
    marked (map (λ named. record { name = named.0; at = start named.1 }) (zip names trees)) ≡ names
marked_names start [] trees long = refl
marked_names start (name ∷ names) [] long = absurd (omega arith)
marked_names start (name ∷ names) (tree ∷ trees) long = ap (λ (ns : List (List ℕ)). name ∷ ns) (marked_names start names trees (omega arith))

pub names_differ : NamesDiffer
names_differ text names policies file =
    let marks = policy_names names file.trees in
    let none = none-left (map desugar.RepeatedKey (repeats marks)) (flat_map (tree_faults text) file.trees) file.are.sound in
    subst (IsDistinct bytes_eq) (marked_names start_of names file.trees (names-long text file.trees names file.are.named)) (distinct marks (none-of (repeats marks) none))
