-- Defines the results of the search for the first undeclared name.
use Rattle.std.specs.Prelude.{◌≡◌, ℕ, List, [], ◌∷◌, ◌++◌, All, Option, MatchOption}
use Rattle.grammar_core.specs.declared.expr.Expr.{Expr}
use Rattle.grammar_core.specs.declared.expr.Expr.TheViews.{out-Expr}
use Rattle.type_checker.specs.schema.Schemas.{StatedSchema}
use Rattle.validator.specs.Names.{Name, names_in}
use Rattle.validator.specs.Unknown.{IsUnknown, IsKnown, FirstUnknown}
use Rattle.fault_places.specs.NamesAt.{names_at, name_view, FirstUnknownAt}
use Rattle.fault_places.specs.declared.unknown_names.NameFault.{NameFault}

-- `AreNames s ns o` holds if `o` is a name with its error, and `ns` consists of this name alone, which the schema `s`
-- does not declare; or if `o` is `None`, and `s` declares each name in `ns`.
abbrev pub AreNames : StatedSchema → List Name → Option NameFault → Type 0
AreNames s ns o = MatchOption o (All (IsKnown s) ns)
    (λ f. (ns ≡ name_view f.name ∷ []) × IsUnknown s (name_view f.name) f.fault)

-- `IsOwnName s x o` holds if `o` is the name that the form of `x` itself has and that `s` does not declare, with its
-- error; or if `o` is `None`, and the form has no name of its own or `s` declares it.
abbrev pub IsOwnName : StatedSchema → Expr → Option NameFault → Type 0
IsOwnName s x o = AreNames s (names_at (out-Expr x)) o

-- `IsNameFound s x old new o` holds if `o` is the first name in `x` that the schema `s` does not declare, with its
-- error, and the path `new` is `old` followed by the path from `x` to the name; or `o` is `None`, `s` declares each
-- name in `x`, and `new` is `old`.
abbrev pub IsNameFound : StatedSchema → Expr → List ℕ → List ℕ → Option NameFault → Type 0
IsNameFound s x old new o = MatchOption o (All (IsKnown s) (names_in x) × (new ≡ old))
    (λ f. (p : List ℕ) × (new ≡ old ++ p) × FirstUnknown s (names_in x) f.fault
    × FirstUnknownAt s x p (name_view f.name) f.fault)
