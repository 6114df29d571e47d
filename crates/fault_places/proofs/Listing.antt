-- The words for types, and for lists of them.
use Rattle.std.proofs.Common.{◌≡◌, ◌∙◌, ℕ, List, [], ◌∷◌, ◌++◌, map, sym, ap, refl}
use Rattle.std.specs.Prelude.{codes, Bool}
use Rattle.std.specs.Borrow.{Bor}
use Rattle.schema_types.specs.declared.cedar.CedarType.{CedarType}
use Rattle.schema_types.specs.CedarViews.{cedar_fields_view}
use Rattle.type_checker.specs.FromSchemas.{static_fields}
use Rattle.type_checker.specs.declared.static_type.StaticType.{StaticType}
use Rattle.type_checker.specs.declared.static_type.StaticType.TheVariants as variant
use Rattle.type_checker.specs.declared.static_type.StaticType.TheViews as shown
use Rattle.type_checker.specs.declared.static_type.StaticType.TheOpen.{StaticType-F}
use Rattle.type_checker.specs.declared.static_type.StaticType.TheFolds.{fold-roll-StaticType}
use Rattle.type_checker.specs.declared.static_type.BooleanType.{BooleanType}
use Rattle.type_checker.specs.declared.static_type.BooleanType.TheVariants as truth
use Rattle.type_checker.specs.declared.static_type.Leaf.{Leaf}
use Rattle.type_checker.specs.declared.static_type.Leaf.TheVariants as leaf
use Rattle.type_checker.specs.Views.{boolean_view, leaf_view, static_view, static_step, built_fields}
use Rattle.typing.specs.Types as types
use Rattle.fault_places.specs.Words.{type_word, more_words, types_words, more_names, names_or}

-- the word for the type t
abbrev pub word_of : StaticType → List ℕ
word_of t = type_word (static_view t)

pub listed_types : (ts : List StaticType) → names_or [] (codes ": ") (map word_of ts) ≡ types_words (map static_view ts)
listed_types [] = refl
listed_types (t ∷ ts) = ap (λ l. codes ": " ++ word_of t ++ l) (more ts)
  where
    more : (us : List StaticType) → more_names (map word_of us) ≡ more_words (map static_view us)
    more [] = refl
    more (u ∷ us) = ap (λ l. codes ", " ++ word_of u ++ l) (more us)

-- types by their outermost layer
pub leaf_is : (t : StaticType) (l : Leaf) → t ≡ variant.Leaf l → static_view t ≡ leaf_view l
leaf_is t l e = ap static_view (e ∙ sym (shown.rolls-Leaf l)) ∙ fold-roll-StaticType types.StaticType static_step (StaticType-F.Leaf l)

pub declared_is : (t : StaticType) (fs : Bor (List (List ℕ × CedarType × Bool))) → t ≡ variant.DeclaredRecord fs
    → static_view t ≡ types.record_type (static_fields (cedar_fields_view fs.now))
declared_is t fs e =
    ap static_view (e ∙ sym (shown.rolls-DeclaredRecord fs)) ∙ fold-roll-StaticType types.StaticType static_step (StaticType-F.DeclaredRecord fs)

pub built_is : (t : StaticType) (fs : List (Bor (List ℕ) × StaticType × Bool)) → t ≡ shown.Record fs
    → static_view t ≡ types.record_type (built_fields (map (λ f. (f.0, static_view f.1, f.2)) fs))
built_is t fs e = ap static_view (e ∙ sym (shown.rolls-Record fs)) ∙ fold-roll-StaticType types.StaticType static_step (StaticType-F.Record fs)

pub leaf_word : (t : StaticType) (l : Leaf) (w : List ℕ) → t ≡ variant.Leaf l → w ≡ type_word (leaf_view l) → w ≡ word_of t
leaf_word t l w e f = f ∙ sym (ap type_word (leaf_is t l e))

pub boolean_word : (l : Leaf) (b : BooleanType) → l ≡ leaf.Boolean b → codes "Boolean" ≡ type_word (leaf_view l)
boolean_word l b e = of b ∙ ap (λ k. type_word (leaf_view k)) (sym e)
  where
    of : (k : BooleanType) → codes "Boolean" ≡ type_word (boolean_view k)
    of truth.True = refl
    of truth.False = refl
    of truth.Either = refl
