-- The places of what common types name.
use Rattle.std.proofs.Common.{◌≡◌, ◌∙◌, ℕ, ◌+◌, ◌<◌, ◌≤◌, List, [], ◌∷◌, ◌++◌, map, length, drop, get_or, Bool, true, false, cond, Option, Some, None, String, BTreeMap, Vec, Global, string_bytes, string_cmp, refl, sym, ap, append_assoc, append-nil}
use Rattle.std.proofs.lemmas.List.{drop_all, map-append}
use Rattle.std.specs.Str.{bytes_eq}
use Rattle.std.specs.BTreeMap.{get_by_text, Updates}
use Rattle.std.proofs.lemmas.Map.Text.{btree_map_updates_text}
use Rattle.json_words.proofs.EachSame.{cut}
use Rattle.schema_types.specs.Orders.{graph_of, IsSuccessorsFirst}
use Rattle.schema_types.specs.Qualified as qualified
use Rattle.schema_types.specs.Qualified.{Qualified, QualifiedFields}
use Rattle.schema_types.specs.Expansions.{Declarations}
use Rattle.schema_types.specs.QualifiedViews.{qualified_view, qualified_fields_view, resolved_common_view}
use Rattle.schema_types.specs.declared.qualified.QualifiedType.{QualifiedType}
use Rattle.schema_types.specs.declared.qualified.ResolvedCommon.{ResolvedCommon}
use Rattle.schema_types.specs.inner.Order.{listed, places_named, fields_name, place_from, place_of, uses}

abbrev pub Field : Type 0
Field = String Global × QualifiedType × Bool

-- ---- fields

pub fields_begin : (found : List ℕ) → found ≡ found ++ []
fields_begin found = sym (append-nil found)

pub fields_step : (place : List ℕ → Option ℕ) (fields : List Field) (i : ℕ) (f : Field) (found found' all : List ℕ) → i < length fields → f ≡ get_or fields i f
    → found' ≡ found ++ places_named place (qualified_view f.1) → all ≡ found ++ fields_name place (qualified_fields_view (drop i fields))
    → all ≡ found' ++ fields_name place (qualified_fields_view (drop (i + 1) fields))
unfolding places_named
fields_step place fields i f found found' all lt at more before =
    before ∙ ap (λ (fs : List Field). found ++ fields_name place (qualified_fields_view fs)) (cut fields i f lt at)
    ∙ sym (append_assoc found (places_named place (qualified_view f.1)) (fields_name place (qualified_fields_view (drop (i + 1) fields))))
    ∙ ap (λ (l : List ℕ). l ++ fields_name place (qualified_fields_view (drop (i + 1) fields))) (sym more)

pub fields_done : (place : List ℕ → Option ℕ) (fields : List Field) (i : ℕ) (found all : List ℕ) → length fields ≤ i
    → all ≡ found ++ fields_name place (qualified_fields_view (drop i fields)) → found ≡ all
unfolding places_named
fields_done place fields i found all le before =
    sym (before ∙ ap (λ (fs : List Field). found ++ fields_name place (qualified_fields_view fs)) (drop_all i fields le) ∙ append-nil found)

-- ---- names that are declared

abbrev Map : Type 0
Map = BTreeMap (String Global) ℕ

pub place_step : (commons : List ResolvedCommon) (i : ℕ) (x : ResolvedCommon) (q : List ℕ) (old new : Map) (key : String Global) (all : Option ℕ)
    → i < length commons → x ≡ get_or commons i x → string_bytes key ≡ x.name → Updates string_cmp old new key (Some i)
    → all ≡ place_from i (map resolved_common_view (drop i commons)) q (get_by_text old q)
    → all ≡ place_from (i + 1) (map resolved_common_view (drop (i + 1) commons)) q (get_by_text new q)
place_step commons i x q old new key all lt at named updates before =
    before ∙ ap (λ (xs : List ResolvedCommon). place_from i (map resolved_common_view xs) q (get_by_text old q)) (cut commons i x lt at)
    ∙ ap (λ (o : Option ℕ). place_from (i + 1) (map resolved_common_view (drop (i + 1) commons)) q o) (sym now)
  where
    now : get_by_text new q ≡ cond (bytes_eq x.name q) (Some i) (get_by_text old q)
    now = btree_map_updates_text (string_bytes key) old new (Some i) updates q ∙ ap (λ (bs : List ℕ). cond (bytes_eq bs q) (Some i) (get_by_text old q)) named

pub place_done : (commons : List ResolvedCommon) (i : ℕ) (q : List ℕ) (found all : Option ℕ) → length commons ≤ i
    → all ≡ place_from i (map resolved_common_view (drop i commons)) q found → found ≡ all
place_done commons i q found all le before = sym (before ∙ ap (λ (xs : List ResolvedCommon). place_from i (map resolved_common_view xs) q found) (drop_all i commons le))

-- ---- the graph

abbrev pub uses_by : (List ℕ → Option ℕ) → List ResolvedCommon → List (List ℕ)
uses_by place xs = map (λ d. places_named place d.1) (map resolved_common_view xs)

pub uses_step : (place : List ℕ → Option ℕ) (commons : List ResolvedCommon) (i : ℕ) (x : ResolvedCommon) (edges edges' : List (Vec ℕ Global)) (named : Vec ℕ Global) (all : List (List ℕ))
    → i < length commons → x ≡ get_or commons i x → named.items ≡ places_named place (qualified_view x.ty) → edges' ≡ edges ++ named ∷ []
    → all ≡ graph_of edges ++ uses_by place (drop i commons) → all ≡ graph_of edges' ++ uses_by place (drop (i + 1) commons)
uses_step place commons i x edges edges' named all lt at is more before =
    before ∙ ap (λ (xs : List ResolvedCommon). graph_of edges ++ uses_by place xs) (cut commons i x lt at)
    ∙ ap (λ (l : List ℕ). graph_of edges ++ l ∷ uses_by place (drop (i + 1) commons)) (sym is)
    ∙ sym (append_assoc (graph_of edges) (named.items ∷ []) (uses_by place (drop (i + 1) commons)))
    ∙ ap (λ (l : List (List ℕ)). l ++ uses_by place (drop (i + 1) commons)) (sym (ap (λ (es : List (Vec ℕ Global)). graph_of es) more ∙ map-append (λ v. v.items) edges (named ∷ [])))

pub uses_done : (place : List ℕ → Option ℕ) (commons : List ResolvedCommon) (i : ℕ) (edges : List (Vec ℕ Global)) (all : List (List ℕ)) → length commons ≤ i
    → all ≡ graph_of edges ++ uses_by place (drop i commons) → graph_of edges ≡ all
uses_done place commons i edges all le before =
    sym (before ∙ ap (λ (xs : List ResolvedCommon). graph_of edges ++ uses_by place xs) (drop_all i commons le) ∙ append-nil (graph_of edges))

-- ---- one place for another

mutual
  unfolding places_named

  named_alike : (f g : List ℕ → Option ℕ) → ((q : List ℕ) → f q ≡ g q) → (r : Qualified) → places_named f r ≡ places_named g r
  named_alike f g h qualified.text = refl
  named_alike f g h qualified.long = refl
  named_alike f g h qualified.boolean = refl
  named_alike f g h qualified.decimal = refl
  named_alike f g h qualified.ipaddr = refl
  named_alike f g h (qualified.set r) = named_alike f g h r
  named_alike f g h (qualified.record_of rs) = fields_alike f g h rs
  named_alike f g h (qualified.entity n) = refl
  named_alike f g h (qualified.common q) = ap listed (h q)

  fields_alike : (f g : List ℕ → Option ℕ) → ((q : List ℕ) → f q ≡ g q) → (rs : QualifiedFields) → fields_name f rs ≡ fields_name g rs
  fields_alike f g h qualified.no_fields = refl
  fields_alike f g h (qualified.field k r b rs) = ap (λ (l : List ℕ). l ++ fields_name f rs) (named_alike f g h r) ∙ ap (λ (l : List ℕ). places_named g r ++ l) (fields_alike f g h rs)

all_alike : (f g : List ℕ → Option ℕ) → ((q : List ℕ) → f q ≡ g q) → (ds : Declarations) → map (λ d. places_named f d.1) ds ≡ map (λ d. places_named g d.1) ds
all_alike f g h [] = refl
all_alike f g h (d ∷ ds) = ap (λ (l : List ℕ). l ∷ map (λ d. places_named f d.1) ds) (named_alike f g h d.1) ∙ ap (λ (l : List (List ℕ)). places_named g d.1 ∷ l) (all_alike f g h ds)

pub are_uses : (commons : Declarations) (place : List ℕ → Option ℕ) → ((q : List ℕ) → place q ≡ place_of commons q) → map (λ d. places_named place d.1) commons ≡ uses commons
are_uses commons place h = all_alike place (place_of commons) h commons
