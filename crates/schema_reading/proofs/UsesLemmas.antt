-- The common types of a file, listed, and their graph.
use Rattle.std.proofs.Common.{◌≡◌, ◌∙◌, ℕ, ◌+◌, ◌<◌, ◌≤◌, List, [], ◌∷◌, ◌++◌, map, length, drop, get_or, cond, Option, Some, None, String, BTreeMap, Vec, Global, string_bytes, string_cmp, refl, sym, ap, append_assoc, append-nil}
use Rattle.std.proofs.lemmas.List.{drop_all, map-append}
use Rattle.std.specs.Str.{bytes_eq}
use Rattle.std.specs.BTreeMap.{get_by_text, Updates}
use Rattle.std.proofs.lemmas.Map.Text.{btree_map_updates_text}
use Rattle.json_words.proofs.EachSame.{cut}
use Rattle.schema_types.specs.Orders.{graph_of}
use Rattle.schema_types.specs.Names.{Scope}
use Rattle.schema_reading.specs.declared.stated.StatedCommon.{StatedCommon}
use Rattle.schema_reading.specs.declared.stated.StatedNamespace.{StatedNamespace}
use Rattle.schema_reading.specs.inner.StatedViews.{common_view, namespace_view}
use Rattle.schema_reading.specs.Qualifying.{CommonOf, common_in, commons_declared}
use Rattle.schema_reading.specs.Records.{common_meant}
use Rattle.schema_reading.specs.inner.Uses.{listed_view, in_list, place_from, place_of, place_meant, place_used, uses}
use Rattle.schema_reading.specs.declared.order.ListedCommon.{ListedCommon}

-- ---- what is declared

abbrev pub commons_of : Option (List ℕ) → List StatedCommon → List CommonOf
commons_of own cs = map (λ c. common_in own c) (map common_view cs)

pub listed_step : (own : Option (List ℕ)) (cs : List StatedCommon) (i : ℕ) (c : StatedCommon) (x : ListedCommon) (listed listed' : List ListedCommon) (all : List CommonOf)
    → i < length cs → c ≡ get_or cs i c → listed_view x ≡ common_in own (common_view c) → listed' ≡ listed ++ x ∷ []
    → all ≡ map listed_view listed ++ commons_of own (drop i cs) → all ≡ map listed_view listed' ++ commons_of own (drop (i + 1) cs)
listed_step own cs i c x listed listed' all lt at is more before =
    before ∙ ap (λ (es : List StatedCommon). map listed_view listed ++ commons_of own es) (cut cs i c lt at)
    ∙ ap (λ (d : CommonOf). map listed_view listed ++ d ∷ commons_of own (drop (i + 1) cs)) (sym is)
    ∙ sym (append_assoc (map listed_view listed) (listed_view x ∷ []) (commons_of own (drop (i + 1) cs)))
    ∙ ap (λ (ds : List CommonOf). ds ++ commons_of own (drop (i + 1) cs)) (sym (ap (λ (ls : List ListedCommon). map listed_view ls) more ∙ map-append listed_view listed (x ∷ [])))

pub listed_done : (own : Option (List ℕ)) (cs : List StatedCommon) (i : ℕ) (listed : List ListedCommon) (all : List CommonOf) → length cs ≤ i
    → all ≡ map listed_view listed ++ commons_of own (drop i cs) → map listed_view listed ≡ all
listed_done own cs i listed all le before =
    sym (before ∙ ap (λ (es : List StatedCommon). map listed_view listed ++ commons_of own es) (drop_all i cs le) ∙ append-nil (map listed_view listed))

pub declared_step : (ns : List StatedNamespace) (i : ℕ) (n : StatedNamespace) (listed listed' : List ListedCommon) (all : List CommonOf)
    → i < length ns → n ≡ get_or ns i n → map listed_view listed' ≡ map listed_view listed ++ commons_of n.name n.commons
    → all ≡ map listed_view listed ++ commons_declared (map namespace_view (drop i ns)) → all ≡ map listed_view listed' ++ commons_declared (map namespace_view (drop (i + 1) ns))
declared_step ns i n listed listed' all lt at more before =
    before ∙ ap (λ (es : List StatedNamespace). map listed_view listed ++ commons_declared (map namespace_view es)) (cut ns i n lt at)
    ∙ sym (append_assoc (map listed_view listed) (commons_of n.name n.commons) (commons_declared (map namespace_view (drop (i + 1) ns))))
    ∙ ap (λ (ds : List CommonOf). ds ++ commons_declared (map namespace_view (drop (i + 1) ns))) (sym more)

pub declared_done : (ns : List StatedNamespace) (i : ℕ) (listed : List ListedCommon) (all : List CommonOf) → length ns ≤ i
    → all ≡ map listed_view listed ++ commons_declared (map namespace_view (drop i ns)) → map listed_view listed ≡ all
declared_done ns i listed all le before =
    sym (before ∙ ap (λ (es : List StatedNamespace). map listed_view listed ++ commons_declared (map namespace_view es)) (drop_all i ns le) ∙ append-nil (map listed_view listed))

-- ---- places of names

abbrev Map : Type 0
Map = BTreeMap (String Global) ℕ

pub place_step : (commons : List ListedCommon) (i : ℕ) (x : ListedCommon) (q : List ℕ) (old new : Map) (key : String Global) (all : Option ℕ)
    → i < length commons → x ≡ get_or commons i x → string_bytes key ≡ (listed_view x).name → Updates string_cmp old new key (Some i)
    → all ≡ place_from i (map listed_view (drop i commons)) q (get_by_text old q)
    → all ≡ place_from (i + 1) (map listed_view (drop (i + 1) commons)) q (get_by_text new q)
place_step commons i x q old new key all lt at named updates before =
    before ∙ ap (λ (xs : List ListedCommon). place_from i (map listed_view xs) q (get_by_text old q)) (cut commons i x lt at)
    ∙ ap (λ (o : Option ℕ). place_from (i + 1) (map listed_view (drop (i + 1) commons)) q o) (sym now)
  where
    now : get_by_text new q ≡ cond (bytes_eq (listed_view x).name q) (Some i) (get_by_text old q)
    now = btree_map_updates_text (string_bytes key) old new (Some i) updates q ∙ ap (λ (bs : List ℕ). cond (bytes_eq bs q) (Some i) (get_by_text old q)) named

pub place_done : (commons : List ListedCommon) (i : ℕ) (q : List ℕ) (found all : Option ℕ) → length commons ≤ i
    → all ≡ place_from i (map listed_view (drop i commons)) q found → found ≡ all
place_done commons i q found all le before = sym (before ∙ ap (λ (xs : List ListedCommon). place_from i (map listed_view xs) q found) (drop_all i commons le))

-- ---- the graph

abbrev pub uses_by : (List ℕ → Option ℕ) → Scope → List ListedCommon → List (List ℕ)
uses_by place s xs = map (λ c. place_used place s c) (map listed_view xs)

pub uses_step : (place : List ℕ → Option ℕ) (s : Scope) (commons : List ListedCommon) (i : ℕ) (x : ListedCommon) (edges edges' : List (Vec ℕ Global)) (used : Vec ℕ Global) (all : List (List ℕ))
    → i < length commons → x ≡ get_or commons i x → used.items ≡ place_used place s (listed_view x) → edges' ≡ edges ++ used ∷ []
    → all ≡ graph_of edges ++ uses_by place s (drop i commons) → all ≡ graph_of edges' ++ uses_by place s (drop (i + 1) commons)
uses_step place s commons i x edges edges' used all lt at is more before =
    before ∙ ap (λ (xs : List ListedCommon). graph_of edges ++ uses_by place s xs) (cut commons i x lt at)
    ∙ ap (λ (l : List ℕ). graph_of edges ++ l ∷ uses_by place s (drop (i + 1) commons)) (sym is)
    ∙ sym (append_assoc (graph_of edges) (used.items ∷ []) (uses_by place s (drop (i + 1) commons)))
    ∙ ap (λ (l : List (List ℕ)). l ++ uses_by place s (drop (i + 1) commons)) (sym (ap (λ (es : List (Vec ℕ Global)). graph_of es) more ∙ map-append (λ v. v.items) edges (used ∷ [])))

pub uses_done : (place : List ℕ → Option ℕ) (s : Scope) (commons : List ListedCommon) (i : ℕ) (edges : List (Vec ℕ Global)) (all : List (List ℕ)) → length commons ≤ i
    → all ≡ graph_of edges ++ uses_by place s (drop i commons) → graph_of edges ≡ all
uses_done place s commons i edges all le before =
    sym (before ∙ ap (λ (xs : List ListedCommon). graph_of edges ++ uses_by place s xs) (drop_all i commons le) ∙ append-nil (graph_of edges))

meant_alike : (f g : List ℕ → Option ℕ) → ((q : List ℕ) → f q ≡ g q) → (o : Option (List ℕ)) → place_meant f o ≡ place_meant g o
meant_alike f g h None = refl
meant_alike f g h (Some q) = h q

all_alike : (f g : List ℕ → Option ℕ) (s : Scope) → ((q : List ℕ) → f q ≡ g q) → (cs : List CommonOf) → map (λ c. place_used f s c) cs ≡ map (λ c. place_used g s c) cs
all_alike f g s h [] = refl
all_alike f g s h (c ∷ cs) = ap (λ (o : Option ℕ). in_list o ∷ map (λ x. place_used f s x) cs) (meant_alike f g h (common_meant s c.own c.type)) ∙ ap (λ (l : List (List ℕ)). place_used g s c ∷ l) (all_alike f g s h cs)

pub are_uses : (s : Scope) (commons : List CommonOf) (place : List ℕ → Option ℕ) → ((q : List ℕ) → place q ≡ place_of commons q) → map (λ c. place_used place s c) commons ≡ uses s commons
are_uses s commons place h = all_alike place (place_of commons) s h commons
