-- The keys of a map are those of the object that it stands for.
use Rattle.std.proofs.Common.{◌≡◌, Bool, ℕ, List, [], ◌∷◌, map, String, BTreeMap, Global, string_bytes, refl, ap, Bor}
use Rattle.std.specs.Prelude.{◌&&◌, ◌||◌}
use Rattle.std.specs.Map.{keys_of}
use Rattle.std.specs.BTreeMap.{keys}
use Rattle.std.specs.List.{list_all, list_any}
use Rattle.std.specs.Str.{bytes_eq}
use Rattle.serde_json.specs.View.{members_view}
use Rattle.serde_json.specs.declared.value.Value.{Value}
use Rattle.json_words.specs.Keys.{keys_within}

list_any-names : (name : List ℕ) (ks : List (Bor (List ℕ))) → list_any (λ k. bytes_eq k.now name) ks ≡ list_any (λ a. bytes_eq a name) (map (λ k. k.now) ks)
list_any-names name [] = refl
list_any-names name (k ∷ ks) = ap (λ b. bytes_eq k.now name || b) (list_any-names name ks)

keys_within-entries : (allowed : List (Bor (List ℕ))) (es : List (String Global × Value))
    → list_all (λ k. list_any (λ a. bytes_eq a.now (string_bytes k)) allowed) (keys_of es) ≡ keys_within (map (λ k. k.now) allowed) (members_view es)
keys_within-entries allowed [] = refl
keys_within-entries allowed (e ∷ es) = rw (list_any-names (string_bytes e.0) allowed) (ap (λ b. list_any (λ a. bytes_eq a (string_bytes e.0)) (map (λ k. k.now) allowed) && b) (keys_within-entries allowed es))

pub keys_within_view : (allowed : List (Bor (List ℕ))) (m : BTreeMap (String Global) Value)
    → keys_within (map (λ k. k.now) allowed) (members_view m.entries) ≡ list_all (λ k. list_any (λ a. bytes_eq a.now (string_bytes k)) allowed) (keys m)
keys_within_view allowed m = rw (← keys_within-entries allowed m.entries) refl

pub list_any_map : {A B : Type 0} (p : B → Bool) (f : A → B) (xs : List A) → list_any p (map f xs) ≡ list_any (λ x. p (f x)) xs
list_any_map p f [] = refl
list_any_map p f (x ∷ xs) = ap (λ b. p (f x) || b) (list_any_map p f xs)
