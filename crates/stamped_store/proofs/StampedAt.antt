-- Whether entries were stamped at a site, and whether the store that they stand for has such an update.
use Rattle.std.proofs.Common.{◌≡◌, ◌||◌, ◌++◌, ◌∷◌, [], ℕ, List, Bool, true, false, refl, ap, ap₂, sym, ◌∙◌, map}
use Rattle.std.proofs.lemmas.List.Folds.{list_any-append}
use Rattle.std.specs.List.{list_any}
use Rattle.std.specs.Str.{bytes_eq}
use Rattle.stamped_store.specs.declared.entry.Entry.{Entry}
use Rattle.stamped_store.specs.Abstraction.{abstract_entries}
use Rattle.stamped_store.specs.Store.{StoreEntries, abstract_store, abstract_updates, id_name, entity_name, updates}
use Rattle.stamped_store.specs.Stamping.{is_stamped_at, has_stamps_of}
use Rattle.values.specs.declared.name.Name.{Name}

-- an entry of the code was stamped at this site
abbrev pub at_site : {K P : Type 0} → List ℕ → K × Entry P → Bool
at_site site e = bytes_eq e.1.stamp.site site

or-false : (b : Bool) → (b || false) ≡ b
or-false true = refl
or-false false = refl

pub any_push : {X : Type 0} (p : X → Bool) (xs : List X) (x : X) → list_any p (xs ++ x ∷ []) ≡ (list_any p xs || p x)
any_push p xs x = list_any-append p xs (x ∷ []) ∙ ap (λ b. list_any p xs || b) (or-false (p x))

shown : {K P : Type 0} (name : K → Name) (site : List ℕ) (es : List (K × Entry P))
    → list_any (at_site site) es ≡ list_any (is_stamped_at site) (abstract_entries name es)
shown name site [] = refl
shown name site (e ∷ es) = ap (λ b. at_site site e || b) (shown name site es)

pub has_stamps_of-kept : {P E : Type 0} (site : List ℕ) (k : StoreEntries P E) (a b : Bool) → updates (abstract_store k) ≡ abstract_updates k
    → a ≡ list_any (at_site site) k.policies → b ≡ list_any (at_site site) k.entities → (a || b) ≡ has_stamps_of site (abstract_store k)
has_stamps_of-kept site k a b in_order of_policies of_entities =
    ap₂ (λ x y. x || y) (of_policies ∙ shown id_name site k.policies) (of_entities ∙ shown entity_name site k.entities)
    ∙ sym (list_any-append (is_stamped_at site) (abstract_entries id_name k.policies) (abstract_entries entity_name k.entities))
    ∙ ap (list_any (is_stamped_at site)) (sym in_order)
