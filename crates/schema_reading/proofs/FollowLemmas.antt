-- What tells of common types that they mean no record tells it of each type.
use Rattle.std.proofs.Common.{◌≡◌, ◌∙◌, ℕ, List, Bool, true, Option, Some, None, refl, sym, ap}
use Rattle.std.specs.Prelude.{Contains}
use Rattle.schema_types.specs.Raw.{Raw}
use Rattle.schema_reading.specs.FileForm.{NamespaceOf}
use Rattle.schema_reading.specs.Qualifying.{CommonOf, commons_declared, scope_in}
use Rattle.schema_reading.specs.Records.{common_meant, is_no_record, MeansNoRecord, form, named}
use Rattle.schema_reading.specs.inner.Spreading.{means_by, is_known_non_record, NamesNoRecord}

abbrev pub Known : Type 0
Known = List ℕ → Bool

module _ (ns : List NamespaceOf) where
  abbrev pub IsSo : Known → Type 0
  IsSo known = (q : List ℕ) → known q ≡ true → NamesNoRecord ns q

  abbrev pub IsDone : Known → List CommonOf → Type 0
  IsDone known cs = (c : CommonOf) → Contains cs c → is_known_non_record known (scope_in ns) c.own c.type ≡ true → known c.name ≡ true

  -- what is found is so
  pub found_so : (known : Known) (own : Option (List ℕ)) (r : Raw) → IsSo known → is_known_non_record known (scope_in ns) own r ≡ true → MeansNoRecord ns own r
  found_so known own r h m = by (common_meant (scope_in ns) own r) refl m
    where
      by : (o : Option (List ℕ)) → common_meant (scope_in ns) own r ≡ o → means_by o known (is_no_record (scope_in ns) own r) ≡ true → MeansNoRecord ns own r
      by (Some q) e there = let n = h q there in named own r n.common (e ∙ ap (λ (p : List ℕ). Some p) (sym n.is)) n.declared n.means
      by None e there = form own r e there

  -- and where nothing is left to be found, all that is so was found
  pub all_found : (known : Known) → IsDone known (commons_declared ns) → (own : Option (List ℕ)) (r : Raw) → MeansNoRecord ns own r → is_known_non_record known (scope_in ns) own r ≡ true
  all_found known done _ _ (form own r e n) = rw e n
  all_found known done _ _ (named own r c e here m) = rw e (done c here (all_found known done c.own c.type m))
