-- In each type of a file with its names found the keys ascend.
use Rattle.std.proofs.Common.{List, map, inl, inr, ap, subst}
use Rattle.std.specs.Prelude.{Contains}
use Rattle.schema_types.specs.Raw.{Raw}
use Rattle.schema_types.specs.Ascending.{RawAscends}
use Rattle.schema_types.specs.AscendingLaw.{JsonAscends, FoundTypesAscend}
use Rattle.schema_reading.specs.FileForm.{NamespaceOf}
use Rattle.schema_reading.specs.inner.FileLaws.{IsTypeOf, common, shape, context}
use Rattle.schema_reading.specs.inner.FileLaws as file
use Rattle.schema_reading.specs.Qualifying.{CommonOf, common_in, commons_declared, scope_in}
use Rattle.schema_reading.specs.Records.{MustBeRecord}
use Rattle.schema_reading.specs.Laws.{FilesTypesAscend}
use Rattle.schema_reading.proofs.FoundLemmas.{all_of_from, map_from, record_from, common_from}

module _ (ns : List NamespaceOf) (ascend : (n : NamespaceOf) → Contains ns n → (r : Raw) → IsTypeOf n r → RawAscends r) where
  common_ascends : (c : CommonOf) → Contains (commons_declared ns) c → RawAscends c.type
  common_ascends c here =
      let x = all_of_from (λ n. map (λ y. common_in n.name y) n.commons) ns c here in
      let m = map_from (λ y. common_in x.0.name y) x.0.commons c x.2 in
      subst RawAscends (ap (λ (y : CommonOf). y.type) m.2) (ascend x.0 x.1 m.0.1 (common m.0 m.1))

  record_ascends : (n : NamespaceOf) → Contains ns n → (r : Raw) → MustBeRecord n r → RawAscends r
  record_ascends n inside r (inl (e, here, is)) = ascend n inside r (shape e r here is)
  record_ascends n inside r (inr (a, here, (u, applies, is))) = ascend n inside r (context a u r here applies is)

pub files_types_ascend : JsonAscends → file.FilesTypesAscend → FoundTypesAscend → FilesTypesAscend
files_types_ascend json stated found bytes s h =
    let ascend = stated h.value h.namespaces h.shape (json bytes h.value h.json) in
    record {
      commons = λ q r d.
          let c = common_from h.namespaces s h.named.found q r d in
          found (scope_in h.namespaces) c.0.own c.0.type r c.3 (common_ascends h.namespaces ascend c.0 c.1);
      records = λ r here.
          let x = record_from h.namespaces s h.named.found r here in
          found (scope_in h.namespaces) x.0.name x.1 r x.4 (record_ascends h.namespaces ascend x.0 x.2 x.1 x.3);
    }
